-- A finished build is right: each look-up is the walk, and zeros follow the used slots.
-- Assumes `Laws`.
use Prim.Native.Nat.{ℕ, ◌<◌, ◌^◌}
use mathlib.Core.Path.{◌≡◌, sym, ap, ◌∙◌}
use mathlib.Core.Bool.{true}
use native.Mathlib.Nat.{le_refl}
use native.Mathlib.Omega.{arith}
use lib.Bits.{bit_and, and_zero_r}
use Rattle.bits.specs.Shown.{sum}
use Rattle.packing.specs.declared.Taken.{Taken}
use Rattle.std.specs.Prelude.{Option, Some}
use Rattle.packing.specs.Pack.{Blocks, clean, by_search, by_lent, State, done, seed_build, lent_build}
use Rattle.packing.specs.Promised.{Laws, Right}
use Rattle.packing.proofs.Run.{Ran}
use Rattle.packing.proofs.Success.{end_fits, end_total, offset_end}
use Rattle.packing.proofs.Choices.{search_clean, lent_clean}
use Rattle.packing.proofs.Sound.{Sound}
use Rattle.packing.proofs.Packed.{sound}

module _ (B : Blocks) (L : Laws B) where
  right : (len why : ℕ) (choice : ℕ → Option Taken) → ((b : ℕ) (x : Taken) → choice b ≡ Some x → clean B b x.multiplier ≡ true) → (s : State) → Ran B len why choice 128 s → Right B len s
  right len why choice good s e =
      let w : Sound B 128 s = sound B L len why choice good 128 s (le_refl 128) e in
      record {
        reads = λ b i h l. (w.kept b i h l).reads;
        inside = offset_end B len why choice 128 s e;
        used = end_total B len why choice 128 s e;
        fits = end_fits B len why choice 128 s e;
        table_after = λ j h. sym (w.within j) ∙ ap (bit_and (s.table j)) (w.beyond j h) ∙ and_zero_r (s.table j);
        marks_after = w.beyond;
      }

  pub seed_right : (candidate : ℕ → ℕ) (k len : ℕ) (s : State) → seed_build B candidate k len ≡ done s → Right B len s
  unfolding seed_build
  seed_right candidate k len s e = right len 5 (by_search B candidate k) (search_clean B candidate k) s e

  pub lent_right : (lent : ℕ → ℕ) (len : ℕ) (s : State) → lent_build B lent len ≡ done s → Right B len s
  unfolding lent_build
  lent_right lent len s e = right len 6 (by_lent B lent) (lent_clean B lent) s e

-- "offset (32 bits)"
pub offset_32 : (B : Blocks) (len : ℕ) (s : State) → Right B len s → sum 128 B.size < 2 ^ 32 → (b : ℕ) → b < 128 → s.offset b < 2 ^ 32
offset_32 B len s r t b h = omega (arith, r.inside b h, r.used)
