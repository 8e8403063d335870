-- A block's turn: what stands behind `turn`.
-- Assumes nothing.
use Prim.Native.Nat.{ℕ, ◌+◌, ◌≤◌, ◌<◌}
use mathlib.Core.Path.{◌≡◌, refl, sym, ap, ◌∙◌}
use mathlib.Core.Bool.{Bool, true, false}
use mathlib.Core.List.{List}
use native.Mathlib.Omega.{arith}
use borrow.Author.Tests.{leb-true, leb-false}
use lib.Dec.{leb}
use lib.ListN.{length}
use Rattle.bits.proofs.Least.{least_le}
use Rattle.refusal.specs.declared.Refusal.{Refusal}
use Rattle.refusal.specs.declared.Refusal.TheVariants.{NoRoom}
use Rattle.packing.specs.declared.Taken.{Taken}
use Rattle.std.specs.Prelude.{Option, Some, None, Ok, Err}
use Rattle.std.specs.Option.{ok_or}
use Rattle.packing.specs.Pack.{free, first_free}
use Rattle.blocks.specs.Real.{real}
use Rattle.gen_magic.specs.declared.Source.{Source}
use Rattle.gen_magic.specs.declared.Settled.{Settled}
use Rattle.gen_magic.specs.Builds.{slots}
use Rattle.gen_magic.specs.Turn.{choice_by, why_of, turn_by, turn}

-- a path from 0 to 1 stands for two cases of an enum that are equal
apart : ◌≡◌ {A = ℕ} 0 1 → ⊥
apart e = omega arith

pub first_low : (size rays : ℕ) (marks : ℕ → ℕ) (end : ℕ) → first_free size rays marks end ≤ end
unfolding first_free
first_low size rays marks end = least_le end (free size rays marks)

module _ (source : Source) (b end : ℕ) (marks : List ℕ) where
  -- the block's place
  abbrev pub place_in : ℕ
  place_in = first_free (real.size b) (real.rays b) (slots marks) end

  pub record Goes (t : Settled) : Type 0 where
    pub place_is : t.place ≡ place_in
    pub room : place_in + real.size b ≤ length marks
    pub chose : choice_by source b ≡ Some t.taken

  pub goes : (t : Settled) → Ok t ≡ turn source b end marks → Goes t
  unfolding turn
  goes t e = go (leb (place_in + real.size b) (length marks)) (choice_by source b) refl refl e
    where
      go : (c : Bool) (q : Option Taken) → leb (place_in + real.size b) (length marks) ≡ c → choice_by source b ≡ q → Ok t ≡ turn_by b place_in c (ok_or q (why_of source b)) → Goes t
      go false q ec eq e = absurd (apart cc)
      go true None ec eq e = absurd (apart cc)
      go true (Some y) ec eq e =
          let es : t ≡ record { place = place_in; taken = y } = cc in
          record { place_is = ap (λ (t : Settled). t.place) es; room = leb-true (place_in + real.size b) (length marks) ec; chose = eq ∙ ap (λ (t : Settled). Some t.taken) (sym es) }

  -- what ended the build
  pub data Stops (r : Refusal) : Type 0 where
    full : length marks < place_in + real.size b → r ≡ NoRoom b → Stops r
    nothing : place_in + real.size b ≤ length marks → choice_by source b ≡ None → r ≡ why_of source b → Stops r

  pub stops : (r : Refusal) → Err r ≡ turn source b end marks → Stops r
  unfolding turn
  stops r e = go (leb (place_in + real.size b) (length marks)) (choice_by source b) refl refl e
    where
      go : (c : Bool) (q : Option Taken) → leb (place_in + real.size b) (length marks) ≡ c → choice_by source b ≡ q → Err r ≡ turn_by b place_in c (ok_or q (why_of source b)) → Stops r
      go false q ec eq e = let er : r ≡ NoRoom b = cc in full (leb-false (place_in + real.size b) (length marks) ec) er
      go true None ec eq e = let er : r ≡ why_of source b = cc in nothing (leb-true (place_in + real.size b) (length marks) ec) eq er
      go true (Some y) ec eq e = absurd (apart cc)
