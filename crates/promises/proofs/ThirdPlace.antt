-- Bishop C1 finds no place among 64 slots that bishop A1 fills: their rays meet on B2.
-- Assumes nothing.
use Prim.Native.Nat.{ℕ, ◌+◌, ◌≤◌, ◌<◌, max}
use mathlib.Core.Path.{◌≡◌, refl, sym, ap, ◌∙◌}
use mathlib.Core.Bool.{Bool, true, ◌&&◌, true≢false}
use native.Mathlib.Nat.{add-zero}
use native.Mathlib.Omega.{arith}
use lib.Bits.{bit_and}
use lib.Dec.{lit<}
use Rattle.bits.specs.Set.{has}
use Rattle.bits.proofs.Sets.{has_and, has_zero}
use Rattle.board.specs.Board.{rays}
use Rattle.board.specs.Blocks.{kind_of, square_of, size_of}
use Rattle.packing.specs.declared.Taken.{Taken}
use Rattle.packing.specs.Pack.{start, place, next}
use Rattle.packing.specs.Promised.{Apart, after}
use Rattle.packing.proofs.Places.{place_first, one_place}
use Rattle.packing.proofs.Exactly.{after_offset, after_taken}
use Rattle.blocks.specs.Real.{real}
use Rattle.blocks.proofs.Real.{first_size}
use Rattle.blocks.proofs.Board.{first_place, second_place}
use Rattle.promises.proofs.EachSlot.{end_next, each_slot}
use Rattle.promises.proofs.FirstBishops.{two, two_hits}

a1_b2 : has (real.rays 0) 9 ≡ true
unfolding rays kind_of square_of has
a1_b2 = refl

c1_b2 : has (real.rays 2) 9 ≡ true
unfolding rays kind_of square_of has
c1_b2 = refl

second_small : real.size 1 ≤ 64
unfolding size_of kind_of square_of
second_small = omega arith

third_some : 0 < real.size 2
unfolding size_of kind_of square_of
third_some = omega arith

both : (a b : Bool) → a ≡ true → b ≡ true → (a && b) ≡ true
both a b p q = cc

module _ (taken : ℕ → Taken) (is_two : (taken 0).multiplier ≡ two) where
  end_is : (after real taken 2).end ≡ 64
  unfolding after
  end_is =
      end_next real 1 (next real 0 start (taken 0)) (taken 1)
      ∙ plain (next real 0 start (taken 0)).end (place real 0 start) (place real 1 (next real 0 start (taken 0))) (real.size 0) (real.size 1) (end_next real 0 start (taken 0)) first_place (second_place (taken 0)) first_size second_small
    where
      plain : (e p q s t : ℕ) → e ≡ max 0 (p + s) → p ≡ 0 → q ≡ 0 → s ≡ 64 → t ≤ 64 → max e (q + t) ≡ 64
      plain e p q s t a b c d f = omega arith

  start_place : place real 0 (after real taken 0) ≡ 0
  unfolding after
  start_place = first_place

  -- each of the 64 slots has B2 marked
  marked : (j : ℕ) → j < 64 → has ((after real taken 2).marks j) 9 ≡ true
  marked j h =
      let w = two_hits j h in
      ((each_slot real taken 2).in_marks j 9).1
      (record {
        block = 0;
        subset = w.by;
        a_block = lit< tt;
        a_subset = w.low;
        there =
            ap (λ (o : ℕ). o + real.index 0 ((after real taken 2).taken 0).multiplier w.by) (after_offset real taken 2 0 (lit< tt) ∙ start_place)
            ∙ zero_plus (real.index 0 ((after real taken 2).taken 0).multiplier w.by)
            ∙ ap (λ (m : ℕ). real.index 0 m w.by) (ap (λ (x : Taken). x.multiplier) (after_taken real taken 2 0 (lit< tt)) ∙ is_two)
            ∙ w.at;
        has_it = a1_b2;
      })
    where
      zero_plus : (n : ℕ) → 0 + n ≡ n
      zero_plus n = omega arith

  none_free : (i : ℕ) → i < 64 → Apart (real.size 2) (real.rays 2) (after real taken 2).marks i → ⊥
  none_free i h f = true≢false
      (sym (both (has ((after real taken 2).marks i) 9) (has (real.rays 2) 9) (marked i h) c1_b2)
      ∙ sym (has_and ((after real taken 2).marks i) (real.rays 2) 9)
      ∙ ap (λ (n : ℕ). has n 9) (ap (λ (k : ℕ). bit_and ((after real taken 2).marks k) (real.rays 2)) (sym (add-zero i)) ∙ f 0 third_some)
      ∙ has_zero 9)

  pub third_place : place real 2 (after real taken 2) ≡ 64
  third_place =
      one_place (real.size 2) (real.rays 2) (after real taken 2).marks (after real taken 2).end _ 64 (place_first real 2 (after real taken 2))
      (record { most = omega (arith, end_is); apart = λ l. absurd (omega (arith, end_is)); none_before = none_free })
