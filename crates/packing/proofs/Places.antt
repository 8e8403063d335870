-- A block's place is the one number that 01's sentence says.
-- Assumes nothing.
use Prim.Native.Nat.{ℕ, ◌+◌, ◌<◌}
use mathlib.Core.Path.{◌≡◌, sym, ◌∙◌, subst}
use mathlib.Core.Bool.{Bool, true≢false}
use native.Mathlib.Omega.{arith}
use native.Mathlib.Decide.{dec_lt}
use borrow.Author.Tests.{eq-eqb}
use lib.Bits.{bit_and}
use lib.Dec.{T, eqb, eqb→eq}
use Rattle.bits.proofs.Every.{every_at, every_holds}
use Rattle.bits.proofs.Least.{least_le, least_passes, least_before}
use Rattle.packing.specs.Pack.{Blocks, State, free, first_free, place}
use Rattle.packing.specs.Promised.{Placed}

pub place_first : (B : Blocks) (b : ℕ) (s : State) → Placed (B.size b) (B.rays b) s.marks s.end (place B b s)
unfolding place first_free free
place_first B b s =
    record {
      most = least_le s.end is_free;
      apart = λ l j h. eqb→eq _ 0 (every_at (B.size b) (slot_free (place B b s)) (subst T (sym (least_passes s.end is_free l)) tt) j h);
      none_before = λ i l f. true≢false (sym (every_holds (B.size b) (slot_free i) (λ j h. eq-eqb _ 0 (f j h))) ∙ least_before s.end is_free i l);
    }
  where
    is_free : ℕ → Bool
    is_free = free (B.size b) (B.rays b) s.marks

    slot_free : ℕ → ℕ → Bool
    slot_free i j = eqb (bit_and (s.marks (i + j)) (B.rays b)) 0

pub one_place : (size rays : ℕ) (marks : ℕ → ℕ) (end p q : ℕ) → Placed size rays marks end p → Placed size rays marks end q → p ≡ q
one_place size rays marks end p q a b = go (dec_lt p q) (dec_lt q p)
  where
    go : Dec (p < q) → Dec (q < p) → p ≡ q
    go (yes l) d = absurd (b.none_before p l (a.apart (omega (arith, b.most))))
    go (no g) (yes l) = absurd (a.none_before q l (b.apart (omega (arith, a.most))))
    go (no g) (no h) = omega arith
