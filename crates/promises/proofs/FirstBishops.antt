-- The first two bishops' blocks, computed over listed subsets, walks and slots: which of some multipliers are clean there.
-- Assumes nothing.
use Prim.Native.Nat.{ℕ, ◌<◌}
use mathlib.Core.Path.{◌≡◌, refl, sym, ◌∙◌, subst}
use mathlib.Core.Bool.{true, false}
use mathlib.Core.List.{List, [], ◌∷◌}
use borrow.Author.Tests.{eqb-true, eqb-false}
use lib.Dec.{T, eqb, ltb, ltb→lt, lit<}
use lib.ListN.{get_or}
use Rattle.bits.specs.Set.{every, least, count}
use Rattle.bits.proofs.Every.{every_at}
use Rattle.bits.proofs.Least.{least_passes}
use Rattle.bits.specs.Shown.{shown}
use Rattle.board.specs.Board.{mask, attack}
use Rattle.board.specs.Blocks.{kind_of, square_of, size_of, shift_of, subset}
use Rattle.packing.specs.Pack.{destructive, agree, clean}
use Rattle.packing.proofs.Agree.{agree_fails}
use Rattle.packing.proofs.Slots.{Hit}
use Rattle.blocks.specs.Real.{magic_index, skips, real}
use Rattle.promises.proofs.BishopLists.{Lists, slot_is, clean_is}

abbrev subsets_a1 : List ℕ
subsets_a1 = 0x0 ∷ 0x200 ∷ 0x40000 ∷ 0x40200 ∷ 0x8000000 ∷ 0x8000200 ∷ 0x8040000 ∷ 0x8040200 ∷ 0x1000000000 ∷ 0x1000000200 ∷ 0x1000040000 ∷ 0x1000040200 ∷ 0x1008000000 ∷ 0x1008000200 ∷ 0x1008040000 ∷ 0x1008040200 ∷ 0x200000000000 ∷ 0x200000000200 ∷ 0x200000040000 ∷ 0x200000040200 ∷ 0x200008000000 ∷ 0x200008000200 ∷ 0x200008040000 ∷ 0x200008040200 ∷ 0x201000000000 ∷ 0x201000000200 ∷ 0x201000040000 ∷ 0x201000040200 ∷ 0x201008000000 ∷ 0x201008000200 ∷ 0x201008040000 ∷ 0x201008040200 ∷ 0x40000000000000 ∷ 0x40000000000200 ∷ 0x40000000040000 ∷ 0x40000000040200 ∷ 0x40000008000000 ∷ 0x40000008000200 ∷ 0x40000008040000 ∷ 0x40000008040200 ∷ 0x40001000000000 ∷ 0x40001000000200 ∷ 0x40001000040000 ∷ 0x40001000040200 ∷ 0x40001008000000 ∷ 0x40001008000200 ∷ 0x40001008040000 ∷ 0x40001008040200 ∷ 0x40200000000000 ∷ 0x40200000000200 ∷ 0x40200000040000 ∷ 0x40200000040200 ∷ 0x40200008000000 ∷ 0x40200008000200 ∷ 0x40200008040000 ∷ 0x40200008040200 ∷ 0x40201000000000 ∷ 0x40201000000200 ∷ 0x40201000040000 ∷ 0x40201000040200 ∷ 0x40201008000000 ∷ 0x40201008000200 ∷ 0x40201008040000 ∷ 0x40201008040200 ∷ []

abbrev walks_a1 : List ℕ
walks_a1 = 0x8040201008040200 ∷ 0x200 ∷ 0x40200 ∷ 0x200 ∷ 0x8040200 ∷ 0x200 ∷ 0x40200 ∷ 0x200 ∷ 0x1008040200 ∷ 0x200 ∷ 0x40200 ∷ 0x200 ∷ 0x8040200 ∷ 0x200 ∷ 0x40200 ∷ 0x200 ∷ 0x201008040200 ∷ 0x200 ∷ 0x40200 ∷ 0x200 ∷ 0x8040200 ∷ 0x200 ∷ 0x40200 ∷ 0x200 ∷ 0x1008040200 ∷ 0x200 ∷ 0x40200 ∷ 0x200 ∷ 0x8040200 ∷ 0x200 ∷ 0x40200 ∷ 0x200 ∷ 0x40201008040200 ∷ 0x200 ∷ 0x40200 ∷ 0x200 ∷ 0x8040200 ∷ 0x200 ∷ 0x40200 ∷ 0x200 ∷ 0x1008040200 ∷ 0x200 ∷ 0x40200 ∷ 0x200 ∷ 0x8040200 ∷ 0x200 ∷ 0x40200 ∷ 0x200 ∷ 0x201008040200 ∷ 0x200 ∷ 0x40200 ∷ 0x200 ∷ 0x8040200 ∷ 0x200 ∷ 0x40200 ∷ 0x200 ∷ 0x1008040200 ∷ 0x200 ∷ 0x40200 ∷ 0x200 ∷ 0x8040200 ∷ 0x200 ∷ 0x40200 ∷ 0x200 ∷ []

abbrev subsets_b1 : List ℕ
subsets_b1 = 0x0 ∷ 0x400 ∷ 0x80000 ∷ 0x80400 ∷ 0x10000000 ∷ 0x10000400 ∷ 0x10080000 ∷ 0x10080400 ∷ 0x2000000000 ∷ 0x2000000400 ∷ 0x2000080000 ∷ 0x2000080400 ∷ 0x2010000000 ∷ 0x2010000400 ∷ 0x2010080000 ∷ 0x2010080400 ∷ 0x400000000000 ∷ 0x400000000400 ∷ 0x400000080000 ∷ 0x400000080400 ∷ 0x400010000000 ∷ 0x400010000400 ∷ 0x400010080000 ∷ 0x400010080400 ∷ 0x402000000000 ∷ 0x402000000400 ∷ 0x402000080000 ∷ 0x402000080400 ∷ 0x402010000000 ∷ 0x402010000400 ∷ 0x402010080000 ∷ 0x402010080400 ∷ []

abbrev walks_b1 : List ℕ
walks_b1 = 0x80402010080500 ∷ 0x500 ∷ 0x80500 ∷ 0x500 ∷ 0x10080500 ∷ 0x500 ∷ 0x80500 ∷ 0x500 ∷ 0x2010080500 ∷ 0x500 ∷ 0x80500 ∷ 0x500 ∷ 0x10080500 ∷ 0x500 ∷ 0x80500 ∷ 0x500 ∷ 0x402010080500 ∷ 0x500 ∷ 0x80500 ∷ 0x500 ∷ 0x10080500 ∷ 0x500 ∷ 0x80500 ∷ 0x500 ∷ 0x2010080500 ∷ 0x500 ∷ 0x80500 ∷ 0x500 ∷ 0x10080500 ∷ 0x500 ∷ 0x80500 ∷ 0x500 ∷ []

-- ---- seed 5749's first candidate, and seed 14914's

abbrev pub one : ℕ
one = 0xa041880600820012

abbrev pub two : ℕ
two = 0x1d082081100a200

abbrev slots_one_a1 : List ℕ
slots_one_a1 = 0 ∷ 32 ∷ 8 ∷ 40 ∷ 12 ∷ 44 ∷ 20 ∷ 52 ∷ 2 ∷ 34 ∷ 10 ∷ 42 ∷ 14 ∷ 46 ∷ 22 ∷ 54 ∷ 16 ∷ 48 ∷ 24 ∷ 56 ∷ 28 ∷ 60 ∷ 36 ∷ 4 ∷ 18 ∷ 50 ∷ 26 ∷ 58 ∷ 30 ∷ 62 ∷ 38 ∷ 6 ∷ 1 ∷ 33 ∷ 9 ∷ 41 ∷ 13 ∷ 45 ∷ 21 ∷ 53 ∷ 3 ∷ 35 ∷ 11 ∷ 43 ∷ 15 ∷ 47 ∷ 23 ∷ 55 ∷ 17 ∷ 49 ∷ 25 ∷ 57 ∷ 29 ∷ 61 ∷ 37 ∷ 5 ∷ 19 ∷ 51 ∷ 27 ∷ 59 ∷ 31 ∷ 63 ∷ 39 ∷ 7 ∷ []

abbrev slots_two_a1 : List ℕ
slots_two_a1 = 0 ∷ 40 ∷ 2 ∷ 42 ∷ 16 ∷ 56 ∷ 18 ∷ 58 ∷ 4 ∷ 44 ∷ 6 ∷ 46 ∷ 20 ∷ 60 ∷ 22 ∷ 62 ∷ 5 ∷ 45 ∷ 7 ∷ 47 ∷ 21 ∷ 61 ∷ 23 ∷ 63 ∷ 9 ∷ 49 ∷ 11 ∷ 51 ∷ 25 ∷ 1 ∷ 27 ∷ 3 ∷ 32 ∷ 8 ∷ 34 ∷ 10 ∷ 48 ∷ 24 ∷ 50 ∷ 26 ∷ 36 ∷ 12 ∷ 38 ∷ 14 ∷ 52 ∷ 28 ∷ 54 ∷ 30 ∷ 37 ∷ 13 ∷ 39 ∷ 15 ∷ 53 ∷ 29 ∷ 55 ∷ 31 ∷ 41 ∷ 17 ∷ 43 ∷ 19 ∷ 57 ∷ 33 ∷ 59 ∷ 35 ∷ []

abbrev slots_two_b1 : List ℕ
slots_two_b1 = 0 ∷ 8 ∷ 2 ∷ 10 ∷ 16 ∷ 24 ∷ 18 ∷ 26 ∷ 4 ∷ 12 ∷ 6 ∷ 14 ∷ 20 ∷ 28 ∷ 22 ∷ 30 ∷ 5 ∷ 13 ∷ 7 ∷ 15 ∷ 21 ∷ 29 ∷ 23 ∷ 31 ∷ 9 ∷ 17 ∷ 11 ∷ 19 ∷ 25 ∷ 1 ∷ 27 ∷ 3 ∷ []

lists_one_a1 : Lists 0 64 one subsets_a1 walks_a1 slots_one_a1
unfolding shown subset attack magic_index shift_of
lists_one_a1 = record { subsets_are = refl; walks_are = refl; slots_are = refl }

lists_two_a1 : Lists 0 64 two subsets_a1 walks_a1 slots_two_a1
unfolding shown subset attack magic_index shift_of
lists_two_a1 = record { subsets_are = refl; walks_are = refl; slots_are = refl }

lists_two_b1 : Lists 1 32 two subsets_b1 walks_b1 slots_two_b1
unfolding shown subset attack magic_index shift_of
lists_two_b1 = record { subsets_are = refl; walks_are = refl; slots_are = refl }

agree_one_a1 : agree 64 (λ i. get_or slots_one_a1 i 0) (λ i. get_or walks_a1 i 0) ≡ true
unfolding agree every destructive
agree_one_a1 = refl

agree_two_a1 : agree 64 (λ i. get_or slots_two_a1 i 0) (λ i. get_or walks_a1 i 0) ≡ true
unfolding agree every destructive
agree_two_a1 = refl

agree_two_b1 : agree 32 (λ i. get_or slots_two_b1 i 0) (λ i. get_or walks_b1 i 0) ≡ true
unfolding agree every destructive
agree_two_b1 = refl

pub one_clean_a1 : clean real 0 one ≡ true
unfolding clean kind_of square_of size_of
one_clean_a1 = clean_is 0 64 one subsets_a1 walks_a1 slots_one_a1 lists_one_a1 ∙ agree_one_a1

pub two_clean_a1 : clean real 0 two ≡ true
unfolding clean kind_of square_of size_of
two_clean_a1 = clean_is 0 64 two subsets_a1 walks_a1 slots_two_a1 lists_two_a1 ∙ agree_two_a1

pub two_clean_b1 : clean real 1 two ≡ true
unfolding clean kind_of square_of size_of
two_clean_b1 = clean_is 1 32 two subsets_b1 walks_b1 slots_two_b1 lists_two_b1 ∙ agree_two_b1

-- each of bishop A1's 64 slots is hit by a subset
all_hit : every 64 (λ j. ltb (least 64 (λ i. eqb (get_or slots_two_a1 i 0) j)) 64) ≡ true
unfolding every least
all_hit = refl

pub two_hits : (j : ℕ) → j < 64 → Hit (real.index 0 two) (real.size 0) j
unfolding kind_of square_of size_of
two_hits j h =
    let i : ℕ = least 64 (λ i. eqb (get_or slots_two_a1 i 0) j) in
    let l : i < 64 = ltb→lt i 64 (every_at 64 (λ j. ltb (least 64 (λ i. eqb (get_or slots_two_a1 i 0) j)) 64) (subst T (sym all_hit) tt) j h) in
    record { by = i; low = l; at = slot_is 0 64 two subsets_a1 walks_a1 slots_two_a1 lists_two_a1 i l ∙ eqb-true _ j (least_passes 64 (λ i. eqb (get_or slots_two_a1 i 0) j) l) }

-- ---- what collides for bishop B1: the first two subsets share a slot, and not a walk

walks_differ : attack 1 1 (subset 1 1 0) ≡ attack 1 1 (subset 1 1 1) → ⊥
unfolding attack subset
walks_differ e = eqb-false 0x80402010080500 0x500 refl e

collides_b1 : (m : ℕ) → magic_index 1 1 m (subset 1 1 0) ≡ magic_index 1 1 m (subset 1 1 1) → clean real 1 m ≡ false
unfolding clean kind_of square_of size_of
collides_b1 m e = agree_fails 32 (λ i. magic_index 1 1 m (subset 1 1 i)) (λ i. attack 1 1 (subset 1 1 i)) 0 1 (lit< tt) (lit< tt) e walks_differ

one_shares : magic_index 1 1 one (subset 1 1 0) ≡ magic_index 1 1 one (subset 1 1 1)
unfolding magic_index shift_of subset
one_shares = refl

zero_shares : magic_index 1 1 0 (subset 1 1 0) ≡ magic_index 1 1 0 (subset 1 1 1)
unfolding magic_index shift_of subset
zero_shares = refl

pub one_collides_b1 : clean real 1 one ≡ false
one_collides_b1 = collides_b1 one one_shares

pub zero_collides_b1 : clean real 1 0 ≡ false
zero_collides_b1 = collides_b1 0 zero_shares

-- ---- none of these is skipped

pub one_taken_a1 : skips 1 0 one ≡ false
unfolding skips mask count
one_taken_a1 = refl

pub two_taken_a1 : skips 1 0 two ≡ false
unfolding skips mask count
two_taken_a1 = refl

pub two_taken_b1 : skips 1 1 two ≡ false
unfolding skips mask count
two_taken_b1 = refl
