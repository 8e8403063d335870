-- A block's pairs, by their number; its shift and its slots.
-- Assumes nothing.
use Rattle.std.proofs.Common.{◌≡◌, ℕ, ◌*◌, ◌/◌, ◌%◌, ◌^◌, ◌<◌, ◌≤◌, Bool, false, not, ◌&&◌, ltb, List, length, get_or, take, ap, sym, ◌∙◌, arith}
use Rattle.std.proofs.lemmas.List.{length-take, length-take-le, get_or-take}
use borrow.Author.Tests.{lt-ltb, le-ltb}
use lib.Count.{ones}
use lib.Pow.{pow_pos}
use native.Mathlib.Nat.{mod-lt}
use Rattle.bits.specs.Set.{count}
use Rattle.bits.specs.Shown.{shown}
use Rattle.bits.proofs.Count.{count_ones}
use Rattle.bits.proofs.Digit.{shr_within}
use Rattle.bits.proofs.Shown.{length_shown, get_or_shown, shown_list}
use Rattle.board.specs.Board.{mask as mask_of}
use Rattle.board.specs.Blocks.{kind_of, square_of, shift_of}
use Rattle.board.proofs.Blocks.{kind_lt, square_lt}
use Rattle.board.proofs.Sizes.{shift_low, shift_high}
use Rattle.packing.specs.Pack.{clean, passes}
use Rattle.blocks.specs.Real.{real, magic_index, skips}
use Rattle.candidates.specs.declared.Pair.{Pair}
use Rattle.candidates.specs.Trial.{pair_of, pairs_of}

module _ (b : ℕ) (pairs : List Pair) (e : pairs ≡ pairs_of b) where
  pub pairs_many : length pairs ≡ real.size b
  unfolding pairs_of
  pairs_many = ap length e ∙ length_shown (real.size b) (pair_of b)

  pub pair_is : (i : ℕ) (d : Pair) → i < length pairs → get_or pairs i d ≡ pair_of b i
  unfolding pairs_of
  pair_is i d h = ap (λ (l : List Pair). get_or l i d) e ∙ get_or_shown (real.size b) i (pair_of b) d (omega (arith, pairs_many))

  -- the same of the first n
  pub front_is : (n i : ℕ) (d : Pair) → i < length (take n pairs) → get_or (take n pairs) i d ≡ pair_of b i
  front_is n i d h =
      get_or-take n pairs i d (omega (arith, length-take n pairs)) ∙ pair_is i d (omega (arith, length-take n pairs))

-- the slot and the walk of a pair
module _ (b i : ℕ) (p : Pair) (e : p ≡ pair_of b i) where
  pub slot_of_pair : (m at : ℕ) → at ≡ magic_index (kind_of b) (square_of b) m p.question → at ≡ real.index b m i
  slot_of_pair m at h = h ∙ ap (λ (q : Pair). magic_index (kind_of b) (square_of b) m q.question) e

  pub walk_of_pair : p.answer ≡ real.walk b i
  walk_of_pair = ap (λ (q : Pair). q.answer) e

-- how many the first n of a list are
pub front_many : (n : ℕ) (l : List Pair) → n ≤ length l → n ≡ length (take n l)
front_many n l h = sym (length-take-le n l h)

-- the pairs at the front of a longer list
pub pairs_front : (b size : ℕ) (l : List Pair) (d : Pair) → size ≡ real.size b → size ≤ length l → ((i : ℕ) → i < size → get_or l i d ≡ pair_of b i) → take size l ≡ pairs_of b
unfolding pairs_of
pairs_front b size l d e h each =
    shown_list size (take size l) d (pair_of b) (length-take-le size l h) (λ i k. get_or-take size l i d k ∙ each i k)
    ∙ ap (λ (n : ℕ). shown n (pair_of b)) e

module _ (b shift : ℕ) (e : shift ≡ shift_of (kind_of b) (square_of b)) where
  pub shift_fits : shift < 64
  shift_fits = omega (arith, e, shift_high (kind_of b) (square_of b) (kind_lt b) (square_lt b))

  pub slot_is : (m set product : ℕ) → product ≡ m * set % 2 ^ 64 → product / 2 ^ shift ≡ magic_index (kind_of b) (square_of b) m set
  unfolding magic_index
  slot_is m set product p = rw (e, p)

  -- 12 bits are left at most
  pub slot_low : (product : ℕ) → product < 2 ^ 64 → product / 2 ^ shift < 4096
  slot_low product h = shr_within 64 12 shift product h (omega (arith, e, shift_low (kind_of b) (square_of b) (kind_lt b) (square_lt b)))

-- ---- a candidate, by the ones of its product with the mask

module _ (b mask m product : ℕ) (e : mask ≡ mask_of (kind_of b) (square_of b)) (p : product ≡ mask * m % 2 ^ 64) where
  ones_are : skips (kind_of b) (square_of b) m ≡ ltb (ones product) 6
  unfolding skips
  ones_are =
      ap (λ (x : ℕ). ltb (count (x * m % 2 ^ 64)) 6) (sym e)
      ∙ ap (λ (n : ℕ). ltb n 6) (count_ones (mask * m % 2 ^ 64) (mod-lt (mask * m) (pow_pos 64)) ∙ ap ones (sym p))

  pub skipped_fails : ones product < 6 → false ≡ passes real b m
  unfolding passes
  skipped_fails h = sym (ap (λ (x : Bool). not x && clean real b m) (ones_are ∙ lt-ltb (ones product) 6 h))

  pub clean_passes : 6 ≤ ones product → clean real b m ≡ passes real b m
  unfolding passes
  clean_passes h = sym (ap (λ (x : Bool). not x && clean real b m) (ones_are ∙ le-ltb (ones product) 6 h))
