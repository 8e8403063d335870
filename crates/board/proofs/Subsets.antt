-- Laws of subsets: they are the deposits of their numbers in the mask, and every set of blockers comes down to one of them.
-- Assumes nothing.
use Prim.Native.Nat.{ℕ, ◌-◌, ◌%◌, ◌^◌, ◌<◌}
use mathlib.Core.Path.{◌≡◌, refl, sym, ap, ap₂, ◌∙◌, subst}
use mathlib.Core.Bool.{Bool, true, false, ◌&&◌, and-false}
use lib.Bits.{bit_and}
use lib.Pow.{pow_pos}
use Rattle.bits.specs.Set.{has, count_below, count}
use Rattle.bits.specs.Intel.{pext, pdep}
use Rattle.bits.proofs.Sets.{has_zero, has_set_of, is_set_of, bit_has}
use Rattle.bits.proofs.Complement.{has_ones}
use Rattle.bits.proofs.Count.{count_lt}
use Rattle.bits.proofs.Pext.{deposit_lt, deposit_in, deposit_mod, deposit_extract, has_deposit, extract_lt}
use Rattle.board.specs.Board.{in_mask, mask, attack}
use Rattle.board.specs.Blocks.{bits_of, size_of, subset}
use Rattle.board.proofs.Attack.{has_mask, mask_lt, attack_mask}

pub has_subset : (k s i t : ℕ) → t < 64 → has (subset k s i) t ≡ (in_mask k s t && has i (count_below (mask k s) t))
unfolding subset
has_subset k s i t h = has_set_of (λ t. in_mask k s t && has i (count_below (mask k s) t)) t h

pub subset_deposit : (k s i : ℕ) → subset k s i ≡ pdep i (mask k s)
unfolding subset
subset_deposit k s i =
    sym (is_set_of (pdep i (mask k s)) (λ t. in_mask k s t && has i (count_below (mask k s) t)) (deposit_lt i (mask k s))
    (λ t h. has_deposit i (mask k s) t h ∙ ap (λ (x : Bool). x && has i (count_below (mask k s) t)) (has_mask k s t h)))

pub subset_lt : (k s i : ℕ) → subset k s i < 2 ^ 64
subset_lt k s i = subst (λ (n : ℕ). n < 2 ^ 64) (sym (subset_deposit k s i)) (deposit_lt i (mask k s))

pub subset_in_mask : (k s i : ℕ) → bit_and (subset k s i) (mask k s) ≡ subset k s i
subset_in_mask k s i = ap (λ (n : ℕ). bit_and n (mask k s)) (subset_deposit k s i) ∙ deposit_in i (mask k s) ∙ sym (subset_deposit k s i)

-- "Bits of i past the mask's count have no effect."
pub subset_mod : (k s i : ℕ) → subset k s (i % size_of k s) ≡ subset k s i
unfolding size_of bits_of
subset_mod k s i = subset_deposit k s (i % 2 ^ count (mask k s)) ∙ deposit_mod i (mask k s) ∙ sym (subset_deposit k s i)

-- "Subset i sets the j-th smallest mask square when bit j of i is set"
pub subset_nth : (k s i j t : ℕ) → t < 64 → in_mask k s t ≡ true → count_below (mask k s) t ≡ j → has (subset k s i) t ≡ has i j
subset_nth k s i j t h e q = has_subset k s i t h ∙ ap₂ (λ (x : Bool) (y : ℕ). x && has i y) e q

-- ---- the first and the last

pub subset_first : (k s : ℕ) → subset k s 0 ≡ 0
unfolding subset
subset_first k s = sym (is_set_of 0 (λ t. in_mask k s t && has 0 (count_below (mask k s) t)) (pow_pos 64) (λ t h. has_zero t ∙ sym (ap (λ (x : Bool). in_mask k s t && x) (has_zero (count_below (mask k s) t)) ∙ and-false (in_mask k s t))))

pub subset_last : (k s : ℕ) → subset k s (size_of k s - 1) ≡ mask k s
unfolding subset size_of bits_of count
subset_last k s = sym (is_set_of (mask k s) (λ t. in_mask k s t && has (2 ^ count_below (mask k s) 64 - 1) (count_below (mask k s) t)) (mask_lt k s) (λ t h. has_mask k s t h ∙ go t h (in_mask k s t) refl))
  where
    go : (t : ℕ) → t < 64 → (b : Bool) → in_mask k s t ≡ b → b ≡ (b && has (2 ^ count_below (mask k s) 64 - 1) (count_below (mask k s) t))
    go t h false e = refl
    go t h true e = sym (has_ones (count_below (mask k s) 64) (count_below (mask k s) t) (count_lt (mask k s) t 64 h (bit_has (mask k s) t (has_mask k s t h ∙ e))))

-- ---- any blockers

pub index_lt : (k s b : ℕ) → pext b (mask k s) < size_of k s
unfolding size_of bits_of
index_lt k s b = extract_lt b (mask k s)

pub as_subset : (k s b : ℕ) → b < 2 ^ 64 → subset k s (pext b (mask k s)) ≡ bit_and b (mask k s)
as_subset k s b h = subset_deposit k s (pext b (mask k s)) ∙ deposit_extract b (mask k s) h

-- the attack set of any blockers is that of one of the subsets
pub attack_subset : (k s b : ℕ) → k < 2 → s < 64 → b < 2 ^ 64 → attack k s (subset k s (pext b (mask k s))) ≡ attack k s b
attack_subset k s b hk hs h = ap (attack k s) (as_subset k s b h) ∙ attack_mask k s hk hs b
