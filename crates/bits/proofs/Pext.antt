-- The laws of PEXT and PDEP over any mask. Callers use these, and not the definitions' texts.
-- Assumes nothing.
use Rattle.std.proofs.Common.{◌≡◌, ℕ, zero, suc, ◌%◌, ◌^◌, ◌<◌, min, Bool, true, ◌&&◌, eqb, sym, refl, ap, ◌∙◌, subst, lt_of_le_of_lt}
use native.Mathlib.Nat.{min_comm, zero-min}
use lib.Bits.{bit_and, and_le_l}
use Rattle.bits.specs.Set.{bit, has, count_below, count}
use Rattle.bits.specs.Intel.{pext, pdep}
use Rattle.bits.proofs.Digit.{bit_lt, over, ext}
use Rattle.bits.proofs.Sets.{bit_of_and, has_and, has_ext}
use Rattle.bits.proofs.Every.{and_again}
use Rattle.bits.proofs.Count.{nth}
use Rattle.bits.proofs.Forms.{packed_lt, bit_packed, packed_spread, spread_lt, bit_spread}
use Rattle.bits.proofs.Intel.{pext_is, pdep_is}

pub extract_lt : (x m : ℕ) → pext x m < 2 ^ count m
unfolding count
extract_lt x m = subst (λ (n : ℕ). n < 2 ^ count_below m 64) (sym (pext_is x m)) (packed_lt 64 x m)

pub deposit_lt : (i m : ℕ) → pdep i m < 2 ^ 64
deposit_lt i m = subst (λ (n : ℕ). n < 2 ^ 64) (sym (pdep_is i m)) (spread_lt 64 i m)

bit_deposit : (i m t : ℕ) → t < 64 → bit (pdep i m) t ≡ min (bit m t) (bit i (count_below m t))
bit_deposit i m t h = ap (λ (n : ℕ). bit n t) (pdep_is i m) ∙ bit_spread 64 i m t h

-- t is in the deposit of i if it is in the mask, and the bit of i is set whose number is how many mask squares are below t
pub has_deposit : (i m t : ℕ) → t < 64 → has (pdep i m) t ≡ (has m t && has i (count_below m t))
unfolding has
has_deposit i m t h = ap (λ (n : ℕ). eqb n 1) (bit_deposit i m t h) ∙ both (bit m t) (bit i (count_below m t)) (bit_lt m t) (bit_lt i (count_below m t))
  where
    both : (x y : ℕ) → x < 2 → y < 2 → eqb (min x y) 1 ≡ (eqb x 1 && eqb y 1)
    both zero y h k = ap (λ (n : ℕ). eqb n 1) (zero-min y)
    both (suc zero) zero h k = refl
    both (suc zero) (suc zero) h k = refl
    both (suc zero) (suc (suc y)) h k = over k
    both (suc (suc x)) y h k = over h

-- the j-th smallest mask square (j counted from 0) is in the deposit of i exactly when bit j of i is set
pub deposit_nth : (i m j t : ℕ) → t < 64 → has m t ≡ true → count_below m t ≡ j → has (pdep i m) t ≡ has i j
deposit_nth i m j t h e q = has_deposit i m t h ∙ ap (λ (b : Bool). b && has i (count_below m t)) e ∙ ap (has i) q

-- and there is one for each j below the mask's count
pub nth_square : (m j : ℕ) → j < count m → (t : ℕ) × (t < 64) × (has m t ≡ true) × (count_below m t ≡ j)
unfolding has count
nth_square m j l =
    let r = nth m 64 j l in
    (r.0, r.1, ap (λ (n : ℕ). eqb n 1) r.2, r.3)

-- a deposit lies in its mask
pub deposit_in : (i m : ℕ) → bit_and (pdep i m) m ≡ pdep i m
deposit_in i m =
    has_ext 64 (bit_and (pdep i m) m) (pdep i m) (lt_of_le_of_lt (and_le_l (pdep i m) m) (deposit_lt i m)) (deposit_lt i m)
    (λ t l. has_and (pdep i m) m t ∙ ap (λ (b : Bool). b && has m t) (has_deposit i m t l) ∙ and_again (has m t) (has i (count_below m t)) ∙ sym (has_deposit i m t l))

-- extract after deposit
pub extract_deposit : (i m : ℕ) → pext (pdep i m) m ≡ i % 2 ^ count m
unfolding count
extract_deposit i m = pext_is (pdep i m) m ∙ packed_spread 64 (pdep i m) m i (bit_deposit i m)

-- deposit after extract
pub deposit_extract : (x m : ℕ) → x < 2 ^ 64 → pdep (pext x m) m ≡ bit_and x m
deposit_extract x m h =
    ext 64 (pdep (pext x m) m) (bit_and x m) (deposit_lt (pext x m) m) (lt_of_le_of_lt (and_le_l x m) h)
    (λ t l. bit_deposit (pext x m) m t l
    ∙ masked (bit m t) (bit (pext x m) (count_below m t)) (bit x t) (bit_lt m t)
    (λ e. ap (λ (n : ℕ). bit n (count_below m t)) (pext_is x m) ∙ bit_packed 64 x m t l e)
    ∙ sym (bit_of_and x m t))
  where
    masked : (b u v : ℕ) → b < 2 → (b ≡ 1 → u ≡ v) → min b u ≡ min v b
    masked zero u v h f = zero-min u ∙ sym (min_comm v zero ∙ zero-min v)
    masked (suc zero) u v h f = ap (min 1) (f refl) ∙ min_comm 1 v
    masked (suc (suc b)) u v h f = over h

-- bits of i past the mask's count have no effect
pub deposit_mod : (i m : ℕ) → pdep (i % 2 ^ count m) m ≡ pdep i m
deposit_mod i m =
    ap (λ (n : ℕ). pdep n m) (sym (extract_deposit i m)) ∙ deposit_extract (pdep i m) m (deposit_lt i m) ∙ deposit_in i m
