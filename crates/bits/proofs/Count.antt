-- Laws of `count_below`, Intel's k: it grows with each square of the set, and counts its ones.
-- Assumes nothing.
use Rattle.std.proofs.Common.{◌≡◌, ℕ, zero, suc, ◌+◌, ◌%◌, ◌^◌, ◌<◌, ◌≤◌, ◌⊎◌, sym, refl, ap, ◌∙◌, ap₂, inl, inr, le_of_eq, le_refl, le_of_suc-le-suc, not-suc-le-zero, mod-lt, mod-eq_of_lt, add_comm, eq-or-lt_of_le, arith, pow_pos}
use native.Mathlib.Nat.{mod-one}
use native.Mathlib.Decide.{dec_lt}
use lib.Arith.{le-zero}
use lib.Count.{ones, ones_cat}
use Rattle.bits.specs.Set.{bit, count_below, count}
use Rattle.bits.proofs.Digit.{bit_lt, over, mod_more}

count_mono : (m t n : ℕ) → t ≤ n → count_below m t ≤ count_below m n
unfolding count_below
count_mono m t zero h = le_of_eq (ap (count_below m) (le-zero h))
count_mono m t (suc n) h = pick (count_mono m t n) (eq-or-lt_of_le h)
  where
    pick : (t ≤ n → count_below m t ≤ count_below m n) → (t ≡ suc n) ⊎ (t < suc n) → count_below m t ≤ count_below m n + bit m n
    pick ih (inl e) = le_of_eq (ap (count_below m) e)
    pick ih (inr l) = let g = ih (le_of_suc-le-suc l) in omega arith

pub count_le : (m n : ℕ) → count_below m n ≤ n
unfolding count_below
count_le m zero = le_refl zero
count_le m (suc n) = omega (arith, count_le m n)

-- the count below a square of the set is less than that below any later place
pub count_lt : (m t n : ℕ) → t < n → bit m t ≡ 1 → count_below m t < count_below m n
unfolding count_below
count_lt m t n h e = let g : count_below m t + bit m t ≤ count_below m n = count_mono m (suc t) n h in omega arith

-- the j-th smallest square, for each j below the count
pub nth : (m n j : ℕ) → j < count_below m n → (t : ℕ) × (t < n) × (bit m t ≡ 1) × (count_below m t ≡ j)
unfolding count_below
nth m zero j h = absurd (not-suc-le-zero h)
nth m (suc n) j h = go (nth m n j) (dec_lt j (count_below m n))
  where
    go : (j < count_below m n → (t : ℕ) × (t < n) × (bit m t ≡ 1) × (count_below m t ≡ j)) → Dec (j < count_below m n) → (t : ℕ) × (t < suc n) × (bit m t ≡ 1) × (count_below m t ≡ j)
    go ih (yes l) = let r = ih l in (r.0, omega (arith, r.1), r.2, r.3)
    go ih (no f) = (n, le_refl (suc n), omega arith, omega arith)

-- ---- the count of ones

ones_digit : (d : ℕ) → d < 2 → ones d ≡ d
unfolding ones
ones_digit zero h = refl
ones_digit (suc zero) h = refl
ones_digit (suc (suc d)) h = over h

count_ones_mod : (m n : ℕ) → count_below m n ≡ ones (m % 2 ^ n)
unfolding count_below ones
count_ones_mod m zero = ap ones (sym (mod-one m))
count_ones_mod m (suc n) =
    ap₂ (λ (x y : ℕ). x + y) (count_ones_mod m n) (sym (ones_digit (bit m n) (bit_lt m n)))
    ∙ add_comm (ones (m % 2 ^ n)) (ones (bit m n))
    ∙ sym (ones_cat n (bit m n) (m % 2 ^ n) (mod-lt m (pow_pos n)))
    ∙ ap ones (sym (mod_more m n))

-- `ones` does not compute on a word; `count` does
pub count_ones : (m : ℕ) → m < 2 ^ 64 → count m ≡ ones m
unfolding count
count_ones m h = count_ones_mod m 64 ∙ ap ones (mod-eq_of_lt h)
