-- Laws of `largest`: it is the least bound.
-- Assumes nothing.
use Prim.Native.Nat.{ℕ, zero, suc, ◌≤◌, ◌<◌, max, zero-le}
use mathlib.Core.Path.{◌≡◌, refl, ap, ap₂}
use mathlib.Core.Logic.{◌⊎◌, inl, inr}
use native.Mathlib.Nat.{not-suc-le-zero, le_refl, le_of_suc-le-suc, eq-or-lt_of_le}
use native.Mathlib.Omega.{arith}
use Rattle.packing.specs.Promised.{largest}

pub largest_le : (n : ℕ) (f : ℕ → ℕ) (i : ℕ) → i < n → f i ≤ largest n f
unfolding largest
largest_le zero f i h = absurd (not-suc-le-zero h)
largest_le (suc n) f i h = go (eq-or-lt_of_le (le_of_suc-le-suc h)) (largest_le n f i)
  where
    go : (i ≡ n) ⊎ (i < n) → (i < n → f i ≤ largest n f) → f i ≤ max (largest n f) (f n)
    go (inl e) ih = omega (arith, ap f e)
    go (inr l) ih = omega (arith, ih l)

pub largest_least : (n : ℕ) (f : ℕ → ℕ) (k : ℕ) → ((i : ℕ) → i < n → f i ≤ k) → largest n f ≤ k
unfolding largest
largest_least zero f k h = zero-le
largest_least (suc n) f k h = omega (arith, h n (omega arith), largest_least n f k (λ i l. h i (omega arith)))

pub largest_cong : (n : ℕ) (f g : ℕ → ℕ) → ((i : ℕ) → i < n → f i ≡ g i) → largest n f ≡ largest n g
unfolding largest
largest_cong zero f g h = refl
largest_cong (suc n) f g h = ap₂ max (largest_cong n f g (λ i l. h i (omega arith))) (h n (le_refl (suc n)))
