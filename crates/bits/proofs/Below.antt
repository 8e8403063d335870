-- What holds of each number below n, one number more.
-- Assumes nothing.
use Rattle.std.proofs.Common.{◌≡◌, ℕ, suc, ◌<◌, ◌⊎◌, sym, subst, inl, inr, le_of_suc-le-suc, not-suc-le-zero, eq-or-lt_of_le}

pub each_none : (P : ℕ → Type 0) (i : ℕ) → i < 0 → P i
each_none P i h = absurd (not-suc-le-zero h)

-- it holds at n, and at each number below
pub each_suc : (P : ℕ → Type 0) (n : ℕ) → P n → ((i : ℕ) → i < n → P i) → (i : ℕ) → i < suc n → P i
each_suc P n at before i h = go (eq-or-lt_of_le (le_of_suc-le-suc h))
  where
    go : (i ≡ n) ⊎ (i < n) → P i
    go (inl e) = subst P (sym e) at
    go (inr l) = before i l
