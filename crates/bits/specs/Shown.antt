-- Lists that show a function's values.
use Rattle.std.specs.Prelude.{ℕ, zero, suc, ◌+◌, List, [], ◌∷◌}

-- the first n values: f 0, f 1, .. f (n - 1)
unfoldable pub shown {ℓ} : {A : Type ℓ} → ℕ → (ℕ → A) → List A
shown zero f = []
shown (suc n) f = f zero ∷ shown n (λ i. f (suc i))

-- their sum
unfoldable pub sum : ℕ → (ℕ → ℕ) → ℕ
sum zero f = zero
sum (suc n) f = sum n f + f n
