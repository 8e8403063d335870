-- A public function tried: what its statement gives for some arguments, what a reader expects, and what a wrong function would
-- hand back, all as lists of numbers.
use Rattle.std.specs.Prelude.{ℕ, ◌≡◌, List, [], ◌∷◌}
use Rattle.refusal.specs.Paper.{Said}
use Rattle.slider.specs.Flat.{answer_of}

pub record Tried : Type 0 where
  pub answer : List ℕ
  pub right : List ℕ
  pub wrong : List ℕ

infix 4 ◌is◌not◌
abbrev pub ◌is◌not◌ : List ℕ → List ℕ → List ℕ → Tried
answer is right not wrong = record { answer = answer; right = right; wrong = wrong }

-- each statement gives the right answer, and not the wrong one
abbrev pub Each : List Tried → Type 0
Each [] = Unit
Each (t ∷ l) = (t.answer ≡ t.right) × (t.answer ≡ t.wrong → ⊥) × Each l

-- what is handed back, as numbers: one number; or 0 and what is given, or a refusal's number and 0, as across the border, so that
-- one entry tries a function and its export
abbrev pub one : ℕ → List ℕ
one n = n ∷ []

abbrev pub said : Said ℕ → List ℕ
said x = (answer_of x).number ∷ (answer_of x).value ∷ []
