-- What crosses the border is fixed by the exports' statements.
-- Assumes nothing.
use Prim.Native.Nat.{ℕ}
use mathlib.Core.Path.{◌≡◌, sym, ap, ◌∙◌}
use mathlib.Core.List.{List}
use Rattle.refusal.specs.Paper.{Said}
use Rattle.slider.specs.declared.SliderBuild.{SliderBuild}
use Rattle.slider.specs.Flat.{Handed, handed}
use Rattle.slider.specs.Batch.{Batch}

pub handed_unique : (a b : SliderBuild) (table marks table' marks' : List ℕ) → handed a table marks ≡ handed b table' marks' → (a ≡ b) × (table ≡ table') × (marks ≡ marks')
handed_unique a b table marks table' marks' e = (ap (λ (h : Handed). h.build) e, ap (λ (h : Handed). h.table) e, ap (λ (h : Handed). h.marks) e)

pub batch_unique : (asked : ℕ → Said ℕ) (n r r' : ℕ) (numbers moves a b a' b' : List ℕ) → Batch asked n r numbers moves a b → Batch asked n r' numbers moves a' b' → (r ≡ r') × (a ≡ a') × (b ≡ b')
batch_unique asked n r r' numbers moves a b a' b' x y = (x.answered ∙ sym y.answered, x.numbers_now ∙ sym y.numbers_now, x.moves_now ∙ sym y.moves_now)
