-- What a call says in the paper's terms fixes what it hands back: two refusals with one number and the same values are one, and so are two answers.
-- Assumes nothing.
use Prim.Native.Nat.{ℕ}
use mathlib.Core.Path.{◌≡◌, refl, sym, ap, ◌∙◌}
use mathlib.Core.Bool.{Bool, true, false}
use mathlib.Core.List.{List, [], ◌∷◌}
use lib.Dec.{eqb}
use lib.ListN.{get_or}
use Rattle.refusal.specs.declared.Refusal.{Refusal}
use Rattle.refusal.specs.declared.Refusal.TheVariants.{Kind, Square, LengthsDiffer, NoRoom, Spent, Collides, Index, IndexAt, Shift, RecordAt, Length, Budget, SlotAt}
use Rattle.std.specs.Prelude.{Result, Ok, Err}
use Rattle.refusal.specs.Paper.{Said, gives, refuses, number_of, values_of, said}

abbrev pick : Bool → Refusal → Refusal → Refusal
pick true a b = a
pick false a b = b

abbrev bare : List ℕ → Bool
bare [] = true
bare (x ∷ l) = false

-- the refusal of a number and its values
unfoldable pub refusal_of : ℕ → List ℕ → Refusal
refusal_of n l =
    pick (eqb n 1) Kind
    (pick (eqb n 2) Square
    (pick (eqb n 3) LengthsDiffer
    (pick (eqb n 4) (NoRoom (get_or l 0 0))
    (pick (eqb n 5) (Spent (get_or l 0 0))
    (pick (eqb n 6) (Collides (get_or l 0 0))
    (pick (eqb n 7) (pick (bare l) Index (IndexAt (get_or l 0 0) (get_or l 1 0)))
    (pick (eqb n 8) (pick (bare l) Shift (RecordAt (get_or l 0 0)))
    (pick (eqb n 9) Length
    (pick (eqb n 10) Budget
    (SlotAt (get_or l 0 0) (get_or l 1 0)))))))))))

pub refusal_is : (r : Refusal) → refusal_of (number_of r) (values_of r) ≡ r
unfolding refusal_of
refusal_is Kind = refl
refusal_is Square = refl
refusal_is LengthsDiffer = refl
refusal_is (NoRoom b) = refl
refusal_is (Spent b) = refl
refusal_is (Collides b) = refl
refusal_is Index = refl
refusal_is (IndexAt b i) = refl
refusal_is Shift = refl
refusal_is (RecordAt b) = refl
refusal_is Length = refl
refusal_is Budget = refl
refusal_is (SlotAt b i) = refl

-- what can be undone tells apart what it was done to
pub unique : {A B : Type 0} (f : A → B) (g : B → A) → ((a : A) → g (f a) ≡ a) → (a b : A) → f a ≡ f b → a ≡ b
unique f g h a b e = sym (h a) ∙ ap g e ∙ h b

abbrev result_of : {A : Type 0} → Said A → Result A Refusal
result_of (gives x) = Ok x
result_of (refuses n l) = Err (refusal_of n l)

result_is : {A : Type 0} (r : Result A Refusal) → result_of (said r) ≡ r
result_is (Ok x) = refl
result_is (Err r) = ap Err (refusal_is r)

pub said_unique : {A : Type 0} (a b : Result A Refusal) → said a ≡ said b → a ≡ b
said_unique = unique said result_of result_is
