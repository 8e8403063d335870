-- 01, "Numbers handed back": the paper's number and values of each refusal, and what a call says in the paper's terms.
use Rattle.std.specs.Prelude.{ℕ, Bool, true, false, List, [], ◌∷◌, Result, Ok, Err}
use Rattle.refusal.specs.declared.Refusal.{Refusal}
use Rattle.refusal.specs.declared.Refusal.TheVariants.{Kind, Square, LengthsDiffer, NoRoom, Spent, Collides, Index, IndexAt, Shift, RecordAt, Length, Budget, SlotAt}

-- what a call hands back, in the paper's terms: what was asked for, or a refusal's number with the values beside it
pub data Said (A : Type 0) : Type 0 where
  gives : A → Said A
  refuses : ℕ → List ℕ → Said A

-- the table's first column
abbrev pub number_of : Refusal → ℕ
number_of Kind = 1
number_of Square = 2
number_of LengthsDiffer = 3
number_of (NoRoom b) = 4
number_of (Spent b) = 5
number_of (Collides b) = 6
number_of Index = 7
number_of (IndexAt b i) = 7
number_of Shift = 8
number_of (RecordAt b) = 8
number_of Length = 9
number_of Budget = 10
number_of (SlotAt b i) = 11

-- the table's last column: "number", "block", or "block, subset"
abbrev pub values_of : Refusal → List ℕ
values_of Kind = []
values_of Square = []
values_of LengthsDiffer = []
values_of (NoRoom b) = b ∷ []
values_of (Spent b) = b ∷ []
values_of (Collides b) = b ∷ []
values_of Index = []
values_of (IndexAt b i) = b ∷ i ∷ []
values_of Shift = []
values_of (RecordAt b) = b ∷ []
values_of Length = []
values_of Budget = []
values_of (SlotAt b i) = b ∷ i ∷ []

-- a refusal in the paper's terms
abbrev pub refused : {A : Type 0} → Refusal → Said A
refused r = refuses (number_of r) (values_of r)

-- what a call hands back, in the paper's terms
abbrev pub said : {A : Type 0} → Result A Refusal → Said A
said (Ok x) = gives x
said (Err r) = refused r

-- where the test holds, the number alone is handed back; else what follows. Tests stand in the paper's order
abbrev pub refuse_if : {A : Type 0} → Bool → ℕ → Said A → Said A
refuse_if true n x = refuses n []
refuse_if false n x = x

-- what is given is handed on; a refusal is passed on
abbrev pub and_then : {A B : Type 0} → Said A → (A → Said B) → Said B
and_then (gives x) f = f x
and_then (refuses n l) f = refuses n l
