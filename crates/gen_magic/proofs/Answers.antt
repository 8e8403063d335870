-- The tests of a build's arguments, and that what a build hands back and leaves is fixed by `leaves`.
-- Assumes nothing.
use Prim.Native.Nat.{ℕ}
use mathlib.Core.Path.{◌≡◌, refl, ap}
use mathlib.Core.Bool.{Bool, true, false}
use mathlib.Core.List.{List, []}
use Rattle.refusal.specs.Paper.{Said, gives, refuses}
use Rattle.refusal.specs.declared.Refusal.{Refusal}
use Rattle.refusal.proofs.Unique.{unique, refusal_of, refusal_is}
use Rattle.std.specs.Prelude.{Result, Ok, Err}
use Rattle.gen_magic.specs.declared.Build.{Build}
use Rattle.gen_magic.specs.Builds.{Left, leaves, empty, kept_if}

module _ (number : ℕ) (table marks : List ℕ) (x : Left) (c : Bool) where
  pub kept : c ≡ true → kept_if c number table marks x ≡ empty number [] table marks
  kept e = ap (λ (t : Bool). kept_if t number table marks x) e

  pub passed : c ≡ false → kept_if c number table marks x ≡ x
  passed e = ap (λ (t : Bool). kept_if t number table marks x) e

-- ---- uniqueness

-- all that was handed back and left, from what `leaves` says
abbrev All : Type 0
All = Result Build Refusal × List ℕ × List ℕ

abbrev all_left : All → Left
all_left a = leaves a.0 a.1 a.2

abbrev handed_back : Left → Said Unit → Result Build Refusal
handed_back l (gives x) = Ok (record { records = l.records; counts = l.counts; used = l.used })
handed_back l (refuses n k) = Err (refusal_of n k)

abbrev all_of : Left → All
all_of l = (handed_back l l.says, l.table, l.marks)

all_is : (a : All) → all_of (all_left a) ≡ a
all_is (Ok b, table, marks) = refl
all_is (Err r, table, marks) = ap (λ (q : Refusal). (Err q, table, marks)) (refusal_is r)

pub leaves_unique : (a b : Result Build Refusal) (table marks table' marks' : List ℕ) → leaves a table marks ≡ leaves b table' marks' → (a ≡ b) × (table ≡ table') × (marks ≡ marks')
leaves_unique a b table marks table' marks' e =
    let q : (a, table, marks) ≡ (b, table', marks') = unique all_left all_of all_is (a, table, marks) (b, table', marks') e in
    (ap (λ (x : All). x.0) q, ap (λ (x : All). x.1) q, ap (λ (x : All). x.2) q)
