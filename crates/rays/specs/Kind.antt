-- The kinds by their numbers. 01, "The board": "Kind 0 is rook, 1 is bishop."
use Rattle.std.specs.Prelude.{ℕ, ◌≡◌, Result, Ok, Err, ltb}
use Rattle.refusal.specs.declared.Refusal.{Refusal}
use Rattle.refusal.specs.Paper.{Said, gives, refused, refuse_if}
use Rattle.rays.specs.declared.Kind.{Kind}
use Rattle.rays.specs.declared.Kind.TheVariants.{Rook, Bishop}

abbrev pub code_of : Kind → ℕ
code_of Rook = 0
code_of Bishop = 1

-- what was read of a number, in the paper's terms
abbrev pub read : Result Kind Refusal → Said ℕ
read (Ok kind) = gives (code_of kind)
read (Err r) = refused r

-- 1: "kind above 1"
abbrev pub Reads : ℕ → Result Kind Refusal → Type 0
Reads code r = read r ≡ refuse_if (ltb 1 code) 1 (gives code)
