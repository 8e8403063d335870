-- Set operations, as sets of squares.
use Rattle.std.specs.Prelude.{ℕ, ◌^◌, Bool, true, false, not, ◌&&◌, ◌||◌, eqb, Option, Some, None}
use Rattle.refusal.specs.Paper.{Said, gives, refuse_if, and_then}
use Rattle.bits.specs.Set.{has, set_of, least}
use Rattle.square.specs.Square.{make_square, on_square}

-- AND, OR, XOR and NOT: the squares that are in both sets, in at least one, in one and not the other, in none
unfoldable pub in_both : ℕ → ℕ → ℕ
in_both a b = set_of (λ t. has a t && has b t)

unfoldable pub in_either : ℕ → ℕ → ℕ
in_either a b = set_of (λ t. has a t || has b t)

unfoldable pub in_one : ℕ → ℕ → ℕ
in_one a b = set_of (λ t. (has a t && not (has b t)) || (has b t && not (has a t)))

unfoldable pub in_none : ℕ → ℕ
in_none a = set_of (λ t. not (has a t))

-- the set without a square
unfoldable pub without : ℕ → ℕ → ℕ
without a s = set_of (λ t. has a t && not (eqb t s))

-- "Bit s of a 64-bit set is square s"
abbrev pub square_set : ℕ → Said ℕ
square_set s = on_square s (gives (2 ^ s))

-- the set of the square on a rank and a file
abbrev pub rank_file_set : ℕ → ℕ → Said ℕ
rank_file_set rank file = and_then (make_square rank file) square_set

-- 2: "least square of the empty set"
abbrev pub least_square : ℕ → Said ℕ
least_square a = refuse_if (eqb a 0) 2 (gives (least 64 (has a)))

-- none where there is nothing left
abbrev pub unless_empty : {A : Type 0} → Bool → A → Option A
unless_empty true x = None
unless_empty false x = Some x

-- the least square and the rest, or none where there is none
abbrev pub next_of : ℕ → Option (ℕ × ℕ)
next_of a = unless_empty (eqb a 0) (least 64 (has a), without a (least 64 (has a)))
