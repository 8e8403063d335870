-- Squares. 01, "The board": "Square s is 0 to 63; rank s/8, file s mod 8; A1 = 0, H1 = 7, A8 = 56."
use Rattle.std.specs.Prelude.{ℕ, ◌+◌, ◌-◌, ◌*◌, ◌/◌, ◌%◌, ◌<◌, ◌≡◌, Bool, true, false, List, [], ◌∷◌, ltb, eqb, length, get_or, Option, Some, None}
use Rattle.refusal.specs.Paper.{Said, gives, refuse_if}

abbrev pub rank_of : ℕ → ℕ
rank_of s = s / 8

abbrev pub file_of : ℕ → ℕ
file_of s = s % 8

-- the square on a rank and a file
abbrev pub square_of : ℕ → ℕ → ℕ
square_of rank file = 8 * rank + file

-- 2: "square above 63, rank or file above 7"
abbrev pub on_square : {A : Type 0} → ℕ → Said A → Said A
on_square s x = refuse_if (ltb 63 s) 2 x

abbrev pub make_square : ℕ → ℕ → Said ℕ
make_square rank file = refuse_if (ltb 7 rank) 2 (refuse_if (ltb 7 file) 2 (gives (square_of rank file)))

abbrev pub rank_said : ℕ → Said ℕ
rank_said s = on_square s (gives (rank_of s))

abbrev pub file_said : ℕ → Said ℕ
file_said s = on_square s (gives (file_of s))

-- ---- steps that answer "none" off the board

abbrev pub unless : Bool → ℕ → Option ℕ
unless true t = None
unless false t = Some t

-- one rank up on the same file, and none from the last rank; the others in the same way
abbrev pub up_of : ℕ → Option ℕ
up_of s = unless (eqb (rank_of s) 7) (square_of (rank_of s + 1) (file_of s))

abbrev pub down_of : ℕ → Option ℕ
down_of s = unless (eqb (rank_of s) 0) (square_of (rank_of s - 1) (file_of s))

abbrev pub left_of : ℕ → Option ℕ
left_of s = unless (eqb (file_of s) 0) (square_of (rank_of s) (file_of s - 1))

abbrev pub right_of : ℕ → Option ℕ
right_of s = unless (eqb (file_of s) 7) (square_of (rank_of s) (file_of s + 1))

abbrev pub up_said : ℕ → Said (Option ℕ)
up_said s = on_square s (gives (up_of s))

abbrev pub down_said : ℕ → Said (Option ℕ)
down_said s = on_square s (gives (down_of s))

abbrev pub left_said : ℕ → Said (Option ℕ)
left_said s = on_square s (gives (left_of s))

abbrev pub right_said : ℕ → Said (Option ℕ)
right_said s = on_square s (gives (right_of s))

-- ---- names: "a letter a to h, then a digit 1 to 8"

-- "A square name is read from at least two bytes: a letter a to h, then a digit 1 to 8; what follows is ignored"
abbrev pub read_name : List ℕ → Said ℕ
read_name bytes =
    refuse_if (ltb (length bytes) 2) 2
    (refuse_if (ltb (get_or bytes 0 0) 97) 2
    (refuse_if (ltb 104 (get_or bytes 0 0)) 2
    (refuse_if (ltb (get_or bytes 1 0) 49) 2
    (refuse_if (ltb 56 (get_or bytes 1 0)) 2
    (gives (square_of (get_or bytes 1 0 - 49) (get_or bytes 0 0 - 97)))))))

-- the same, told without tests: a is byte 97, 1 is byte 49
pub record Reads (bytes : List ℕ) (s : ℕ) : Type 0 where
  pub file : ℕ
  pub rank : ℕ
  pub rest : List ℕ
  pub a_file : file < 8
  pub a_rank : rank < 8
  pub bytes_are : bytes ≡ (97 + file) ∷ (49 + rank) ∷ rest
  pub square_is : s ≡ square_of rank file

abbrev pub name_of : ℕ → List ℕ
name_of s = (97 + file_of s) ∷ (49 + rank_of s) ∷ []

abbrev pub name_said : ℕ → Said (List ℕ)
name_said s = on_square s (gives (name_of s))
