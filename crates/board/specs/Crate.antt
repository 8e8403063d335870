-- The crate's answers, written from src/gen_tables/magic_helpers.rs and what it calls in src/square.rs, src/bitboard.rs and src/gen_tables/rays.rs. Names are the original's. None of our own rays, masks, steps or walks is used.
use Rattle.std.specs.Prelude.{ℕ, zero, suc, ◌+◌, ◌-◌, ◌*◌, ◌/◌, ◌^◌, Bool, true, false, not, ◌&&◌, ◌||◌, List, [], ◌∷◌, map, eqb, get_or}
use Rattle.std.specs.Prelude.{Option, Some, None}
use Rattle.std.specs.Int.Bits.{bit_and, bit_or, bit_xor}
use Rattle.std.specs.Int.Count.{ones, count_trailing_zeros}
use Rattle.bits.specs.Shown.{shown}

abbrev pub cond : {A : Type 0} → Bool → A → A → A
cond true a b = a
cond false a b = b

-- ---- src/square.rs, lines 70 to 184: `Square(rank << 3 ^ file)`, `self.0 >> 3`, `self.0 & 7`

unfoldable pub make_square : ℕ → ℕ → ℕ
make_square rank file = bit_xor (rank * 2 ^ 3) file

unfoldable pub get_rank : ℕ → ℕ
get_rank sq = sq / 2 ^ 3

unfoldable pub get_file : ℕ → ℕ
get_file sq = bit_and sq 7

unfoldable pub up : ℕ → Option ℕ
unfolding make_square get_rank get_file
up sq = cond (eqb (get_rank sq) 7) None (Some (make_square (get_rank sq + 1) (get_file sq)))

unfoldable pub down : ℕ → Option ℕ
unfolding make_square get_rank get_file
down sq = cond (eqb (get_rank sq) 0) None (Some (make_square (get_rank sq - 1) (get_file sq)))

unfoldable pub left : ℕ → Option ℕ
unfolding make_square get_rank get_file
left sq = cond (eqb (get_file sq) 0) None (Some (make_square (get_rank sq) (get_file sq - 1)))

unfoldable pub right : ℕ → Option ℕ
unfolding make_square get_rank get_file
right sq = cond (eqb (get_file sq) 7) None (Some (make_square (get_rank sq) (get_file sq + 1)))

-- ---- src/gen_tables/magic_helpers.rs, lines 17 to 51

-- `map_or(None, f)`
abbrev pub map_or_none : Option ℕ → (ℕ → Option ℕ) → Option ℕ
map_or_none None f = None
map_or_none (Some s) f = f s

unfoldable pub rook_directions : List (ℕ → Option ℕ)
unfolding left right up down
rook_directions = left ∷ right ∷ up ∷ down ∷ []

unfoldable pub bishop_directions : List (ℕ → Option ℕ)
unfolding left right up down
bishop_directions = (λ sq. map_or_none (left sq) up) ∷ (λ sq. map_or_none (right sq) up) ∷ (λ sq. map_or_none (left sq) down) ∷ (λ sq. map_or_none (right sq) down) ∷ []

-- ---- src/gen_tables/rays.rs, lines 12 to 52, and magic_helpers.rs, lines 58 to 74 and 127 to 138

-- `ALL_SQUARES.iter().filter(p).fold(EMPTY, |b, s| b | from_square(s))`, over the first n squares
unfoldable pub fold_or : ℕ → (ℕ → Bool) → ℕ
fold_or zero p = 0
fold_or (suc n) p = cond (p n) (bit_or (fold_or n p) (2 ^ n)) (fold_or n p)

-- `abs` of a difference
unfoldable pub abs_diff : ℕ → ℕ → ℕ
abs_diff a b = (a - b) + (b - a)

unfoldable pub get_rays : ℕ → ℕ → ℕ
unfolding fold_or abs_diff get_rank get_file
get_rays zero src = fold_or 64 (λ dest. (eqb (get_rank src) (get_rank dest) || eqb (get_file src) (get_file dest)) && not (eqb src dest))
get_rays (suc piece) src = fold_or 64 (λ dest. eqb (abs_diff (get_rank src) (get_rank dest)) (abs_diff (get_file src) (get_file dest)) && not (eqb src dest))

unfoldable pub gen_edges : ℕ
unfolding fold_or get_rank get_file
gen_edges = fold_or 64 (λ sq. eqb (get_rank sq) 0 || eqb (get_rank sq) 7 || eqb (get_file sq) 0 || eqb (get_file sq) 7)

-- `!x`
unfoldable pub complement : ℕ → ℕ
complement x = (2 ^ 64 - 1) - x

unfoldable pub magic_mask : ℕ → ℕ → ℕ
unfolding get_rays fold_or complement gen_edges get_rank get_file
magic_mask zero sq =
    bit_and (get_rays 0 sq)
    (complement (fold_or 64 (λ edge. (eqb (get_rank sq) (get_rank edge) && (eqb (get_file edge) 0 || eqb (get_file edge) 7)) || (eqb (get_file sq) (get_file edge) && (eqb (get_rank edge) 0 || eqb (get_rank edge) 7)))))
magic_mask (suc piece) sq = bit_and (get_rays (suc piece) sq) (complement gen_edges)

-- ---- src/bitboard.rs, lines 322 to 336: the iterator, and `collect`

unfoldable pub collect_in : ℕ → ℕ → List ℕ
collect_in zero b = []
collect_in (suc n) b = cond (eqb b 0) [] (count_trailing_zeros 64 b ∷ collect_in n (bit_xor b (2 ^ count_trailing_zeros 64 b)))

-- a set of 64 squares is empty after 64 turns
unfoldable pub collect : ℕ → List ℕ
unfolding collect_in
collect b = collect_in 64 b

-- ---- magic_helpers.rs, lines 76 to 125

-- `for j in 0..mask.popcnt() { if i & (1 << j) == (1 << j) { current |= from_square(squares[j]) } }`
unfoldable pub question : List ℕ → ℕ → ℕ → ℕ
question squares zero i = 0
question squares (suc j) i = cond (eqb (bit_and i (2 ^ j)) (2 ^ j)) (bit_or (question squares j i) (2 ^ get_or squares j 64)) (question squares j i)

-- `for i in 0..(1u64 << mask.popcnt())`
unfoldable pub rays_to_questions : ℕ → List ℕ
unfolding collect question
rays_to_questions mask = shown (2 ^ ones mask) (question (collect mask) (ones mask))

-- `while next != None { answer ^= .. ; if .. != EMPTY { break; } next = m(next) }`, in at most n turns
unfoldable pub answer_along : ℕ → (ℕ → Option ℕ) → Option ℕ → ℕ → ℕ → ℕ
answer_along zero m next question answer = answer
answer_along (suc n) m None question answer = answer
answer_along (suc n) m (Some sq) question answer =
    cond (eqb (bit_and (2 ^ sq) question) 0) (answer_along n m (m sq) question (bit_xor answer (2 ^ sq))) (bit_xor answer (2 ^ sq))

-- `for m in movement`; no line has 64 squares, so no loop is cut
unfoldable pub answer_all : List (ℕ → Option ℕ) → ℕ → ℕ → ℕ → ℕ
unfolding answer_along
answer_all [] sq question answer = answer
answer_all (m ∷ movement) sq question answer = answer_all movement sq question (answer_along 64 m (m sq) question answer)

abbrev pub movement : ℕ → List (ℕ → Option ℕ)
movement zero = rook_directions
movement (suc piece) = bishop_directions

-- the answer to any set of blockers
unfoldable pub answer : ℕ → ℕ → ℕ → ℕ
unfolding answer_all rook_directions bishop_directions
answer piece sq question = answer_all (movement piece) sq question 0

-- the two lists
unfoldable pub questions : ℕ → ℕ → List ℕ
unfolding rays_to_questions magic_mask
questions piece sq = rays_to_questions (magic_mask piece sq)

unfoldable pub answers : ℕ → ℕ → List ℕ
unfolding questions answer
answers piece sq = map (answer piece sq) (questions piece sq)

-- generate_magic's `fold(EMPTY, |b, n| b | n)` (src/gen_tables/magic.rs, lines 53 and 55)
unfoldable pub or_all : List ℕ → ℕ
or_all [] = 0
or_all (x ∷ l) = bit_or x (or_all l)
