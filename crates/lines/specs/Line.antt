-- A line of the query program and its answer. 01, "Board examples", the last paragraph.
use Rattle.std.specs.Prelude.{ℕ, Bool, true, false, cond, List, [], ◌∷◌, ◌++◌, eqb, length, get_or, take, drop, Option, Some, None, option_map}
use Rattle.refusal.specs.Paper.{Said, gives, refuses}
use Rattle.square.specs.Square.{read_name}
use Rattle.board.specs.Board.{attack}
use Rattle.hex_digits.specs.Hex.{read_word, digits}
use Rattle.lines.specs.declared.Query.{Query}

-- what follows counts where the test passes, and where a name was read
abbrev pub only_if : Bool → Option Query → Option Query
only_if true query = query
only_if false query = None

abbrev pub on_name : Said ℕ → (ℕ → Option Query) → Option Query
on_name (gives square) f = f square
on_name (refuses n l) f = None

-- "space, square, space, 16 upper-case hex digits": byte 1, bytes 2 and 3, byte 4, bytes 5 to 20
unfoldable pub query_after : ℕ → List ℕ → Option Query
query_after kind line =
    only_if (eqb (get_or line 1 0) 32)
    (on_name (read_name (take 2 (drop 2 line))) (λ square.
    only_if (eqb (get_or line 4 0) 32)
    (option_map (λ blockers. record { kind = kind; square = square; blockers = blockers }) (read_word (take 16 (drop 5 line))))))

-- "lines of exactly 21 bytes: R or B" (82, a rook, kind 0; 66, a bishop, kind 1), and what follows
unfoldable pub query_of : List ℕ → Option Query
query_of line =
    only_if (eqb (length line) 21)
    (cond (eqb (get_or line 0 0) 82) (query_after 0 line)
    (cond (eqb (get_or line 0 0) 66) (query_after 1 line)
    None))

-- "The query program answers by the walk." Which is the attack set, whatever the blockers are
unfoldable pub walk_of : Option Query → Option ℕ
walk_of query = option_map (λ q. attack q.kind q.square q.blockers) query

-- "The answer is the line, a space and the walk in 16 such digits; any other line gives `?`. Every line written, the
-- last too, ends with a line feed."
abbrev pub mark : List ℕ
mark = 63 ∷ 10 ∷ []

unfoldable pub answer_to : List ℕ → Option ℕ → List ℕ
answer_to line (Some walk) = line ++ (32 ∷ (digits 16 walk ++ (10 ∷ [])))
answer_to line None = mark

unfoldable pub answer_line : List ℕ → List ℕ
answer_line line = answer_to line (walk_of (query_of line))
