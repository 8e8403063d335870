-- What the query program writes for its input. 01, "Board examples", the last paragraph.
use Rattle.std.specs.Prelude.{ℕ, cond, List, [], ◌∷◌, ◌++◌, eqb}
use Rattle.lines.specs.Line.{answer_line}

-- "It writes its header": slider 1
abbrev pub head_line : List ℕ
head_line = 115 ∷ 108 ∷ 105 ∷ 100 ∷ 101 ∷ 114 ∷ 32 ∷ 49 ∷ 10 ∷ []

-- "a last line without one counts if not empty"
unfoldable pub last_line : List ℕ → List (List ℕ)
last_line [] = []
last_line (b ∷ line) = (b ∷ line) ∷ []

-- the lines of a stream, where `line` is what came before it of its first line. A line ends at a line feed (10)
unfoldable pub lines_from : List ℕ → List ℕ → List (List ℕ)
lines_from line [] = last_line line
lines_from line (b ∷ rest) = cond (eqb b 10) (line ∷ lines_from [] rest) (lines_from (line ++ (b ∷ [])) rest)

unfoldable pub answers_to : List (List ℕ) → List ℕ
answers_to [] = []
answers_to (line ∷ more) = answer_line line ++ answers_to more

-- "It writes its header even for empty input, then reads lines"
unfoldable pub output_of : List ℕ → List ℕ
output_of stream = head_line ++ answers_to (lines_from [] stream)
