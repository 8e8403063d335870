-- What the calls hand back and leave in a lent buffer, for any arguments.
use Rattle.std.specs.Prelude.{ℕ, ◌+◌, ◌-◌, ◌/◌, min, cond, List, [], ◌∷◌, ◌++◌, ltb, leb, eqb, length, take, drop, set, replicate}
use Rattle.lines.specs.declared.Pending.{Pending}
use Rattle.lines.specs.declared.Fed.{Fed}
use Rattle.lines.specs.Line.{answer_line}

-- bytes at the start of a buffer; what follows stays
unfoldable pub over : List ℕ → List ℕ → List ℕ
over bytes out = bytes ++ drop (length bytes) out

-- the bytes where a buffer has room for them; else none
unfoldable pub fitting : List ℕ → ℕ → List ℕ
fitting bytes room = cond (leb (length bytes) room) bytes []

unfoldable pub answered : List ℕ → ℕ → List ℕ
answered line room = fitting (answer_line line) room

-- ---- the state: the bytes of a line that has begun, 22 at most

abbrev pub fresh : Pending
fresh = record { bytes = replicate 22 0; len = 0 }

abbrev pub line_of : Pending → List ℕ
line_of p = take (min p.len 22) p.bytes

-- the line with a byte more; the bytes after the 22nd are left out
unfoldable pub pushed : Pending → ℕ → Pending
pushed p b = cond (ltb p.len 22) (record { bytes = set p.bytes p.len b; len = p.len + 1 }) p

-- ---- a byte: what it leaves, and what it makes written

unfoldable pub next_of : Pending → ℕ → Pending
next_of p b = cond (eqb b 10) fresh (pushed p b)

unfoldable pub says_of : Pending → ℕ → List ℕ
says_of p b = cond (eqb b 10) (answer_line (line_of p)) []

-- ---- a chunk: the same, byte by byte

unfoldable pub after : Pending → List ℕ → Pending
after p [] = p
after p (b ∷ rest) = after (next_of p b) rest

unfoldable pub written : Pending → List ℕ → List ℕ
written p [] = []
written p (b ∷ rest) = says_of p b ++ written (next_of p b) rest

-- how many bytes of a chunk a buffer has room for: 2 of its bytes for each, and for each of the 22 that may be pending
abbrev pub room_for : ℕ → ℕ
room_for room = (room - 44) / 2

unfoldable pub taken : List ℕ → ℕ → List ℕ
taken chunk room = take (room_for room) chunk

unfoldable pub fed_of : Pending → List ℕ → ℕ → Fed
fed_of p chunk room =
    record {
      pending = after p (taken chunk room);
      len = length (written p (taken chunk room));
      used = length (taken chunk room);
    }

-- ---- the end

-- the answer of a line that no line feed ended, if it is not empty
unfoldable pub ending : Pending → ℕ → List ℕ
ending p room = cond (eqb p.len 0) [] (answered (line_of p) room)
