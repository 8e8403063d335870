-- PEXT tables. 01, "Look-ups and audit": "PEXT: blocks in the order rook 0, bishop 0, rook 1, bishop 1, ... as in gen_all_bmis; entry i is the walk of subset i extracted through the rays, 16 bits; the look-up deposits it again, for any 107,648 entries."
use Rattle.std.specs.Prelude.{ℕ, zero, suc, ◌+◌, ◌*◌, ◌/◌, ◌%◌, Bool, true, false, not, List, [], ◌++◌, eqb, length, get_or, take, drop}
use Rattle.refusal.specs.Paper.{Said, gives, refuses, refuse_if}
use Rattle.bits.specs.Intel.{pext, pdep}
use Rattle.bits.specs.Shown.{shown, sum}
use Rattle.board.specs.Board.{rays, mask, attack, on_block}
use Rattle.board.specs.Blocks.{block_of, size_of, subset}
use Rattle.bmis.specs.declared.Extent.{Extent}

-- the p-th block of the order (p counted from 0): rook and bishop in turn, square by square
unfoldable pub block_at : ℕ → ℕ
block_at p = block_of (p % 2) (p / 2)

unfoldable pub size_at : ℕ → ℕ
size_at p = size_of (p % 2) (p / 2)

-- where a block begins: the sizes of those before it
unfoldable pub offset_of : ℕ → ℕ → ℕ
offset_of kind s = sum (2 * s + kind) size_at

-- "entry i is the walk of subset i extracted through the rays"
unfoldable pub entry : ℕ → ℕ → ℕ → ℕ
entry kind s i = pext (attack kind s (subset kind s i)) (rays kind s)

-- the entries of the first p blocks, one after another; of all, at 128
unfoldable pub entries_to : ℕ → List ℕ
entries_to zero = []
entries_to (suc p) = entries_to p ++ shown (size_at p) (entry (p % 2) (p / 2))

-- 9: "PEXT table not 107,648"
abbrev pub of_length : {A : Type 0} → ℕ → Said A → Said A
of_length entries x = refuse_if (not (eqb entries 107648)) 9 x

-- "Order: 1, 2, 9"
abbrev pub in_table : {A : Type 0} → ℕ → ℕ → ℕ → Said A → Said A
in_table kind s entries x = on_block kind s (of_length entries x)

-- what a fill leaves: "A loan of another length is 9 and changes nothing."
abbrev pub filled_if : Bool → List ℕ → List ℕ
filled_if true old = entries_to 128
filled_if false old = old

abbrev pub filled : List ℕ → List ℕ
filled old = filled_if (eqb (length old) 107648) old

-- the look-up, for any entries
unfoldable pub look_up : ℕ → ℕ → ℕ → List ℕ → ℕ
look_up kind s blockers table = pdep (get_or table (offset_of kind s + pext blockers (mask kind s)) 0) (rays kind s)

-- "A square's PEXT block is handed on as a part that starts at its offset, and can be asked for as a returned part; there 1, 2 and 9 return the empty part"
unfoldable pub part_of : ℕ → ℕ → List ℕ → List ℕ
part_of kind s table = take (size_of kind s) (drop (offset_of kind s) table)

abbrev pub given : Said (List ℕ) → List ℕ
given (gives l) = l
given (refuses n l) = []

-- "and a second call on the same arguments gives the number, or the block's offset and size"
abbrev pub extent_of : ℕ → ℕ → Extent
extent_of kind s = record { offset = offset_of kind s; size = size_of kind s }
