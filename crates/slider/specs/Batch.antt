-- Batches over lent slices: query i is the i-th of each list.
use Rattle.std.specs.Prelude.{ℕ, min, ◌≡◌, List, ◌++◌, length, drop}
use Rattle.refusal.specs.Paper.{Said, gives}
use Rattle.bits.specs.Shown.{shown}
use Rattle.board.specs.Board.{attack, on_block}
use Rattle.board.specs.Blocks.{block_of}
use Rattle.bmis.specs.Bmis as Bmis
use Rattle.gen_magic.specs.declared.Record.{Record}
use Rattle.gen_magic.specs.Builds.{slots, record_in}
use Rattle.magic.specs.LookUp.{look_up}
use Rattle.slider.specs.Flat.{answer_of}

-- as many as each of five lists has
abbrev pub fewest : ℕ → ℕ → ℕ → ℕ → ℕ → ℕ
fewest a b c d e = min (min (min a b) c) (min d e)

-- the first n are f 0, f 1, ..; the rest stays
abbrev pub over : ℕ → (ℕ → ℕ) → List ℕ → List ℕ
over n f old = shown n f ++ drop n old

-- n queries are answered, each with its number and its set, and the answer is n
pub record Batch (asked : ℕ → Said ℕ) (n r : ℕ) (numbers moves numbers' moves' : List ℕ) : Type 0 where
  pub answered : r ≡ n
  pub numbers_now : numbers' ≡ over n (λ i. (answer_of (asked i)).number) numbers
  pub moves_now : moves' ≡ over n (λ i. (answer_of (asked i)).value) moves

-- query i of three lists, of what is said of a kind, a square and blockers
abbrev pub asked_by : (ℕ → ℕ → ℕ → Said ℕ) → List ℕ → List ℕ → List ℕ → ℕ → Said ℕ
asked_by says kinds squares blockers i = says (slots kinds i) (slots squares i) (slots blockers i)

abbrev pub walk_asked : List ℕ → List ℕ → List ℕ → ℕ → Said ℕ
walk_asked kinds squares blockers i =
    on_block (slots kinds i) (slots squares i) (gives (attack (slots kinds i) (slots squares i) (slots blockers i)))

abbrev pub pext_asked : List ℕ → List ℕ → List ℕ → List ℕ → ℕ → Said ℕ
pext_asked table kinds squares blockers i =
    Bmis.in_table (slots kinds i) (slots squares i) (length table)
    (gives (Bmis.look_up (slots kinds i) (slots squares i) (slots blockers i) table))

-- by the record of the query's own block
abbrev pub moves_asked : List Record → List ℕ → List ℕ → List ℕ → List ℕ → ℕ → Said ℕ
moves_asked records table kinds squares blockers i =
    on_block (slots kinds i) (slots squares i)
    (look_up (slots kinds i) (slots squares i) (slots blockers i) (record_in records (block_of (slots kinds i) (slots squares i))) table)
