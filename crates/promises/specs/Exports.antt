-- Demands 2 and 3 of the exports' own answers: what a caller in Rust or C holds.
use Rattle.std.specs.Prelude.{ℕ, ◌^◌, ◌≤◌, ◌<◌, ◌≡◌, List, ◌↔◌, length, take}
use Rattle.board.specs.Board.{attack, on_block}
use Rattle.board.specs.Blocks.{block_of}
use Rattle.bmis.specs.Bmis as Bmis
use Rattle.packing.specs.Promised.{largest}
use Rattle.gen_magic.specs.Builds.{slots, from_seed, from_lent, record_in}
use Rattle.magic.specs.LookUp.{look_up}
use Rattle.magic.specs.Audit.{audit_says, reach_of}
use Rattle.slider.specs.declared.SliderAnswer.{SliderAnswer}
use Rattle.slider.specs.Flat.{answer_of, verdict_of, Handed, handed_of}
use Rattle.slider.specs.Batch.{walk_asked, pext_asked, moves_asked}

-- no refusal, and this set
abbrev pub moves : ℕ → SliderAnswer
moves set = record { number = 0; value = set }

-- slider_build and slider_build_lent: what is handed back, with table and marks; and that nothing was refused
abbrev pub from_seed_handed : ℕ → ℕ → List ℕ → List ℕ → Handed
from_seed_handed seed budget table marks = handed_of (from_seed seed budget table marks)

abbrev pub from_lent_handed : List ℕ → List ℕ → List ℕ → Handed
from_lent_handed multipliers table marks = handed_of (from_lent multipliers table marks)

abbrev pub Fine : Handed → Type 0
Fine h = h.build.number ≡ 0

-- ---- demand 2

-- slider_walk, slider_pext_moves in a table that slider_pext_fill filled, and in batches over lent slices, query i
pub record Answers (kinds squares blockers : List ℕ) (i : ℕ) : Type 0 where
  pub by_walk : answer_of (walk_asked kinds squares blockers i) ≡ moves (attack (slots kinds i) (slots squares i) (slots blockers i))
  pub by_pext : (old : List ℕ) → length old ≡ 107648 → answer_of (pext_asked (Bmis.filled old) kinds squares blockers i) ≡ moves (attack (slots kinds i) (slots squares i) (slots blockers i))
  pub by_seed : (seed budget : ℕ) (table marks : List ℕ) → Fine (from_seed_handed seed budget table marks)
      → answer_of (moves_asked (from_seed_handed seed budget table marks).build.records (from_seed_handed seed budget table marks).table kinds squares blockers i) ≡ moves (attack (slots kinds i) (slots squares i) (slots blockers i))
  pub by_lent : (multipliers table marks : List ℕ) → Fine (from_lent_handed multipliers table marks)
      → answer_of (moves_asked (from_lent_handed multipliers table marks).build.records (from_lent_handed multipliers table marks).table kinds squares blockers i) ≡ moves (attack (slots kinds i) (slots squares i) (slots blockers i))

-- ---- demand 3

-- the same records, counts and used slots, and zeros after them
pub record SameHanded (one other : Handed) : Type 0 where
  pub records : other.build.records ≡ one.build.records
  pub counts : other.build.counts ≡ one.build.counts
  pub used : other.build.used ≡ one.build.used
  pub table_used : take one.build.used other.table ≡ take one.build.used one.table
  pub marks_used : take one.build.used other.marks ≡ take one.build.used one.marks
  pub table_after : (j : ℕ) → one.build.used ≤ j → slots other.table j ≡ 0
  pub marks_after : (j : ℕ) → one.build.used ≤ j → slots other.marks j ≡ 0

pub record Exports : Type 0 where
  pub answers : (kinds squares blockers : List ℕ) (i : ℕ) → slots kinds i < 2 → slots squares i < 64 → slots blockers i < 2 ^ 64 → Answers kinds squares blockers i
  -- slider_moves with a block's own record, in what slider_build left
  pub one_answer : (seed budget : ℕ) (table marks : List ℕ) → Fine (from_seed_handed seed budget table marks) → (kind sq blockers : ℕ) → kind < 2 → sq < 64 → blockers < 2 ^ 64
      → answer_of (on_block kind sq (look_up kind sq blockers (record_in (from_seed_handed seed budget table marks).build.records (block_of kind sq)) (from_seed_handed seed budget table marks).table)) ≡ moves (attack kind sq blockers)
  -- slider_audit accepts what slider_build left
  pub accepts : (seed budget : ℕ) (table marks : List ℕ) → Fine (from_seed_handed seed budget table marks)
      → verdict_of (audit_says (from_seed_handed seed budget table marks).build.records (from_seed_handed seed budget table marks).table) ≡ record { number = 0; block = 0; subset = 0; reach = reach_of (from_seed_handed seed budget table marks).build.records }
  -- "A build from that seed then succeeds exactly when .."
  pub decides : (seed budget : ℕ) (table marks : List ℕ) → Fine (from_seed_handed seed budget table marks) → (budget' : ℕ) (table' marks' : List ℕ)
      → Fine (from_seed_handed seed budget' table' marks')
      ↔ ((budget' ≤ 16777216) × (length table' ≡ length marks') × (largest 128 (slots (from_seed_handed seed budget table marks).build.counts) ≤ budget') × ((from_seed_handed seed budget table marks).build.used ≤ length table'))
  -- "always with the same .."
  pub always_same : (seed budget budget' : ℕ) (table marks table' marks' : List ℕ) → Fine (from_seed_handed seed budget table marks) → Fine (from_seed_handed seed budget' table' marks')
      → SameHanded (from_seed_handed seed budget table marks) (from_seed_handed seed budget' table' marks')
