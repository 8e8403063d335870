-- The border loses nothing: from the plain data that a caller in Rust or C gets, all that the call said can be told, number, block
-- and subset included.
use Rattle.std.specs.Prelude.{ℕ, ◌≡◌, Bool, cond, ◌||◌, List, [], ◌∷◌, eqb, Option, Some, None}
use Rattle.refusal.specs.Paper.{Said, gives, refuses}
use Rattle.square.specs.Square.{on_square, read_name, name_said}
use Rattle.board.specs.Board.{on_block}
use Rattle.board.specs.Blocks.{block_of}
use Rattle.bmis.specs.declared.Extent.{Extent}
use Rattle.bmis.specs.Bmis.{of_length, in_table, extent_of}
use Rattle.packing.specs.declared.Taken.{Taken}
use Rattle.candidates.specs.OneBlock.{search_of}
use Rattle.gen_magic.specs.declared.Record.{Record}
use Rattle.gen_magic.specs.Builds.{Left, from_seed, from_lent}
use Rattle.magic.specs.LookUp.{look_up}
use Rattle.magic.specs.Audit.{audit_says}
use Rattle.slider.specs.declared.SliderAnswer.{SliderAnswer}
use Rattle.slider.specs.declared.SliderVerdict.{SliderVerdict}
use Rattle.slider.specs.declared.SliderFound.{SliderFound}
use Rattle.slider.specs.declared.SliderPlace.{SliderPlace}
use Rattle.slider.specs.declared.SliderName.{SliderName}
use Rattle.slider.specs.declared.SliderStep.{SliderStep}
use Rattle.slider.specs.Flat.{answer_of, verdict_of, found_of, place_of, name_of, step_of, Handed, handed_of}

-- ---- what is told by the number: 0 is a value, another a refusal with its values

abbrev pub by_number : {A : Type 0} → ℕ → A → List ℕ → Said A
by_number n x values = cond (eqb n 0) (gives x) (refuses n values)

abbrev pub answer_in : SliderAnswer → Said ℕ
answer_in a = by_number a.number a.value []

abbrev pub place_in : SliderPlace → Said Extent
place_in p = by_number p.number (record { offset = p.offset; size = p.size }) []

abbrev pub name_in : SliderName → Said (List ℕ)
name_in n = by_number n.number (n.letter ∷ n.digit ∷ []) []

abbrev pub step_in : SliderStep → Said (Option ℕ)
step_in s = by_number s.number (cond (eqb s.off 0) (Some s.square) None) []

-- of a search 5 has its block
abbrev pub found_in : SliderFound → Said Taken
found_in f = by_number f.number (record { multiplier = f.multiplier; count = f.count }) (cond (eqb f.number 5) (f.block ∷ []) [])

-- of an audit 8 has its block, 7 and 11 have block and subset
abbrev pub verdict_in : SliderVerdict → Said ℕ
verdict_in v = by_number v.number v.reach (cond (eqb v.number 8) (v.block ∷ []) (v.block ∷ v.subset ∷ []))

-- of a build 4, 5 and 6 have their block
abbrev pub at_block : ℕ → Bool
at_block n = eqb n 4 || (eqb n 5 || eqb n 6)

abbrev pub left_in : Handed → Left
left_in h =
    record {
      says = by_number h.build.number tt (cond (at_block h.build.number) (h.build.block ∷ []) []);
      records = h.build.records;
      counts = h.build.counts;
      used = h.build.used;
      table = h.table;
      marks = h.marks;
    }

pub record Border : Type 0 where
  -- rays, masks, sizes, shifts, subsets and walks
  pub by_kind_and_square : (kind sq x : ℕ) → answer_in (answer_of (on_block kind sq (gives x))) ≡ on_block kind sq (gives x)
  -- a name that is read, and one that is written
  pub square_read : (bytes : List ℕ) → answer_in (answer_of (read_name bytes)) ≡ read_name bytes
  pub name_written : (sq : ℕ) → name_in (name_of (name_said sq)) ≡ name_said sq
  -- a step, with what is off the board
  pub stepped : (sq : ℕ) (to : Option ℕ) → step_in (step_of (on_square sq (gives to))) ≡ on_square sq (gives to)
  -- the PEXT table: its fill, its look-ups and each block's place
  pub pext_filled : (entries x : ℕ) → answer_in (answer_of (of_length entries (gives x))) ≡ of_length entries (gives x)
  pub pext_looked_up : (kind sq entries x : ℕ) → answer_in (answer_of (in_table kind sq entries (gives x))) ≡ in_table kind sq entries (gives x)
  pub pext_placed : (kind sq entries : ℕ) → place_in (place_of (in_table kind sq entries (gives (extent_of kind sq)))) ≡ in_table kind sq entries (gives (extent_of kind sq))
  -- a magic look-up, of 8 and 7
  pub looked_up : (kind sq blockers : ℕ) (r : Record) (table : List ℕ) → answer_in (answer_of (on_block kind sq (look_up kind sq blockers r table))) ≡ on_block kind sq (look_up kind sq blockers r table)
  -- the search of one block, with the block of 5
  pub searched : (kind sq seed budget : ℕ) → found_in (found_of (on_block kind sq (search_of (block_of kind sq) seed budget))) ≡ on_block kind sq (search_of (block_of kind sq) seed budget)
  -- the audit, "audit: block, subset"
  pub audited : (records : List Record) (table : List ℕ) → verdict_in (verdict_of (audit_says records table)) ≡ audit_says records table
  -- the builds, with the block of 4, 5 and 6, and what each leaves of its loans
  pub built : (seed budget : ℕ) (table marks : List ℕ) → left_in (handed_of (from_seed seed budget table marks)) ≡ from_seed seed budget table marks
  pub built_lent : (multipliers table marks : List ℕ) → left_in (handed_of (from_lent multipliers table marks)) ≡ from_lent multipliers table marks
