-- The three demands, in their own words, over the definitions that the public functions' contracts use.
use Rattle.std.specs.Prelude.{ℕ, suc, ◌^◌, ◌≤◌, ◌<◌, ◌≡◌, List, [], ◌∷◌, ◌⊎◌, ◌↔◌, length, take, replicate}
use Rattle.refusal.specs.Paper.{Said, gives, refuses}
use Rattle.square.specs.Square.{on_square, make_square, read_name}
use Rattle.bitboard.specs.Bitboard.{least_square}
use Rattle.board.specs.Board.{attack, on_block}
use Rattle.board.specs.Blocks.{block_of}
use Rattle.board.specs.Walk.{walk}
use Rattle.board.specs.Crate.{answer}
use Rattle.bmis.specs.Bmis as Bmis
use Rattle.splitmix.specs.SplitMix.{candidate}
use Rattle.packing.specs.Pack.{State, place, done}
use Rattle.packing.specs.Promised.{Placed, after, taken_by, EachFirst, lent_at, EachClean, largest}
use Rattle.blocks.specs.Real.{real}
use Rattle.gen_magic.specs.declared.Record.{Record}
use Rattle.gen_magic.specs.Builds.{slots, record_at, Left, ended, from_seed, from_lent, record_in}
use Rattle.magic.specs.LookUp.{slot_in, look_up}

-- a build succeeded
abbrev pub Succeeds : Left → Type 0
Succeeds left = left.says ≡ gives tt

-- the arguments of a build from a seed are not refused
pub record Allowed (budget : ℕ) (table marks : List ℕ) : Type 0 where
  pub budget_allowed : budget ≤ 16777216
  pub one_length : length table ≡ length marks

-- ---- demand 1

-- a refused build: its number and values; "records, counts all 0, used 0"; and what it leaves of its loans
pub record Refused (left : Left) (number : ℕ) (values table marks : List ℕ) : Type 0 where
  pub says : left.says ≡ refuses number values
  pub records : left.records ≡ replicate 128 (record { multiplier = 0; mask = 0; offset = 0; shift = 0 })
  pub counts : left.counts ≡ replicate 128 0
  pub used : left.used ≡ 0
  pub table_left : left.table ≡ table
  pub marks_left : left.marks ≡ marks

-- "Bad arguments are refused by number and change nothing. A build refused on the way leaves table, marks and records all
-- zero." That any numbers and lengths are taken and every call ends is in what a proof of a function is: none has a
-- demand on its caller
pub record Demand1 : Type 1 where
  -- 1 and 2, of all that is asked by kind and square
  pub kind_refused : {A : Type 0} (kind sq : ℕ) (x : Said A) → 1 < kind → on_block kind sq x ≡ refuses 1 []
  pub square_refused : {A : Type 0} (kind sq : ℕ) (x : Said A) → kind ≤ 1 → 63 < sq → on_block kind sq x ≡ refuses 2 []
  -- 2, of a square alone, a rank, a file, a name, a least square
  pub off_the_board : {A : Type 0} (sq : ℕ) (x : Said A) → 63 < sq → on_square sq x ≡ refuses 2 []
  pub rank_refused : (rank file : ℕ) → 7 < rank → make_square rank file ≡ refuses 2 []
  pub file_refused : (rank file : ℕ) → rank ≤ 7 → 7 < file → make_square rank file ≡ refuses 2 []
  pub name_refused : (bytes : List ℕ) → length bytes < 2 → read_name bytes ≡ refuses 2 []
  pub empty_refused : least_square 0 ≡ refuses 2 []
  -- 9, of a fill, which leaves the loan, and of a look-up
  pub pext_refused : (old : List ℕ) → (length old ≡ 107648 → ⊥) → (Bmis.of_length {A = ℕ} (length old) (gives 107648) ≡ refuses 9 []) × (Bmis.filled old ≡ old)
  pub pext_look_up_refused : {A : Type 0} (kind sq entries : ℕ) (x : Said A) → kind < 2 → sq < 64 → (entries ≡ 107648 → ⊥) → Bmis.in_table kind sq entries x ≡ refuses 9 []
  -- 8, then 7, of a magic look-up
  pub shift_refused : (kind sq blockers : ℕ) (r : Record) (table : List ℕ) → kind < 2 → sq < 64 → (r.shift < 52) ⊎ (59 < r.shift) → on_block kind sq (look_up kind sq blockers r table) ≡ refuses 8 []
  pub index_refused : (kind sq blockers : ℕ) (r : Record) (table : List ℕ) → kind < 2 → sq < 64 → 52 ≤ r.shift → r.shift ≤ 59 → length table ≤ slot_in r blockers → on_block kind sq (look_up kind sq blockers r table) ≡ refuses 7 []
  -- 10, 9 and 3, of the builds
  pub budget_refused : (seed budget : ℕ) (table marks : List ℕ) → 16777216 < budget → Refused (from_seed seed budget table marks) 10 [] table marks
  pub lengths_refused : (seed budget : ℕ) (table marks : List ℕ) → budget ≤ 16777216 → (length table ≡ length marks → ⊥) → Refused (from_seed seed budget table marks) 3 [] table marks
  pub list_refused : (multipliers table marks : List ℕ) → (length multipliers ≡ 128 → ⊥) → Refused (from_lent multipliers table marks) 9 [] table marks
  pub lent_lengths_refused : (multipliers table marks : List ℕ) → length multipliers ≡ 128 → (length table ≡ length marks → ⊥) → Refused (from_lent multipliers table marks) 3 [] table marks
  pub on_the_way : (seed budget : ℕ) (table marks : List ℕ) → Allowed budget table marks
      → Succeeds (from_seed seed budget table marks)
      ⊎ ((number : ℕ) × (block : ℕ) × ((number ≡ 4) ⊎ (number ≡ 5)) × (block < 128)
      × Refused (from_seed seed budget table marks) number (block ∷ []) (replicate (length table) 0) (replicate (length table) 0))
  pub lent_on_the_way : (multipliers table marks : List ℕ) → length multipliers ≡ 128 → length table ≡ length marks
      → Succeeds (from_lent multipliers table marks)
      ⊎ ((number : ℕ) × (block : ℕ) × ((number ≡ 4) ⊎ (number ≡ 6)) × (block < 128)
      × Refused (from_lent multipliers table marks) number (block ∷ []) (replicate (length table) 0) (replicate (length table) 0))

-- ---- demand 2

-- the look-up with a block's own record, in what a build left
abbrev pub LooksUp : Left → ℕ → ℕ → ℕ → Type 0
LooksUp left kind sq blockers = on_block kind sq (look_up kind sq blockers (record_in left.records (block_of kind sq)) left.table) ≡ gives (attack kind sq blockers)

-- "For each square, rook or bishop, and any 64 blocker bits, ray walk, look-up in a filled PEXT table and look-up in a
-- built magic table give the attack set of FIDE Laws 3.2, 3.3 and 3.5, first blocker included, and equal the crate's."
-- Each left side is what the public function is proved to say, refusals included
pub record OneAnswer (kind sq blockers : ℕ) : Type 0 where
  pub by_walk : on_block kind sq (gives (walk kind sq blockers)) ≡ gives (attack kind sq blockers)
  pub by_pext : (old : List ℕ) → length old ≡ 107648 → Bmis.in_table kind sq (length (Bmis.filled old)) (gives (Bmis.look_up kind sq blockers (Bmis.filled old))) ≡ gives (attack kind sq blockers)
  pub by_seed : (seed budget : ℕ) (table marks : List ℕ) → Succeeds (from_seed seed budget table marks) → LooksUp (from_seed seed budget table marks) kind sq blockers
  pub by_lent : (multipliers table marks : List ℕ) → Succeeds (from_lent multipliers table marks) → LooksUp (from_lent multipliers table marks) kind sq blockers
  pub by_crate : answer kind sq blockers ≡ attack kind sq blockers

pub record Demand2 : Type 0 where
  pub one_answer : (kind sq blockers : ℕ) → kind < 2 → sq < 64 → blockers < 2 ^ 64 → OneAnswer kind sq blockers
  -- "a filled PEXT table": a loan of 107,648 entries is filled
  pub fills : (old : List ℕ) → length old ≡ 107648 → Bmis.of_length {A = ℕ} (length old) (gives 107648) ≡ gives 107648
  -- "A build from a seed, its arguments not refused, succeeds exactly when each block, in the fixed order, fits at its first
  -- free place and has a passing candidate within the budget"
  pub succeeds_exactly : (seed budget : ℕ) (table marks : List ℕ) → Allowed budget table marks
      → Succeeds (from_seed seed budget table marks) ↔ ((position : ℕ → ℕ) × EachFirst real (candidate seed) budget (length table) position 128)
  -- "its first free place": the one number that 01's sentence says, told without a search
  pub first_free : (b : ℕ) (s : State) (p : ℕ) → Placed (real.size b) (real.rays b) s.marks s.end p ↔ (p ≡ place real b s)
  -- "it takes the first": all that is handed back and left is that of these places and positions
  pub takes_first : (seed budget : ℕ) (table marks : List ℕ) → Allowed budget table marks → (position : ℕ → ℕ) → EachFirst real (candidate seed) budget (length table) position 128
      → from_seed seed budget table marks ≡ ended (length table) (done (after real (taken_by (candidate seed) position) 128))
  -- and block by block: its record has that candidate and that place, its count is the candidate's position from 1
  pub block_by_block : (seed budget : ℕ) (table marks : List ℕ) → Allowed budget table marks → (position : ℕ → ℕ) → EachFirst real (candidate seed) budget (length table) position 128 → (b : ℕ) → b < 128
      → (record_in (from_seed seed budget table marks).records b ≡ record_at b (candidate seed (position b)) (place real b (after real (taken_by (candidate seed) position) b)))
      × (slots (from_seed seed budget table marks).counts b ≡ suc (position b))
  -- 01, "Packing": "The build from lent multipliers does the same with 128 given numbers, .. testing collisions only"
  pub lent_exactly : (multipliers table marks : List ℕ) → length multipliers ≡ 128 → length table ≡ length marks
      → Succeeds (from_lent multipliers table marks) ↔ EachClean real (slots multipliers) (length table) 128
  -- "Its attempt counts are 0": each record has the lent number and its first free place
  pub lent_takes : (multipliers table marks : List ℕ) → length multipliers ≡ 128 → length table ≡ length marks → EachClean real (slots multipliers) (length table) 128
      → from_lent multipliers table marks ≡ ended (length table) (done (after real (lent_at (slots multipliers)) 128))
  pub lent_block_by_block : (multipliers table marks : List ℕ) → length multipliers ≡ 128 → length table ≡ length marks → EachClean real (slots multipliers) (length table) 128 → (b : ℕ) → b < 128
      → (record_in (from_lent multipliers table marks).records b ≡ record_at b (slots multipliers b) (place real b (after real (lent_at (slots multipliers)) b)))
      × (slots (from_lent multipliers table marks).counts b ≡ 0)

-- ---- demand 3

-- "the same records, attempt counts and used slots, and zeros after them"
pub record Same (one other : Left) : Type 0 where
  pub records : other.records ≡ one.records
  pub counts : other.counts ≡ one.counts
  pub used : other.used ≡ one.used
  pub table_used : take one.used other.table ≡ take one.used one.table
  pub marks_used : take one.used other.marks ≡ take one.used one.marks
  pub table_after : (j : ℕ) → one.used ≤ j → slots other.table j ≡ 0
  pub marks_after : (j : ℕ) → one.used ≤ j → slots other.marks j ≡ 0

-- "note its largest attempt count"
abbrev pub largest_count : Left → ℕ
largest_count left = largest 128 (slots left.counts)

pub record Demand3 : Type 0 where
  -- "If one build from a seed succeeds, .. A build from that seed then succeeds exactly when its budget is allowed and reaches
  -- the first, and table and marks have one length that reaches the second"
  pub decides : (seed budget : ℕ) (table marks : List ℕ) → Succeeds (from_seed seed budget table marks)
      → (budget' : ℕ) (table' marks' : List ℕ)
      → Succeeds (from_seed seed budget' table' marks')
      ↔ (Allowed budget' table' marks' × (largest_count (from_seed seed budget table marks) ≤ budget') × ((from_seed seed budget table marks).used ≤ length table'))
  -- "always with the same .., whatever the memory held before"
  pub always_same : (seed budget budget' : ℕ) (table marks table' marks' : List ℕ) → Succeeds (from_seed seed budget table marks) → Succeeds (from_seed seed budget' table' marks') → Same (from_seed seed budget table marks) (from_seed seed budget' table' marks')
  -- "From any seed, a refusal for room stands at its block under any larger allowed budget"
  pub room_stands : (seed budget budget' block : ℕ) (table marks table' marks' : List ℕ) → budget ≤ budget' → Allowed budget' table' marks' → length table' ≡ length table
      → (from_seed seed budget table marks).says ≡ refuses 4 (block ∷ []) → (from_seed seed budget' table' marks').says ≡ refuses 4 (block ∷ [])
  -- "one for candidates stands at its block with any more room, the same for table and marks"
  pub spent_stands : (seed budget block : ℕ) (table marks table' marks' : List ℕ) → length table ≤ length table' → length table' ≡ length marks'
      → (from_seed seed budget table marks).says ≡ refuses 5 (block ∷ []) → (from_seed seed budget table' marks').says ≡ refuses 5 (block ∷ [])
