-- 01, "Packing": what each slot of a built table and of its marks holds: "each slot hit by a subset gets the walk ORed into the table
-- and the rays ORed into the marks", and nothing else is in any slot; with the used length and the blocks' ends. Over any blocks by
-- the packing's state, of the two builds by the records handed back.
use Rattle.std.specs.Prelude.{ℕ, ◌+◌, ◌^◌, ◌≤◌, ◌<◌, ◌≡◌, true, List, ◌↔◌, length}
use Rattle.bits.specs.Set.{has}
use Rattle.board.specs.Board.{rays, attack}
use Rattle.board.specs.Blocks.{kind_of, square_of, size_of, subset}
use Rattle.packing.specs.declared.Taken.{Taken}
use Rattle.packing.specs.Pack.{Blocks, State}
use Rattle.packing.specs.Promised.{slot_of, after, largest}
use Rattle.gen_magic.specs.declared.Record.{Record}
use Rattle.gen_magic.specs.Builds.{slots, Left, from_seed, from_lent, record_in}
use Rattle.magic.specs.LookUp.{slot_in}
use Rattle.promises.specs.Demands.{Succeeds}

-- ---- any blocks

-- a subset of one of blocks 0 to n - 1 lands in slot j, and its value has square t
pub record Lands (B : Blocks) (s : State) (value : ℕ → ℕ → ℕ) (n j t : ℕ) : Type 0 where
  pub block : ℕ
  pub subset : ℕ
  pub a_block : block < n
  pub a_subset : subset < B.size block
  pub there : slot_of B s block subset ≡ j
  pub has_it : has (value block subset) t ≡ true

pub record EachSlot (B : Blocks) (s : State) (n : ℕ) : Type 0 where
  -- "the walk ORed into the table"
  pub in_table : (j t : ℕ) → (has (s.table j) t ≡ true) ↔ Lands B s B.walk n j t
  -- "and the rays ORed into the marks"
  pub in_marks : (j t : ℕ) → (has (s.marks j) t ≡ true) ↔ Lands B s (λ b i. B.rays b) n j t
  -- "the final end": the largest of the blocks' ends
  pub end_is : s.end ≡ largest n (λ b. s.offset b + B.size b)

-- ---- by 128 records

-- a subset of a block is looked up in slot j by the block's record, and its value, by kind, square and blockers, has square t
pub record Landed (records : List Record) (value : ℕ → ℕ → ℕ → ℕ) (j t : ℕ) : Type 0 where
  pub block : ℕ
  pub number : ℕ
  pub a_block : block < 128
  pub a_subset : number < size_of (kind_of block) (square_of block)
  pub there : slot_in (record_in records block) (subset (kind_of block) (square_of block) number) ≡ j
  pub has_it : has (value (kind_of block) (square_of block) (subset (kind_of block) (square_of block) number)) t ≡ true

-- each slot holds what landed there, and nothing else
abbrev pub HoldsWhatLanded : List Record → (ℕ → ℕ → ℕ → ℕ) → (ℕ → ℕ) → Type 0
HoldsWhatLanded records value slots = (j t : ℕ) → (has (slots j) t ≡ true) ↔ Landed records value j t

-- the rays, whatever the blockers
abbrev pub rays_of : ℕ → ℕ → ℕ → ℕ
rays_of kind sq blockers = rays kind sq

-- a block's end: "offset + size"
abbrev pub end_in : Left → ℕ → ℕ
end_in left block = (record_in left.records block).offset + size_of (kind_of block) (square_of block)

-- ---- what a success leaves in loans of `len` slots

pub record Leaves (left : Left) (len : ℕ) : Type 0 where
  pub table_length : length left.table ≡ len
  pub marks_length : length left.marks ≡ len
  -- "each slot hit by a subset gets the walk ORed into the table and the rays ORed into the marks": and nothing else is in any slot
  pub in_table : HoldsWhatLanded left.records attack (slots left.table)
  pub in_marks : HoldsWhatLanded left.records rays_of (slots left.marks)
  -- "the final end is the used length, at most 107,648": the largest of the blocks' ends; "offset (32 bits)"
  pub used_is : left.used ≡ largest 128 (end_in left)
  pub inside : (block : ℕ) → block < 128 → end_in left block ≤ left.used
  pub used_fits : left.used ≤ len
  pub used_most : left.used ≤ 107648
  pub offsets : (block : ℕ) → block < 128 → (record_in left.records block).offset < 2 ^ 32

pub record Slots : Type 0 where
  -- blocks 0 to n - 1, each at its first free place, whatever is taken for it
  pub any_blocks : (B : Blocks) (taken : ℕ → Taken) (n : ℕ) → EachSlot B (after B taken n) n
  -- a build from a seed
  pub of_seed : (seed budget : ℕ) (table marks : List ℕ) → Succeeds (from_seed seed budget table marks) → Leaves (from_seed seed budget table marks) (length table)
  -- a build from lent multipliers
  pub of_lent : (multipliers table marks : List ℕ) → Succeeds (from_lent multipliers table marks) → Leaves (from_lent multipliers table marks) (length table)
