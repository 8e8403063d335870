-- What is promised of a build: the words of demands 2 and 3, over any blocks.
use Rattle.std.specs.Prelude.{ℕ, zero, suc, ◌+◌, ◌≤◌, ◌<◌, max, ◌≡◌, true, false}
use Rattle.std.specs.Int.Bits.{bit_and}
use Rattle.bits.specs.Shown.{sum}
use Rattle.packing.specs.declared.Taken.{Taken}
use Rattle.packing.specs.Pack.{Blocks, clean, passes, State, start, place, next}

-- what the theorems on look-ups ask of the blocks: an index is below the size, a walk lies in the rays
pub record Laws (B : Blocks) : Type 0 where
  pub index_lt : (b m i : ℕ) → b < 128 → i < B.size b → B.index b m i < B.size b
  pub walk_in : (b i : ℕ) → b < 128 → i < B.size b → bit_and (B.walk b i) (B.rays b) ≡ B.walk b i

-- ---- a finished set

-- the slot that block b's record gives subset i
abbrev pub slot_of : Blocks → State → ℕ → ℕ → ℕ
slot_of B s b i = s.offset b + B.index b (s.taken b).multiplier i

-- what a set of 128 blocks built in `len` slots has
pub record Right (B : Blocks) (len : ℕ) (s : State) : Type 0 where
  -- "look-up in a built magic table": the slot, "ANDed with the rays", is the walk
  pub reads : (b i : ℕ) → b < 128 → i < B.size b → bit_and (s.table (slot_of B s b i)) (B.rays b) ≡ B.walk b i
  -- each block lies below the end; "the final end is the used length", at most all sizes together, and fits
  pub inside : (b : ℕ) → b < 128 → s.offset b + B.size b ≤ s.end
  pub used : s.end ≤ sum 128 B.size
  pub fits : s.end ≤ len
  -- "used slots, and zeros after them"
  pub table_after : (j : ℕ) → s.end ≤ j → s.table j ≡ 0
  pub marks_after : (j : ℕ) → s.end ≤ j → s.marks j ≡ 0

-- ---- places

-- the marks at i up to i + size - 1 share no bit with the rays
abbrev pub Apart : ℕ → ℕ → (ℕ → ℕ) → ℕ → Type 0
Apart size rays marks i = (j : ℕ) → j < size → bit_and (marks (i + j)) rays ≡ 0

-- p is the place, told without a search: "the smallest i below the end such that the marks at i up to i + size - 1 share
-- no bit with its rays; if none, the end"
pub record Placed (size rays : ℕ) (marks : ℕ → ℕ) (end p : ℕ) : Type 0 where
  pub most : p ≤ end
  pub apart : p < end → Apart size rays marks p
  pub none_before : (i : ℕ) → i < p → Apart size rays marks i → ⊥

-- block b "fits at its first free place" after s: `place` is `Placed`, and no other number is (proofs/Places.antt)
abbrev pub Room : Blocks → ℕ → ℕ → State → Type 0
Room B len b s = place B b s + B.size b ≤ len

-- "If place + size exceeds the table, no room."
abbrev pub Full : Blocks → ℕ → ℕ → State → Type 0
Full B len b s = len < place B b s + B.size b

-- ---- success and refusal, told without a run

-- the state after blocks 0 to n - 1, each at its first free place with what was taken for it
unfoldable pub after : Blocks → (ℕ → Taken) → ℕ → State
after B taken zero = start
after B taken (suc n) = next B n (after B taken n) (taken n)

-- each of them fits there
abbrev pub Fits : Blocks → ℕ → (ℕ → Taken) → ℕ → Type 0
Fits B len taken n = (b : ℕ) → b < n → Room B len b (after B taken b)

-- the candidate at p, from 0, is within the budget, passes, and none before it does
pub record First (B : Blocks) (candidate : ℕ → ℕ) (budget b p : ℕ) : Type 0 where
  pub within : p < budget
  pub passing : passes B b (candidate p) ≡ true
  pub none_before : (i : ℕ) → i < p → passes B b (candidate i) ≡ false

-- "budget spent, none passed"
abbrev pub NonePasses : Blocks → (ℕ → ℕ) → ℕ → ℕ → Type 0
NonePasses B candidate budget b = (i : ℕ) → i < budget → passes B b (candidate i) ≡ false

-- the candidate at p, with its position from 1
abbrev pub counted : (ℕ → ℕ) → ℕ → Taken
counted candidate p = record { multiplier = candidate p; count = suc p }

-- what each block takes, by the position of its candidate
abbrev pub taken_by : (ℕ → ℕ) → (ℕ → ℕ) → ℕ → Taken
taken_by candidate position b = counted candidate (position b)

-- "each block, in the fixed order, fits at its first free place and has a passing candidate within the budget; it takes
-- the first": so for blocks 0 to n - 1
pub record EachFirst (B : Blocks) (candidate : ℕ → ℕ) (budget len : ℕ) (position : ℕ → ℕ) (n : ℕ) : Type 0 where
  pub fits : Fits B len (taken_by candidate position) n
  pub first : (b : ℕ) → b < n → First B candidate budget b (position b)

-- a lent multiplier: "Its attempt counts are 0."
abbrev pub lent_at : (ℕ → ℕ) → ℕ → Taken
lent_at lent b = record { multiplier = lent b; count = 0 }

-- the lent multipliers of blocks 0 to n - 1 have no destructive collision, and each block fits
pub record EachClean (B : Blocks) (lent : ℕ → ℕ) (len n : ℕ) : Type 0 where
  pub fits : Fits B len (lent_at lent) n
  pub no_collision : (b : ℕ) → b < n → clean B b (lent b) ≡ true

-- ---- demand 3

-- the largest of f 0, f 1, .. f (n - 1)
unfoldable pub largest : ℕ → (ℕ → ℕ) → ℕ
largest zero f = zero
largest (suc n) f = max (largest n f) (f n)

-- "note its largest attempt count"
abbrev pub most_attempts : State → ℕ
most_attempts s = largest 128 (λ b. (s.taken b).count)
