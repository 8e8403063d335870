-- 01, "Candidates": "The one-block search takes kind, square, seed and budget and answers that candidate and count, or 1, 2, 10 or 5."
-- What it says for a rook or a bishop on the board; 1 and 2 are in `Demand1`.
use Rattle.std.specs.Prelude.{ℕ, ◌*◌, ◌/◌, ◌%◌, ◌^◌, ◌≤◌, ◌<◌, ◌≡◌, true, [], ◌∷◌, ◌⊎◌, ◌↔◌}
use Rattle.refusal.specs.Paper.{Said, gives, refuses}
use Rattle.bits.specs.Set.{count}
use Rattle.board.specs.Board.{mask, attack, on_block}
use Rattle.board.specs.Blocks.{block_of, kind_of, square_of, size_of, shift_of, subset}
use Rattle.splitmix.specs.SplitMix.{candidate}
use Rattle.packing.specs.declared.Taken.{Taken}
use Rattle.packing.specs.Pack.{clean, passes}
use Rattle.packing.specs.Promised.{First, NonePasses, counted}
use Rattle.blocks.specs.Real.{real}
use Rattle.candidates.specs.OneBlock.{search_of}

-- what the public function is proved to say
abbrev pub found : ℕ → ℕ → ℕ → ℕ → Said Taken
found kind sq seed budget = on_block kind sq (search_of (block_of kind sq) seed budget)

-- where a multiplier sends subset i of a block, and the subset's walk
abbrev pub slot_by : ℕ → ℕ → ℕ → ℕ
slot_by b m i = m * subset (kind_of b) (square_of b) i % 2 ^ 64 / 2 ^ shift_of (kind_of b) (square_of b)

abbrev pub walk_by : ℕ → ℕ → ℕ
walk_by b i = attack (kind_of b) (square_of b) (subset (kind_of b) (square_of b) i)

-- no two subsets "reach one trial slot, .., with different walks"
abbrev pub NoCollision : ℕ → ℕ → Type 0
NoCollision b m = (i j : ℕ) → i < size_of (kind_of b) (square_of b) → j < size_of (kind_of b) (square_of b) → slot_by b m i ≡ slot_by b m j → walk_by b i ≡ walk_by b j

pub record Candidates : Type 0 where
  -- "A candidate passes when it isn't skipped and has no destructive collision. It is skipped with fewer than 6 ones in the
  -- product of mask and candidate. The product is taken modulo 2 to the 64."
  pub passes_exactly : (b m : ℕ) → (passes real b m ≡ true) ↔ ((6 ≤ count (mask (kind_of b) (square_of b) * m % 2 ^ 64)) × NoCollision b m)
  -- of a lent multiplier: "testing collisions only"
  pub clean_exactly : (b m : ℕ) → (clean real b m ≡ true) ↔ NoCollision b m

pub record Searches (kind sq seed budget : ℕ) : Type 0 where
  -- 10: "budget above 16,777,216"
  pub refuses_10 : (found kind sq seed budget ≡ refuses 10 []) ↔ (16777216 < budget)
  -- "that candidate and count": the first passing one within the budget, and its position from 1
  pub finds : budget ≤ 16777216 → (p : ℕ) → (found kind sq seed budget ≡ gives (counted (candidate seed) p)) ↔ First real (candidate seed) budget (block_of kind sq) p
  -- 5: "budget spent, none passed", with the block
  pub refuses_5 : budget ≤ 16777216 → (found kind sq seed budget ≡ refuses 5 (block_of kind sq ∷ [])) ↔ NonePasses real (candidate seed) budget (block_of kind sq)
  -- "No other refusal exists."
  pub nothing_else : budget ≤ 16777216 → ((p : ℕ) × (found kind sq seed budget ≡ gives (counted (candidate seed) p))) ⊎ (found kind sq seed budget ≡ refuses 5 (block_of kind sq ∷ []))
