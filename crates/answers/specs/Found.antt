-- A search that finds and lent multipliers of both sorts, so that what is promised of them is not empty: bishop B1, whose first
-- candidate from seed 42 passes.
use Rattle.std.specs.Prelude.{ℕ, ◌≤◌, ◌<◌, ◌≡◌, Some, None}
use Rattle.refusal.specs.Paper.{gives}
use Rattle.board.specs.Board.{on_block}
use Rattle.board.specs.Blocks.{block_of}
use Rattle.packing.specs.Pack.{by_lent}
use Rattle.blocks.specs.Real.{real}
use Rattle.candidates.specs.OneBlock.{search_of}

pub record Found : Type 0 where
  -- search, slider_search
  pub searched : (budget : ℕ) → 0 < budget → budget ≤ 16777216 → on_block 1 1 (search_of (block_of 1 1) 42 budget) ≡ gives (record { multiplier = 0x42220202020000; count = 1 })
  -- lent_at: a multiplier that sends each subset to a slot of its own, one with which subsets of the same walk share 15 slots,
  -- and one that sends every subset to slot 0
  pub lent : by_lent real (λ b. 0x42220202020000) 1 ≡ Some (record { multiplier = 0x42220202020000; count = 0 })
  pub lent_shares : by_lent real (λ b. 0x204951e85bfe00) 1 ≡ Some (record { multiplier = 0x204951e85bfe00; count = 0 })
  pub lent_collides : by_lent real (λ b. 0) 1 ≡ None
