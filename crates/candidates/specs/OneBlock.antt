-- The search of one block. 01, "Candidates" and "Numbers handed back".
use Rattle.std.specs.Prelude.{ℕ, [], ◌∷◌, ltb, Option, Some, None}
use Rattle.refusal.specs.Paper.{Said, gives, refuses, refuse_if}
use Rattle.splitmix.specs.SplitMix.{candidate}
use Rattle.packing.specs.declared.Taken.{Taken}
use Rattle.packing.specs.Pack.{by_search}
use Rattle.blocks.specs.Real.{real}

-- 10: "budget above 16,777,216"
abbrev pub in_budget : {A : Type 0} → ℕ → Said A → Said A
in_budget budget x = refuse_if (ltb 16777216 budget) 10 x

-- a block's choice in the paper's terms. Where there is none the number stands, with the block: of `search_at` 5, "budget
-- spent, none passed"; of `lent_at` 6, "lent multiplier collides"
abbrev pub chosen_or : ℕ → ℕ → Option Taken → Said Taken
chosen_or number block (Some x) = gives x
chosen_or number block None = refuses number (block ∷ [])

-- "The one-block search takes kind, square, seed and budget and answers that candidate and count, or 1, 2, 10 or 5."
unfoldable pub search_of : ℕ → ℕ → ℕ → Said Taken
search_of block seed budget = in_budget budget (chosen_or 5 block (by_search real (candidate seed) budget block))
