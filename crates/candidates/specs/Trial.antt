-- What the private types of a trial hold. No public statement rests on this file.
use Rattle.std.specs.Prelude.{ℕ, ◌≤◌, ◌<◌, ◌≡◌, List, length, get_or}
use Rattle.bits.specs.Shown.{shown}
use Rattle.board.specs.Blocks.{kind_of, square_of, subset}
use Rattle.blocks.specs.Real.{real}
use Rattle.candidates.specs.declared.Pair.{Pair}

-- the subsets of a block, each with its walk
abbrev pub pair_of : ℕ → ℕ → Pair
pair_of b i = record { question = subset (kind_of b) (square_of b) i; answer = real.walk b i }

unfoldable pub pairs_of : ℕ → List Pair
pairs_of b = shown (real.size b) (pair_of b)

-- 4,096 trial slots, all free but those of i up to n - 1
pub record Rest (slot : ℕ → ℕ) (i n : ℕ) (slots : List ℕ) : Type 0 where
  pub long : length slots ≡ 4096
  pub free : (j : ℕ) → ((k : ℕ) → i ≤ k → k < n → slot k ≡ j → ⊥) → get_or slots j 0 ≡ 0
