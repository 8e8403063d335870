-- Laws of block numbers.
-- Assumes nothing.
use Prim.Native.Nat.{ℕ, zero, suc, ◌+◌, ◌<◌}
use mathlib.Core.Path.{◌≡◌, refl, ap₂}
use native.Mathlib.Omega.{arith}
use borrow.Author.Tests.{le-ltb}
use mathlib.Core.Bool.{Bool}
use Rattle.refusal.specs.Paper.{Said, refuse_if}
use Rattle.board.specs.Board.{on_block}
use Rattle.board.specs.Blocks.{block_of, kind_of, square_of}

pub block_rook : (k s : ℕ) → k ≡ 0 → 64 + s ≡ block_of k s
unfolding block_of
block_rook zero s e = refl
block_rook (suc k) s e = absurd (omega arith)

pub block_bishop : (k s : ℕ) → (k ≡ 0 → ⊥) → s ≡ block_of k s
unfolding block_of
block_bishop zero s f = absurd (f refl)
block_bishop (suc k) s f = refl

-- a rook or a bishop on the board: nothing is refused
pub on_block_lem : {A : Type 0} (kind s : ℕ) (x : Said A) → kind < 2 → s < 64 → on_block kind s x ≡ x
on_block_lem kind s x h g = ap₂ (λ (c d : Bool). refuse_if c 1 (refuse_if d 2 x)) (le-ltb 1 kind (omega arith)) (le-ltb 63 s (omega arith))

pub kind_lt : (b : ℕ) → kind_of b < 2
unfolding kind_of
kind_lt b = omega arith

pub square_lt : (b : ℕ) → square_of b < 64
unfolding square_of
square_lt b = omega arith

pub block_lt : (k s : ℕ) → k < 2 → s < 64 → block_of k s < 128
unfolding block_of
block_lt zero s hk hs = omega arith
block_lt (suc k) s hk hs = omega arith

pub kind_block : (k s : ℕ) → k < 2 → s < 64 → kind_of (block_of k s) ≡ k
unfolding block_of kind_of
kind_block zero s hk hs = omega arith
kind_block (suc k) s hk hs = omega arith

pub square_block : (k s : ℕ) → s < 64 → square_of (block_of k s) ≡ s
unfolding block_of square_of
square_block zero s hs = omega arith
square_block (suc k) s hs = omega arith
