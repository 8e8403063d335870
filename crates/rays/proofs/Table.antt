-- The listed rays are the rays: computed over the 128 blocks.
-- Assumes nothing.
use Prim.Native.Nat.{ℕ, ◌-◌, ◌/◌, ◌%◌}
use mathlib.Core.Path.{◌≡◌, ap₂, ◌∙◌}
use native.Mathlib.Omega.{arith}
use lib.Dec.{T}
use lib.ListN.{get_or}
use Rattle.bits.proofs.Listing.{lists, listing}
use Rattle.board.specs.Board.{rays}
use Rattle.board.specs.Blocks.{kind_of, square_of}
use Rattle.tables.specs.Rays.{rays as listed}

test : T (lists 0 (λ b. rays (kind_of b) (square_of b)) listed)
unfolding lists rays kind_of square_of
test = tt

-- numbers past 127 go round
again : (b : ℕ) → rays (kind_of (b % 128)) (square_of (b % 128)) ≡ rays (kind_of b) (square_of b)
unfolding kind_of square_of
again b = ap₂ rays (kind b) (square b)
  where
    kind : (b : ℕ) → 1 - b % 128 / 64 % 2 ≡ 1 - b / 64 % 2
    kind b = omega arith

    square : (b : ℕ) → b % 128 % 64 ≡ b % 64
    square b = omega arith

pub listed_rays : (b : ℕ) → get_or listed (b % 128) 0 ≡ rays (kind_of b) (square_of b)
listed_rays b = listing listed (λ b. rays (kind_of b) (square_of b)) test (b % 128) (omega arith) ∙ again b
