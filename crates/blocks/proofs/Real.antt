-- The board's blocks have what the packing needs of them.
-- Assumes nothing.
use Prim.Native.Nat.{ℕ, ◌-◌, ◌*◌, ◌/◌, ◌%◌, ◌^◌, ◌<◌}
use mathlib.Core.Path.{◌≡◌, refl}
use native.Mathlib.Nat.{mod-lt}
use native.Mathlib.Omega.{arith}
use lib.Pow.{pow_pos}
use Rattle.bits.specs.Shown.{sum}
use Rattle.bits.proofs.Digit.{shr_within}
use Rattle.board.specs.Blocks.{kind_of, square_of, bits_of, size_of, shift_of}
use Rattle.board.proofs.Blocks.{kind_lt, square_lt}
use Rattle.board.proofs.Attack.{attack_rays, attack_some}
use Rattle.packing.specs.Promised.{Laws}
use Rattle.blocks.specs.Real.{magic_index, real}

-- the top bits of a product are below 2 ^ bits
pub index_lt : (b m set : ℕ) → magic_index (kind_of b) (square_of b) m set < size_of (kind_of b) (square_of b)
unfolding magic_index size_of shift_of
index_lt b m set = top (bits_of (kind_of b) (square_of b))
  where
    top : (n : ℕ) → m * set % 2 ^ 64 / 2 ^ (64 - n) < 2 ^ n
    top n = shr_within 64 n (64 - n) (m * set % 2 ^ 64) (mod-lt (m * set) (pow_pos 64)) (omega arith)

pub walk_some : (b i : ℕ) → real.walk b i ≡ 0 → ⊥
walk_some b i = attack_some (kind_of b) (square_of b) (kind_lt b) (square_lt b) _

pub laws : Laws real
laws =
    record {
      index_lt = λ b m i _ _. index_lt b m _;
      walk_in = λ b i _ _. attack_rays (kind_of b) (square_of b) (kind_lt b) (square_lt b) _;
    }

-- "All blocks together: .. 107,648."
pub all_sizes : sum 128 real.size ≡ 107648
unfolding sum size_of kind_of square_of
all_sizes = refl

-- bishop A1's 6 mask squares
pub first_size : real.size 0 ≡ 64
unfolding size_of kind_of square_of
first_size = refl
