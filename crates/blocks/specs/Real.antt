-- The board's blocks, as the packing takes them. 01, "Candidates".
use Rattle.std.specs.Prelude.{ℕ, ◌*◌, ◌/◌, ◌%◌, ◌^◌, Bool, ltb}
use Rattle.bits.specs.Set.{count}
use Rattle.board.specs.Board.{rays, mask, attack}
use Rattle.board.specs.Blocks.{kind_of, square_of, size_of, shift_of, subset}
use Rattle.packing.specs.Pack.{Blocks}

-- "(candidate * subset) >> shift". "The product is taken modulo 2 to the 64."
unfoldable pub magic_index : ℕ → ℕ → ℕ → ℕ → ℕ
magic_index kind s m set = m * set % 2 ^ 64 / 2 ^ shift_of kind s

-- "It is skipped with fewer than 6 ones in the product of mask and candidate."
unfoldable pub skips : ℕ → ℕ → ℕ → Bool
skips kind s m = ltb (count (mask kind s * m % 2 ^ 64)) 6

abbrev pub real : Blocks
real =
    record {
      size = λ b. size_of (kind_of b) (square_of b);
      rays = λ b. rays (kind_of b) (square_of b);
      walk = λ b i. attack (kind_of b) (square_of b) (subset (kind_of b) (square_of b) i);
      index = λ b m i. magic_index (kind_of b) (square_of b) m (subset (kind_of b) (square_of b) i);
      skipped = λ b m. skips (kind_of b) (square_of b) m;
    }
