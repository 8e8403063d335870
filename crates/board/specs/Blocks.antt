-- Blocks: a kind and a square. 01, "The board".
use Rattle.std.specs.Prelude.{ℕ, zero, suc, ◌+◌, ◌-◌, ◌/◌, ◌%◌, ◌^◌, ◌&&◌, ◌||◌}
use Rattle.bits.specs.Set.{pick, has, set_of, count_below, count}
use Rattle.square.specs.Square.{rank_of, file_of}
use Rattle.board.specs.Board.{outer, in_mask, mask}

-- "Block number: bishop on s is s, rook on s is 64 + s." The numbers go on past 127, as before, so that each has a block
unfoldable pub block_of : ℕ → ℕ → ℕ
block_of zero s = 64 + s
block_of (suc kind) s = s

unfoldable pub kind_of : ℕ → ℕ
kind_of block = 1 - block / 64 % 2

unfoldable pub square_of : ℕ → ℕ
square_of block = block % 64

-- "Mask bits: rook 12 in a corner, 11 elsewhere on an edge, 10 inside"
abbrev pub rook_bits : ℕ → ℕ
rook_bits s = pick (outer (rank_of s) && outer (file_of s)) 12 (pick (outer (rank_of s) || outer (file_of s)) 11 10)

-- "A block has 2^bits slots; its shift is 64 - bits"
unfoldable pub bits_of : ℕ → ℕ → ℕ
unfolding count mask
bits_of kind s = count (mask kind s)

unfoldable pub size_of : ℕ → ℕ → ℕ
unfolding bits_of
size_of kind s = 2 ^ bits_of kind s

unfoldable pub shift_of : ℕ → ℕ → ℕ
unfolding bits_of
shift_of kind s = 64 - bits_of kind s

-- "Subset i sets the j-th smallest mask square when bit j of i is set (j counted from 0)." A mask square t is the j-th
-- smallest where j mask squares are below t
unfoldable pub subset : ℕ → ℕ → ℕ → ℕ
unfolding set_of in_mask has count_below mask
subset kind s i = set_of (λ t. in_mask kind s t && has i (count_below (mask kind s) t))
