-- Mask bits, sizes, shifts and slots: computed over the board.
-- Assumes nothing.
use Prim.Native.Nat.{ℕ, ◌-◌, ◌+◌, ◌≤◌, ◌<◌}
use mathlib.Core.Path.{◌≡◌, refl}
use mathlib.Core.Bool.{◌&&◌}
use native.Mathlib.Omega.{arith}
use lib.Dec.{T, leb, leb→le, eqb, eqb→eq}
use lib.Pow.{pow_mono}
use Rattle.bits.specs.Set.{every}
use Rattle.bits.specs.Shown.{sum}
use Rattle.bits.proofs.Every.{both_l, both_r, every_at}
use Rattle.board.specs.Board.{outer}
use Rattle.board.specs.Blocks.{kind_of, square_of, bits_of, rook_bits, size_of, shift_of}
use Rattle.board.proofs.Blocks.{kind_lt, square_lt}

rook_test : T (every 64 (λ s. eqb (bits_of 0 s) (rook_bits s)))
unfolding every bits_of outer
rook_test = tt

pub rook_bits_lem : (s : ℕ) → s < 64 → bits_of 0 s ≡ rook_bits s
rook_bits_lem s h = eqb→eq (bits_of 0 s) (rook_bits s) (every_at 64 (λ s. eqb (bits_of 0 s) (rook_bits s)) rook_test s h)

-- "bishop 5 to 9"
bishop_test : T (every 64 (λ s. leb 5 (bits_of 1 s) && leb (bits_of 1 s) 9))
unfolding every bits_of
bishop_test = tt

pub bishop_bits : (s : ℕ) → s < 64 → (5 ≤ bits_of 1 s) × (bits_of 1 s ≤ 9)
bishop_bits s h =
    let t : T (leb 5 (bits_of 1 s) && leb (bits_of 1 s) 9) = every_at 64 (λ s. leb 5 (bits_of 1 s) && leb (bits_of 1 s) 9) bishop_test s h in
    (leb→le 5 (bits_of 1 s) (both_l (leb 5 (bits_of 1 s)) (leb (bits_of 1 s) 9) t), leb→le (bits_of 1 s) 9 (both_r (leb 5 (bits_of 1 s)) (leb (bits_of 1 s) 9) t))

range_test : T (every 2 (λ k. every 64 (λ s. leb 5 (bits_of k s) && leb (bits_of k s) 12)))
unfolding every bits_of
range_test = tt

module _ (k s : ℕ) (hk : k < 2) (hs : s < 64) where
  in_range : T (leb 5 (bits_of k s) && leb (bits_of k s) 12)
  in_range = every_at 64 _ (every_at 2 _ range_test k hk) s hs

  pub bits_low : 5 ≤ bits_of k s
  bits_low = leb→le 5 (bits_of k s) (both_l (leb 5 (bits_of k s)) (leb (bits_of k s) 12) in_range)

  pub bits_high : bits_of k s ≤ 12
  bits_high = leb→le (bits_of k s) 12 (both_r (leb 5 (bits_of k s)) (leb (bits_of k s) 12) in_range)

  -- "its shift is 64 - bits, so 52 to 59"
  pub shift_low : 52 ≤ shift_of k s
  unfolding shift_of
  shift_low = least (bits_of k s) bits_high
    where
      least : (n : ℕ) → n ≤ 12 → 52 ≤ 64 - n
      least n h = omega arith

  pub shift_high : shift_of k s ≤ 59
  unfolding shift_of
  shift_high = most (bits_of k s) bits_low
    where
      most : (n : ℕ) → 5 ≤ n → 64 - n ≤ 59
      most n h = omega arith

  pub size_high : size_of k s ≤ 4096
  unfolding size_of
  size_high = pow_mono bits_high

  pub size_low : 32 ≤ size_of k s
  unfolding size_of
  size_low = pow_mono bits_low

-- no block has more than 4,096 subsets
pub block_size_high : (b : ℕ) → size_of (kind_of b) (square_of b) ≤ 4096
block_size_high b = size_high (kind_of b) (square_of b) (kind_lt b) (square_lt b)

-- "All blocks together: 102,400 rook and 5,248 bishop slots, 107,648."
pub rook_slots : sum 64 (size_of 0) ≡ 102400
unfolding sum size_of
rook_slots = refl

pub bishop_slots : sum 64 (size_of 1) ≡ 5248
unfolding sum size_of
bishop_slots = refl

pub all_slots : sum 64 (size_of 0) + sum 64 (size_of 1) ≡ 107648
all_slots = omega (arith, rook_slots, bishop_slots)
