-- `magic_helpers::size_at` meets its contract: at most 12 bits.
use Prim.Native.Nat.{ℕ, ◌^◌, ◌≤◌}
use mathlib.Core.Path.{ap, ◌∙◌}
use native.Mathlib.Omega.{arith}
use Rattle.board.specs.Blocks.{kind_of, square_of, size_of}
use Rattle.board.proofs.Blocks.{kind_lt, square_lt}
use Rattle.board.proofs.Sizes.{bits_high}
use Rattle.bits.proofs.Digit.{shl_one}
use Rattle.magic_helpers.proofs.size_at.Goals as goal

-- at most 12 bits
high : (c : goal.After-bits_at) → c.bits_at.result ≤ 12
high c =
    let b = c.args.block in
    omega (arith, c.bits_at.ensures, bits_high (kind_of b) (square_of b) (kind_lt b) (square_lt b))

pub returns : goal.returns
unfolding size_of
returns c = shl_one c.bits_at.result (omega (arith, high c)) ∙ ap (λ (n : ℕ). 2 ^ n) c.bits_at.ensures
