-- `bitboard::not` meets its contract, square by square.
use Prim.Native.Nat.{◌-◌, ◌^◌}
use lib.Pow.{ones_sub-lt}
use Rattle.bits.proofs.Sets.{is_set_of}
use Rattle.bits.proofs.Complement.{has_not}
use Rattle.bitboard.specs.Bitboard.{in_none}
use Rattle.bitboard.proofs.not.Goals as goal

pub returns : goal.returns
unfolding in_none
returns c =
    let a = c.args.a in
    is_set_of ((2 ^ 64 - 1) - a) _ (ones_sub-lt 64 a) (λ t l. has_not 64 a t c.ranges.a.fits l)
