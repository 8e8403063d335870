-- `bitboard::bitand` meets its contract, square by square.
use lib.Bits.{bit_and, and_lt}
use Rattle.bits.proofs.Sets.{has_and, is_set_of}
use Rattle.bitboard.specs.Bitboard.{in_both}
use Rattle.bitboard.proofs.bitand.Goals as goal

pub returns : goal.returns
unfolding in_both
returns c =
    let a = c.args.a in
    let b = c.args.b in
    is_set_of (bit_and a b) _ (and_lt 64 a b c.ranges.a.fits c.ranges.b.fits) (λ t l. has_and a b t)
