-- `bitboard::bitor` meets its contract, square by square.
use lib.Bits.{bit_or, or_lt}
use Rattle.bits.proofs.Sets.{has_or, is_set_of}
use Rattle.bitboard.specs.Bitboard.{in_either}
use Rattle.bitboard.proofs.bitor.Goals as goal

pub returns : goal.returns
unfolding in_either
returns c =
    let a = c.args.a in
    let b = c.args.b in
    is_set_of (bit_or a b) _ (or_lt 64 a b c.ranges.a.fits c.ranges.b.fits) (λ t l. has_or a b t)
