-- `bitboard::bitxor` meets its contract, square by square.
use mathlib.Core.Path.{◌≡◌, refl, ◌∙◌}
use mathlib.Core.Bool.{Bool, true, false, not, xor, ◌&&◌, ◌||◌}
use lib.Bits.{bit_xor, xor_lt}
use Rattle.bits.specs.Set.{has}
use Rattle.bits.proofs.Sets.{has_xor, is_set_of}
use Rattle.bitboard.specs.Bitboard.{in_one}
use Rattle.bitboard.proofs.bitxor.Goals as goal

-- where two tests differ, one of them passes and the other does not
differing : (p q : Bool) → xor p q ≡ ((p && not q) || (q && not p))
unfolding xor
differing true true = refl
differing true false = refl
differing false true = refl
differing false false = refl

pub returns : goal.returns
unfolding in_one
returns c =
    let a = c.args.a in
    let b = c.args.b in
    is_set_of (bit_xor a b) _ (xor_lt 64 a b c.ranges.a.fits c.ranges.b.fits) (λ t l. has_xor a b t ∙ differing (has a t) (has b t))
