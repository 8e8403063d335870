-- `bitboard::to_square` meets its contract: the least square is where the trailing zeros end.
use mathlib.Core.Path.{sym, ap}
use Prim.Native.Nat.{zero, ◌<◌}
use native.Mathlib.Omega.{arith}
use borrow.Author.Tests.{ne_eqb}
use Rattle.bits.proofs.Least.{least_trailing}
use Rattle.refusal.specs.Paper.{gives}
use Rattle.bitboard.proofs.to_square.Goals as goal

-- the set has a square
some : (c : goal.Else-set-eq0) → zero < c.args.set
some c = omega (arith, c.if-set-eq0.false)

pub returns : goal.returns
returns c =
    simp (ne_eqb _ _ c.if-set-eq0.false)
    (ap gives (sym (least_trailing 64 c.args.set c.ranges.set.fits (some c))))
