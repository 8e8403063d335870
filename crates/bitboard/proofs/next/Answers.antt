-- `bitboard::next` meets its contract: the least square is where the trailing zeros end, and XOR takes it out.
use mathlib.Core.Path.{◌≡◌, sym, ap, ap₂, ◌∙◌}
use Prim.Native.Nat.{zero, ◌<◌}
use native.Mathlib.Omega.{arith}
use borrow.Author.Tests.{ne_eqb}
use lib.Count.{count_trailing_zeros}
use Rattle.bits.specs.Set.{has, least}
use Rattle.bits.proofs.Least.{least_trailing, trailing_lt, trailing_has}
use Rattle.bitboard.specs.Bitboard.{without}
use Rattle.std.specs.Prelude.{Some}
use Rattle.bitboard.proofs.Without.{xor_square}
use Rattle.bitboard.proofs.next.Goals as goal

-- the least square is one, and on the board
low : (c : goal.Else-squares-eq0) → count_trailing_zeros 64 c.args.squares < 64
low c = trailing_lt 64 c.args.squares c.ranges.squares.fits (omega (arith, c.if-squares-eq0.false))

pub returns : goal.returns
returns c =
    let a = c.args.squares in
    let h = c.ranges.squares.fits in
    let p : zero < a = omega (arith, c.if-squares-eq0.false) in
    let e : count_trailing_zeros 64 a ≡ least 64 (has a) = sym (least_trailing 64 a h p) in
    simp (ne_eqb _ _ c.if-squares-eq0.false)
    (ap₂ (λ s rest. Some (s, rest)) e (xor_square a (count_trailing_zeros 64 a) h (low c) (trailing_has 64 a h p) ∙ ap (without a) e))
