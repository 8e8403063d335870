-- `magic::slot_in` meets its contract.
use Prim.Native.Nat.{ℕ, ◌^◌, ◌<◌}
use mathlib.Core.Path.{sym, subst}
use native.Mathlib.Nat.{mod-lt}
use native.Mathlib.Omega.{arith}
use lib.Pow.{pow_pos}
use Rattle.bits.proofs.Digit.{shr_within}
use Rattle.magic.proofs.slot_in.Goals as goal

pub overflow_add-result : goal.overflow_add-result
overflow_add-result c = let m = c.wrapping_mul-product in
    let small = subst (λ (x : ℕ). x < 2 ^ 64) (sym m.ensures) (mod-lt _ (pow_pos 64)) in
    let h = shr_within 64 12 c.args.magic.shift m.result small (omega (arith, c.requires.0)) in
    omega (arith, h)
