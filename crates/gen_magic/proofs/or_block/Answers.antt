-- `gen_magic::or_block` meets its contract: after i turns the first i subsets are ORed in.
use Prim.Native.Nat.{ℕ, ◌*◌, ◌/◌, ◌%◌, ◌^◌}
use mathlib.Core.Path.{◌≡◌, refl, ap, ap₂, ◌∙◌}
use native.Mathlib.Omega.{arith}
use Rattle.board.specs.Board.{attack}
use Rattle.board.specs.Blocks.{kind_of, square_of, shift_of, subset}
use Rattle.packing.specs.Pack.{or_into}
use Rattle.blocks.specs.Real.{real, magic_index}
use Rattle.blocks.proofs.Real.{index_lt}
use Rattle.gen_magic.proofs.Loans.{ored_more}
use Rattle.gen_magic.proofs.or_block.Goals as goal

pub loop-i-init : goal.loop-i-init
unfolding or_into
loop-i-init c = record { table_is = refl; marks_is = refl }

-- the slot of the subset, and that it is in the block
slot_is : (b m i question product shift at : ℕ) → question ≡ subset (kind_of b) (square_of b) i → product ≡ m * question % 2 ^ 64 → shift ≡ shift_of (kind_of b) (square_of b) → at ≡ product / 2 ^ shift → at ≡ real.index b m i
unfolding magic_index
slot_is b m i question product shift at eq ep es ea = ea ∙ ap₂ (λ (x y : ℕ). x / 2 ^ y) (ep ∙ ap (λ (q : ℕ). m * q % 2 ^ 64) eq) es

pub prove-unreachable-requires-in-loop-i : goal.prove-unreachable-requires-in-loop-i
prove-unreachable-requires-in-loop-i c =
    let e = slot_is c.args.block c.args.multiplier c.loop-i.i _ _ _ _ c.subset_at-question.ensures c.mul.ensures c.shift_at-shift.ensures c.to_size-at.ensures in
    omega (arith, e, c.size_at-size.ensures, index_lt c.args.block c.args.multiplier (subset (kind_of c.args.block) (square_of c.args.block) c.loop-i.i))

pub loop-i-preserved : goal.loop-i-preserved
loop-i-preserved c =
    let l = c.loop-i in
    let s = c.args in
    let e = slot_is s.block s.multiplier l.i _ _ _ _ c.subset_at-question.ensures c.mul.ensures c.shift_at-shift.ensures c.to_size-at.ensures in
    let walked = c.walk_at-walk.ensures ∙ ap (attack (kind_of s.block) (square_of s.block)) c.subset_at-question.ensures in
    record {
      table_is = ored_more (real.index s.block s.multiplier) (real.walk s.block) l.i c.to_size-at.result c.walk_at-walk.result l.table s.table.now l.invariant.table_is e walked (omega arith);
      marks_is = ored_more (real.index s.block s.multiplier) (λ _. real.rays s.block) l.i c.to_size-at.result c.rays_at-rays.result l.marks s.marks.now l.invariant.marks_is e c.rays_at-rays.ensures (omega arith);
    }
