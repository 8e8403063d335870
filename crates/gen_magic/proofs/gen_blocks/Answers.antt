-- `gen_magic::gen_blocks` meets its contract: before each turn the code's values stand for the run's state.
use Prim.Native.Nat.{ℕ}
use mathlib.Core.Path.{sym, ap₂, ◌∙◌}
use native.Mathlib.Nat.{le_trans, le-add_right}
use native.Mathlib.Omega.{arith}
use lib.ListN.{replicate}
use Rattle.std.proofs.lemmas.Result.{err_from_is_err_and}
use Rattle.std.proofs.Common.{rules}
use Rattle.refusal.specs.declared.Refusal.{Refusal}
use Rattle.refusal.specs.Paper.{number_of, values_of}
use Rattle.blocks.specs.Real.{real}
use Rattle.gen_magic.specs.Builds.{empty}
use Rattle.gen_magic.proofs.Turns.{goes, stops}
use Rattle.gen_magic.proofs.Sofar.{sofar_none, end_in, end_small, ended_refused, ended_done}
use Rattle.gen_magic.proofs.Placing.{sofar_more}
use Rattle.gen_magic.proofs.gen_blocks.Goals as goal

pub loop-block-init : goal.loop-block-init
loop-block-init c = sofar_none c.requires.1 c.requires.2

pub settle-requires : goal.settle-requires
settle-requires c =
    let l = c.loop-block in
    (le_trans (le-add_right l.end (real.size l.block)) (end_small l.invariant c.loop-block-test.true), end_in l.invariant)

pub record_of-requires : goal.record_of-requires
record_of-requires c = omega (arith, c.in_ok-place.ensures.fits.1, end_small c.loop-block.invariant c.loop-block-test.true)

pub loop-block-preserved : goal.loop-block-preserved
loop-block-preserved c =
    let l = c.loop-block in
    let w = c.write in
    let t = c.in_ok-place.field-0 in
    sofar_more l.invariant c.loop-block-test.true t (goes _ _ _ _ t c.in_ok-place.ensures.is) w.new.table w.new.marks c.record_of.result c.max-end.result w.ensures.table_after w.ensures.marks_after c.record_of.ensures (search (rules, c.max-end.ensures, c.size_at.ensures)) w.auto.table w.auto.marks

pub returns-in_err-place : goal.returns-in_err-place
returns-in_err-place c =
    let l = c.loop-block in
    let r : Refusal = c.in_err-place.field-0.0 in
    let p = err_from_is_err_and c.from_residual.result c.from_residual.ensures.1 in
    rw (p.1, p.2)
    (ap₂ (λ (m n : ℕ). empty (number_of r) (values_of r) (replicate m 0) (replicate n 0)) l.invariant.table_long l.invariant.marks_long
    ∙ sym (ended_refused l.invariant c.loop-block-test.true r (stops _ _ _ _ r c.in_err-place.ensures.is)))

pub returns : goal.returns
returns c = ended_done (omega arith) c.loop-block.invariant
