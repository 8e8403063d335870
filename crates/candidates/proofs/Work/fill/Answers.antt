-- `candidates::Work::fill` meets its contract: before turn n the first n walks are in.
use Rattle.std.proofs.Common.{sym, ◌∙◌, length, arith}
use borrow.Author.Tests.{ne_eqb}
use Rattle.packing.specs.Pack.{clean}
use Rattle.blocks.specs.Real.{real}
use Rattle.blocks.proofs.Real.{walk_some}
use Rattle.candidates.proofs.Block.{pair_is, pairs_many, slot_of_pair, walk_of_pair}
use Rattle.candidates.proofs.Trials.{filled_none, went_in, turn_clashes}
use Rattle.candidates.proofs.Work.fill.Goals as goal

pub loop-n-init : goal.loop-n-init
loop-n-init c = filled_none _ _ _ c.requires

pub loop-n-preserved : goal.loop-n-preserved
loop-n-preserved c =
    let w = c.args.self.now in
    let l = c.loop-n in
    let pair = pair_is w.block w.pairs.now w.pairs_are l.n _ c.loop-n-test.true in
    went_in (real.index w.block c.args.multiplier) (real.walk w.block) l.n c.slot-at.result _ c.enter.result l.slots c.enter.new.slots
    (slot_of_pair w.block l.n _ pair c.args.multiplier c.slot-at.result c.slot-at.ensures.value) (walk_of_pair w.block l.n _ pair) c.enter.ensures.value c.enter.ensures.slots_after l.invariant c.if-not-enter.false
    c.slot-at.ensures.in_range (λ i h. walk_some w.block i)

pub returns-then-not-enter-clause-agrees : goal.returns-then-not-enter-clause-agrees
unfolding clean
returns-then-not-enter-clause-agrees c =
    let w = c.args.self.now in
    let l = c.loop-n in
    let pair = pair_is w.block w.pairs.now w.pairs_are l.n _ c.loop-n-test.true in
    let clashes =
    turn_clashes (real.index w.block c.args.multiplier) (real.walk w.block) l.n c.slot-at.result _ c.enter.result l.slots c.enter.new.slots
    (slot_of_pair w.block l.n _ pair c.args.multiplier c.slot-at.result c.slot-at.ensures.value) (walk_of_pair w.block l.n _ pair) c.enter.ensures.value c.enter.ensures.slots_after l.invariant c.if-not-enter.true (real.size w.block)
    (omega (arith, c.loop-n-test.true, pairs_many w.block w.pairs.now w.pairs_are)) in
    ne_eqb l.n (length w.pairs.now) (λ e. omega (arith, e)) ∙ sym clashes
