-- `candidates::Work::wipe` meets its contract: before each turn only slots of later questions may hold a walk.
use Rattle.std.proofs.Common.{◌≡◌, arith}
use Rattle.blocks.specs.Real.{real}
use Rattle.candidates.proofs.Block.{front_is, front_many, slot_of_pair}
use Rattle.candidates.proofs.Trials.{rest_less, rest_none}
use Rattle.candidates.proofs.Work.wipe.Goals as goal

pub returns : goal.returns
returns c =
    let w = c.args.self.now in
    let l = c.loop-pair in
    let e : l.pair-index ≡ c.args.n = omega (arith, front_many c.args.n w.pairs.now c.requires.in_range) in
    rest_none (real.index w.block c.args.multiplier) c.args.n l.slots (rw e at l.invariant)

pub loop-pair-preserved : goal.loop-pair-preserved
loop-pair-preserved c =
    let w = c.args.self.now in
    let l = c.loop-pair in
    let pair = front_is w.block w.pairs.now w.pairs_are _ l.pair-index _ c.loop-pair-test.true in
    rest_less (real.index w.block c.args.multiplier) l.pair-index c.args.n c.slot-at.result l.slots
    (slot_of_pair w.block l.pair-index _ pair c.args.multiplier c.slot-at.result c.slot-at.ensures.value) c.slot-at.ensures.in_range l.invariant
