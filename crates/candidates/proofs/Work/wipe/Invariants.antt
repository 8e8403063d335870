-- `candidates::Work::wipe` meets its contract: before each turn only slots of later questions may hold a walk.
use Rattle.blocks.specs.Real.{real}
use Rattle.candidates.specs.Trial.{Rest}
use Rattle.candidates.proofs.Work.wipe.Given as goal

abbrev pub invariant-loop-pair : goal.invariant-loop-pair
invariant-loop-pair l = Rest (real.index l.self.block l.multiplier) l.pair-index l.n l.slots
