-- `candidates::Work::fill` meets its contract: before turn n the first n walks are in.
use Rattle.blocks.specs.Real.{real}
use Rattle.candidates.proofs.Trials.{Filled}
use Rattle.candidates.proofs.Work.fill.Given as goal

abbrev pub invariant-loop-n : goal.invariant-loop-n
invariant-loop-n l = Filled (real.index l.self.block l.multiplier) (real.walk l.self.block) l.n l.slots
