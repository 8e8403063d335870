-- `gen_magic::gen_blocks` meets its contract: before each turn the code's values stand for the run's state.
use lib.ListN.{length}
use Rattle.gen_magic.proofs.Sofar.{Sofar}
use Rattle.gen_magic.proofs.gen_blocks.Given as goal

abbrev pub invariant-loop-block : goal.invariant-loop-block
invariant-loop-block l = Sofar l.source (length l.initial.table) l.block l.table l.marks l.records l.counts l.end
