-- `slider::batch` meets its contract: the first i queries are answered.
use native.Mathlib.Omega.{arith}
use Rattle.slider.proofs.Batches.{batch_none, batch_more}
use Rattle.slider.proofs.batch.Goals as goal

pub loop-i-init : goal.loop-i-init
loop-i-init g c = batch_none

pub loop-i-preserved : goal.loop-i-preserved
loop-i-preserved g c = batch_more c.ask-found.result c.loop-i.invariant c.ask-found.ensures (omega arith) (omega arith)
