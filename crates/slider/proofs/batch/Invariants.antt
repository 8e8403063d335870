-- `slider::batch` meets its contract: the first i queries are answered.
use Rattle.slider.specs.Batch.{Batch, asked_by}
use Rattle.slider.proofs.batch.Given as goal

abbrev pub invariant-loop-i : goal.invariant-loop-i
invariant-loop-i g l = Batch (asked_by (g.A.Asked.says l.asked) l.kinds l.squares l.blockers) l.i l.i l.initial.numbers l.initial.moves l.numbers l.moves
