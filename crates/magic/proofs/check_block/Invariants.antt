-- `magic::check_block` meets its contract: the subsets before this one hold.
use mathlib.Core.Path.{◌≡◌}
use Rattle.refusal.specs.Paper.{gives}
use Rattle.magic.specs.Audit.{in_turn, subset_says}
use Rattle.magic.proofs.check_block.Given as goal

abbrev pub invariant-loop-subset : goal.invariant-loop-subset
invariant-loop-subset l = in_turn l.subset (subset_says l.block l.magic l.table) ≡ gives tt
