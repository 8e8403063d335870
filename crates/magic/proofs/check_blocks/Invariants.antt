-- `magic::check_blocks` meets its contract: the blocks before this one hold.
use mathlib.Core.Path.{◌≡◌}
use Rattle.refusal.specs.Paper.{gives}
use Rattle.gen_magic.specs.Builds.{record_in}
use Rattle.magic.specs.Audit.{in_turn, block_says}
use Rattle.magic.proofs.check_blocks.Given as goal

abbrev pub invariant-loop-block : goal.invariant-loop-block
invariant-loop-block l = in_turn l.block (λ b. block_says b (record_in l.fn.records b) l.table) ≡ gives tt
