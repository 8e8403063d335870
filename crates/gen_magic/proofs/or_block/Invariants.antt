-- `gen_magic::or_block` meets its contract: after i turns the first i subsets are ORed in.
use mathlib.Core.Path.{◌≡◌}
use Rattle.blocks.specs.Real.{real}
use Rattle.gen_magic.specs.Builds.{slots}
use Rattle.gen_magic.specs.Turn.{ored}
use Rattle.gen_magic.proofs.or_block.Given as goal

abbrev pub invariant-loop-i : goal.invariant-loop-i
invariant-loop-i l =
    record {
      table_is : slots l.table ≡ ored (real.index l.block l.multiplier) (real.walk l.block) l.i (slots l.initial.table);
      marks_is : slots l.marks ≡ ored (real.index l.block l.multiplier) (λ _. real.rays l.block) l.i (slots l.initial.marks);
    }
