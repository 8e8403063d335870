-- `magic::check_blocks` meets its contract: the blocks before this one hold.
use Prim.Native.Nat.{ℕ}
use mathlib.Core.Path.{◌≡◌, sym, ap, ◌∙◌}
use native.Mathlib.Omega.{arith}
use Rattle.gen_magic.specs.Builds.{record_in}
use Rattle.magic.specs.Audit.{in_turn, block_says, blocks_say}
use Rattle.magic.proofs.Audits.{turn_exits}
use Rattle.magic.proofs.check_blocks.Goals as goal

pub returns : goal.returns
unfolding blocks_say
returns c =
    let l = c.loop-block in
    let a = c.args in
    let e : l.block ≡ 128 = omega arith in
    sym l.invariant ∙ ap (λ (n : ℕ). in_turn n (λ b. block_says b (record_in a.records b) a.table.now)) e

pub returns-in_err-check_block : goal.returns-in_err-check_block
unfolding blocks_say
returns-in_err-check_block c =
    let a = c.args in
    turn_exits (λ b. block_says b (record_in a.records b) a.table.now) c.loop-block.block 128 _ _ (omega arith) c.loop-block.invariant c.in_err-check_block.ensures c.from_residual.ensures.1
