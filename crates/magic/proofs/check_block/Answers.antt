-- `magic::check_block` meets its contract: the subsets before this one hold.
use Prim.Native.Nat.{ℕ}
use mathlib.Core.Path.{◌≡◌, sym, ap, ◌∙◌}
use native.Mathlib.Omega.{arith}
use Rattle.magic.specs.Audit.{in_turn, subset_says}
use Rattle.magic.proofs.Audits.{turn_exits, block_in}
use Rattle.magic.proofs.check_block.Goals as goal

pub returns-in_err-check_subset : goal.returns-in_err-check_subset
returns-in_err-check_subset c = let a = c.args in
    turn_exits (subset_says a.block a.magic a.table.now) c.loop-subset.subset _ _ _ (omega (arith, c.size_at-subset-end.ensures)) c.loop-subset.invariant c.in_err-check_subset.ensures c.from_residual.ensures.1
    ∙ block_in a.block a.magic a.table.now (sym c.is_exact.ensures ∙ c.if-not-is_exact.false)

pub returns : goal.returns
returns c = let l = c.loop-subset in
    let a = c.args in
    let e : l.subset ≡ c.size_at-subset-end.result = omega arith in
    sym l.invariant ∙ ap (λ (n : ℕ). in_turn n (subset_says a.block a.magic a.table.now)) (e ∙ c.size_at-subset-end.ensures)
    ∙ block_in a.block a.magic a.table.now (sym c.is_exact.ensures ∙ c.if-not-is_exact.false)
