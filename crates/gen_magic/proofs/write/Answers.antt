-- `gen_magic::write` meets its contract.
use Prim.Native.Nat.{ℕ, ◌+◌, ◌-◌, ◌≤◌}
use mathlib.Core.Path.{◌≡◌, sym, ◌∙◌, subst}
use native.Mathlib.Omega.{arith}
use lib.ListN.{length}
use Rattle.blocks.specs.Real.{real}
use Rattle.blocks.proofs.Real.{index_lt}
use Rattle.gen_magic.proofs.Loans.{part_ored}
use Rattle.gen_magic.proofs.write.Goals as goal

pub returns : goal.returns
returns c =
    let a = c in
    let n = c.size_at in
    let o = c.or_block in
    let b = a.args.block in
    let m = a.args.multiplier in
    let k : a.args.place + n.result - a.args.place ≡ n.result = omega arith in
    let fits : a.args.place + real.size b ≤ length a.args.marks.now = subst (λ (x : ℕ). a.args.place + real.size b ≤ x) (sym a.requires.1) a.requires.0 in
    record {
      table_after = part_ored (real.index b m) (real.walk b) (real.size b) a.args.place (a.args.place + n.result - a.args.place) a.args.table.now o.new.table (k ∙ n.ensures) a.requires.0 (λ i _. index_lt b m _) o.auto.table o.ensures.table_after;
      marks_after = part_ored (real.index b m) (λ _. real.rays b) (real.size b) a.args.place (a.args.place + n.result - a.args.place) a.args.marks.now o.new.marks (k ∙ n.ensures) fits (λ i _. index_lt b m _) o.auto.marks o.ensures.marks_after;
    }
