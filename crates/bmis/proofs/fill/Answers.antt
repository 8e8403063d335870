-- `bmis::fill` meets its contract: before turn p, the table begins with the entries of the first p blocks.
use Prim.Native.Nat.{ℕ, ◌+◌, ◌-◌, ◌≤◌, ◌<◌}
use mathlib.Core.Path.{◌≡◌, refl, sym, ap, ap₂, ◌∙◌}
use native.Mathlib.Omega.{arith}
use borrow.Rule.Slice.PartMut.{same_len_mid}
use lib.ListN.{length}
use lib.Seq.{take_all}
use Rattle.bits.specs.Shown.{sum}
use Rattle.bits.proofs.Shown.{sum_more}
use Rattle.board.specs.Blocks.{kind_of, square_of, size_of}
use Rattle.bmis.specs.Bmis.{block_at, size_at, entries_to}
use Rattle.bmis.proofs.Sums.{size_at_lem, ends_within, all_sizes}
use Rattle.bmis.proofs.Filling.{filled_turn}
use Rattle.bmis.proofs.fill.Goals as goal

pub loop-p-init : goal.loop-p-init
unfolding sum entries_to
loop-p-init c = record { at_is = refl; long = c.requires; first = refl }

-- the block's size, and that it ends within the table
size : (p block n : ℕ) → p < 128 → block ≡ block_at p → n ≡ size_of (kind_of block) (square_of block) → n ≡ size_at p
size p block n h eb en = en ∙ ap (λ (b : ℕ). size_of (kind_of b) (square_of b)) eb ∙ size_at_lem p h

within : (p at block n : ℕ) → p < 128 → at ≡ sum p size_at → block ≡ block_at p → n ≡ size_of (kind_of block) (square_of block) → at + n ≤ 107648
within p at block n h ea eb en = omega (arith, size p block n h eb en, ends_within p h)

pub overflow_add-end : goal.overflow_add-end
overflow_add-end c =
    omega (arith, within c.loop-p.p _ _ _ (omega arith) c.loop-p.invariant.at_is c.block_at-block.ensures c.size_at.ensures)

pub offset_bounds-table-at : goal.offset_bounds-table-at
offset_bounds-table-at c =
    omega (arith, within c.loop-p.p _ _ _ (omega arith) c.loop-p.invariant.at_is c.block_at-block.ensures c.size_at.ensures)

pub slice_bounds-generate_bmis-end : goal.slice_bounds-generate_bmis-end
slice_bounds-generate_bmis-end c =
    omega (arith, within c.loop-p.p _ _ _ (omega arith) c.loop-p.invariant.at_is c.block_at-block.ensures c.size_at.ensures, c.loop-p.invariant.long)

pub loop-p-preserved : goal.loop-p-preserved
loop-p-preserved c =
    let l = c.loop-p in
    let n = c.size_at.result in
    let part = c.generate_bmis.new.part in
    let low : l.p < 128 = omega arith in
    let k : l.at + n - l.at ≡ n = omega arith in
    let es = size l.p _ _ low c.block_at-block.ensures c.size_at.ensures in
    let w : l.at + n ≤ length l.table = omega (arith, within l.p _ _ _ low l.invariant.at_is c.block_at-block.ensures c.size_at.ensures, l.invariant.long) in
    record {
      at_is = ap₂ (λ (x y : ℕ). x + y) l.invariant.at_is es ∙ sym (sum_more l.p size_at);
      long = same_len_mid l.at (l.at + n - l.at) l.table part c.generate_bmis.auto.part ∙ l.invariant.long;
      first = filled_turn l.p l.at n c.block_at-block.result (l.at + n - l.at) l.table part low k es c.block_at-block.ensures w l.invariant.first c.generate_bmis.ensures;
    }

pub returns : goal.returns
returns c =
    let l = c.loop-p in
    let e : l.p ≡ 128 = omega arith in
    sym (take_all l.at l.table (omega (arith, l.invariant.at_is, l.invariant.long, ap (λ (n : ℕ). sum n size_at) e, all_sizes)))
    ∙ l.invariant.first ∙ ap entries_to e
