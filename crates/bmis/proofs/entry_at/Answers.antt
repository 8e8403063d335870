-- `bmis::entry_at` meets its contract: an entry has at most 14 bits.
use Prim.Native.Nat.{ℕ, ◌^◌, ◌<◌}
use mathlib.Core.Path.{◌≡◌, sym, ap, ap₂, ◌∙◌, subst}
use Rattle.bits.specs.Intel.{pext, pdep}
use Rattle.board.specs.Board.{attack}
use Rattle.board.specs.Blocks.{kind_of, square_of}
use Rattle.board.proofs.Blocks.{kind_lt, square_lt}
use Rattle.board.proofs.Subsets.{subset_deposit}
use Rattle.bmis.specs.Bmis.{entry}
use Rattle.bmis.proofs.Entries.{entry_lt}
use Rattle.bmis.proofs.entry_at.Goals as goal

module _ (c : goal.After-extract-packed) where
  packed_is : c.extract-packed.result ≡ entry (kind_of c.args.block) (square_of c.args.block) c.args.i
  unfolding entry
  packed_is =
      let a = c.args in
      let k = kind_of a.block in
      let s = square_of a.block in
      let question = c.deposit.ensures ∙ ap (pdep a.i) c.mask_at-mask.ensures ∙ sym (subset_deposit k s a.i) in
      c.extract-packed.ensures ∙ ap₂ pext (c.walk_at-walk.ensures ∙ ap (attack k s) question) c.rays_at-rays.ensures

pub overflow_cast-result : goal.overflow_cast-result
overflow_cast-result c =
    let a = c.args in
    record { fits = subst (λ (n : ℕ). n < 2 ^ 16) (sym (packed_is c)) (entry_lt (kind_of a.block) (square_of a.block) a.i (kind_lt a.block) (square_lt a.block)) }
