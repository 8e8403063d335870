-- One turn of the fill: a block's entries in the part that follows those before it.
-- Assumes nothing.
use Prim.Native.Nat.{ℕ, ◌+◌, ◌/◌, ◌%◌, ◌≤◌, ◌<◌}
use mathlib.Core.Path.{◌≡◌, sym, ap, ap₂, ◌∙◌}
use mathlib.Core.List.{List, ◌++◌}
use native.Mathlib.Numerals.{add-one}
use native.Mathlib.Omega.{arith}
use borrow.Rule.Slice.PartMut.{put_mid}
use lib.ListN.{length, take, drop}
use Rattle.bits.specs.Shown.{shown}
use Rattle.bits.proofs.Parts.{length_part, take_part}
use Rattle.bits.proofs.Shown.{length_shown}
use Rattle.board.specs.Blocks.{kind_of, square_of}
use Rattle.bmis.specs.Bmis.{block_at, size_at, entry, entries_to}
use Rattle.bmis.proofs.Sums.{kind_at, square_at}

module _ (p at size block k : ℕ) (xs ys : List ℕ) (low : p < 128) (ek : k ≡ size) (es : size ≡ size_at p) (eb : block ≡ block_at p) (within : at + size ≤ length xs) (front : take at xs ≡ entries_to p) (part : ys ≡ shown (length (take k (drop at xs))) (entry (kind_of block) (square_of block))) where
  part_is : ys ≡ shown (size_at p) (entry (p % 2) (p / 2))
  part_is =
      part
      ∙ ap₂ (λ (n : ℕ) (f : ℕ → ℕ). shown n f) (ap (λ (n : ℕ). length (take n (drop at xs))) ek ∙ length_part at size xs within ∙ es)
      (ap₂ entry (ap kind_of eb ∙ kind_at p low) (ap square_of eb ∙ square_at p low))

  pub filled_turn : take (at + size) (put_mid at k xs ys) ≡ entries_to (p + 1)
  unfolding entries_to
  filled_turn =
      take_part at size xs ys (drop k (drop at xs)) (omega arith) (ap length part_is ∙ length_shown (size_at p) (entry (p % 2) (p / 2)) ∙ sym es)
      ∙ ap₂ (λ (a b : List ℕ). a ++ b) front part_is ∙ ap entries_to (sym (add-one p))
