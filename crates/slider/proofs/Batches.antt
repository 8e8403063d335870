-- A batch under way is a batch of its first queries.
-- Assumes nothing.
use Prim.Native.Nat.{ℕ, ◌+◌, ◌≤◌, ◌<◌}
use mathlib.Core.Path.{◌≡◌, refl, sym, ap, ap₂, ◌∙◌}
use mathlib.Core.Bool.{Bool, true, false}
use mathlib.Core.List.{List}
use native.Mathlib.Omega.{arith}
use borrow.Author.Tests.{ltb-false}
use lib.Dec.{ltb}
use lib.ListN.{length, get_or, set}
use Rattle.bits.specs.Shown.{shown}
use Rattle.bits.proofs.Shown.{over_store, get_or_shown}
use Rattle.refusal.specs.Paper.{Said, gives, refuse_if}
use Rattle.refusal.proofs.Said.{gives_same, gives_not}
use Rattle.board.specs.Board.{rays, on_block}
use Rattle.board.specs.Blocks.{block_of, kind_of, square_of}
use Rattle.board.proofs.Blocks.{block_lt, kind_block, square_block, on_block_lem}
use Rattle.gen_magic.specs.declared.Record.{Record}
use Rattle.gen_magic.specs.Builds.{record_in}
use Rattle.magic.specs.LookUp.{look_with, look_up}
use Rattle.slider.specs.declared.SliderAnswer.{SliderAnswer}
use Rattle.slider.specs.Flat.{answer_of}
use Rattle.slider.specs.Batch.{Batch}

module _ {asked : ℕ → Said ℕ} {numbers₀ moves₀ : List ℕ} where
  pub batch_none : Batch asked 0 0 numbers₀ moves₀ numbers₀ moves₀
  unfolding shown
  batch_none = record { answered = refl; numbers_now = refl; moves_now = refl }

  pub batch_more : {i : ℕ} {numbers moves : List ℕ} (a : SliderAnswer) → Batch asked i i numbers₀ moves₀ numbers moves → a ≡ answer_of (asked i) → i < length numbers₀ → i < length moves₀ → Batch asked (i + 1) (i + 1) numbers₀ moves₀ (set numbers i a.number) (set moves i a.value)
  batch_more {i} {numbers} {moves} a b e hn hm =
      record {
        answered = refl;
        numbers_now = over_store i a.number numbers numbers₀ (λ j. (answer_of (asked j)).number) b.numbers_now hn (ap (λ (x : SliderAnswer). x.number) e);
        moves_now = over_store i a.value moves moves₀ (λ j. (answer_of (asked j)).value) b.moves_now hm (ap (λ (x : SliderAnswer). x.value) e);
      }

-- the rays of a query's block, from the list of all
listed_rays : (list : List ℕ) (k s b : ℕ) → list ≡ shown 128 (λ b. rays (kind_of b) (square_of b)) → k ≤ 1 → s ≤ 63 → b ≡ block_of k s → get_or list b 0 ≡ rays k s
listed_rays list k s b e hk hs eb =
    ap₂ (λ (l : List ℕ) (n : ℕ). get_or l n 0) e eb
    ∙ get_or_shown 128 (block_of k s) (λ b. rays (kind_of b) (square_of b)) 0 (block_lt k s (omega arith) (omega arith))
    ∙ ap₂ rays (kind_block k s (omega arith) (omega arith)) (square_block k s (omega arith))

-- the block of a query that is not refused
block_given : (k s b : ℕ) → gives b ≡ on_block k s (gives (block_of k s)) → (k ≤ 1) × (s ≤ 63) × (b ≡ block_of k s)
block_given k s b e = go (ltb 1 k) refl (ltb 63 s) refl e
  where
    go : (p : Bool) → ltb 1 k ≡ p → (q : Bool) → ltb 63 s ≡ q → gives b ≡ refuse_if p 1 (refuse_if q 2 (gives (block_of k s))) → (k ≤ 1) × (s ≤ 63) × (b ≡ block_of k s)
    go true a q r e = absurd (gives_not e)
    go false a true r e = absurd (gives_not e)
    go false a false r e = (ltb-false 1 k a, ltb-false 63 s r, gives_same e)

pub block_below : (k s b : ℕ) → gives b ≡ on_block k s (gives (block_of k s)) → b < 128
block_below k s b e = let h = block_given k s b e in omega (arith, h.2, block_lt k s (omega (arith, h.0)) (omega (arith, h.1)))

-- the look-up of a query by its block's record and by the listed rays
pub by_listed : (list : List ℕ) (records : List Record) (table : List ℕ) (k s b x : ℕ) → list ≡ shown 128 (λ b. rays (kind_of b) (square_of b)) → gives b ≡ on_block k s (gives (block_of k s)) → look_with (get_or list b 0) x (record_in records b) table ≡ on_block k s (look_up k s x (record_in records (block_of k s)) table)
by_listed list records table k s b x el e =
    let h = block_given k s b e in
    ap₂ (λ (y n : ℕ). look_with y x (record_in records n) table) (listed_rays list k s b el h.0 h.1 h.2) h.2
    ∙ sym (on_block_lem k s (look_up k s x (record_in records (block_of k s)) table) (omega (arith, h.0)) (omega (arith, h.1)))
