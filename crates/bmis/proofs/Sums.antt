-- Where blocks begin: the listed starts are sums of sizes, and the last block ends at 107,648.
-- Assumes nothing.
use Prim.Native.Nat.{ℕ, zero, suc, ◌+◌, ◌-◌, ◌*◌, ◌/◌, ◌%◌, ◌≤◌, ◌<◌}
use mathlib.Core.Path.{◌≡◌, refl, sym, ap, ap₂, ◌∙◌}
use mathlib.Core.Bool.{Bool, true, ◌&&◌}
use mathlib.Core.List.{List, [], ◌∷◌}
use native.Mathlib.Nat.{not-suc-le-zero, le_of_suc-le-suc, add-zero, add-suc, suc-add, zero-add}
use native.Mathlib.Omega.{arith}
use lib.Dec.{T, eqb, eqb→eq}
use lib.ListN.{get_or, length}
use Rattle.bits.specs.Shown.{sum}
use Rattle.bits.proofs.Every.{both_l, both_r}
use Rattle.bits.proofs.Shown.{sum_more, sum_mono}
use Rattle.board.specs.Blocks.{block_of, kind_of, square_of, size_of}
use Rattle.board.proofs.Blocks.{block_rook, block_bishop, kind_block, square_block}
use Rattle.bmis.specs.Bmis.{block_at, size_at, offset_of}
use Rattle.tables.specs.Starts.{starts}

-- ---- the block at a place

-- as the code has it
pub block_is : (p : ℕ) → (1 - p % 2) * 64 + p / 2 ≡ block_at p
unfolding block_at
block_is p = go (p % 2) (omega arith)
  where
    go : (k : ℕ) → k < 2 → (1 - k) * 64 + p / 2 ≡ block_of k (p / 2)
    go zero h = block_rook 0 (p / 2) refl
    go (suc k) h = let e : (1 - suc k) * 64 + p / 2 ≡ p / 2 = omega arith in e ∙ block_bishop (suc k) (p / 2) (λ q. omega arith)

module _ (p : ℕ) (h : p < 128) where
  pub kind_at : kind_of (block_at p) ≡ p % 2
  unfolding block_at
  kind_at = kind_block (p % 2) (p / 2) (omega arith) (omega arith)

  pub square_at : square_of (block_at p) ≡ p / 2
  unfolding block_at
  square_at = square_block (p % 2) (p / 2) (omega arith)

  pub size_at_lem : size_of (kind_of (block_at p)) (square_of (block_at p)) ≡ size_at p
  unfolding size_at
  size_at_lem = ap₂ size_of kind_at square_at

-- ---- the listed starts

-- each number of the list is the one before it and the size of its block
unfoldable adds : ℕ → ℕ → List ℕ → Bool
adds start p [] = true
adds start p (x ∷ l) = eqb x start && adds (start + size_at p) (suc p) l

adds_sum : (l : List ℕ) (start p q : ℕ) → T (adds start p l) → start ≡ sum p size_at → q < length l → get_or l q 0 ≡ sum (p + q) size_at
unfolding adds sum
adds_sum [] start p q t e h = absurd (not-suc-le-zero h)
adds_sum (x ∷ l) start p zero t e h = eqb→eq x start (both_l (eqb x start) (adds (start + size_at p) (suc p) l) t) ∙ e ∙ ap (λ (n : ℕ). sum n size_at) (sym (add-zero p))
adds_sum (x ∷ l) start p (suc q) t e h =
    adds_sum l (start + size_at p) (suc p) q (both_r (eqb x start) (adds (start + size_at p) (suc p) l) t) (ap (λ (n : ℕ). n + size_at p) e) (le_of_suc-le-suc h)
    ∙ ap (λ (n : ℕ). sum n size_at) (suc-add p q ∙ sym (add-suc p q))

test : T (adds 0 0 starts)
unfolding adds size_at size_of
test = tt

pub start_is : (p : ℕ) → p < 128 → get_or starts p 0 ≡ sum p size_at
unfolding sum
start_is p h = adds_sum starts 0 0 p test refl h ∙ ap (λ (n : ℕ). sum n size_at) (zero-add p)

-- the last block ends at 107,648
pub all_sizes : sum 128 size_at ≡ 107648
unfolding sum size_at size_of
all_sizes = refl

-- and so each block within it
pub ends_within : (p : ℕ) → p < 128 → sum p size_at + size_at p ≤ 107648
ends_within p h =
    let e : (p + 1) + (127 - p) ≡ 128 = omega arith in
    omega (arith, sum_more p size_at, sum_mono (p + 1) (127 - p) size_at, ap (λ (n : ℕ). sum n size_at) e, all_sizes)

pub place_kind : (k s : ℕ) → k < 2 → (2 * s + k) % 2 ≡ k
place_kind k s h = omega arith

pub place_square : (k s : ℕ) → k < 2 → (2 * s + k) / 2 ≡ s
place_square k s h = omega arith

pub size_place : (k s : ℕ) → k < 2 → size_at (2 * s + k) ≡ size_of k s
unfolding size_at
size_place k s hk = ap₂ size_of (place_kind k s hk) (place_square k s hk)

pub offset_within : (k s : ℕ) → k < 2 → s < 64 → offset_of k s + size_of k s ≤ 107648
unfolding offset_of
offset_within k s hk hs = plain (sum (2 * s + k) size_at) (size_at (2 * s + k)) (size_of k s) (ends_within (2 * s + k) (omega arith)) (size_place k s hk)
  where
    plain : (a b c : ℕ) → a + b ≤ 107648 → b ≡ c → a + c ≤ 107648
    plain a b c h e = omega arith
