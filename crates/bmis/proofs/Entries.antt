-- The table's entries: where each stands, that it has 16 bits, and that the look-up in a filled table is the attack set.
-- Assumes nothing.
use Prim.Native.Nat.{ℕ, zero, suc, ◌+◌, ◌-◌, ◌*◌, ◌/◌, ◌%◌, ◌^◌, ◌≤◌, ◌<◌}
use mathlib.Core.Path.{◌≡◌, refl, sym, ap, ap₂, ◌∙◌, subst}
use mathlib.Core.List.{◌++◌}
use mathlib.Core.Logic.{◌⊎◌, inl, inr}
use native.Mathlib.Nat.{not-suc-le-zero, le_of_suc-le-suc, eq-or-lt_of_le, lt_of_lt_of_le}
use native.Mathlib.Omega.{arith}
use lib.Dec.{T, leb, leb→le}
use lib.ListN.{length, get_or, length-append, get_or-append}
use lib.Pow.{pow_mono}
use lib.Seq.{get_or-append-add}
use Rattle.bits.specs.Set.{every, count}
use Rattle.bits.specs.Intel.{pext, pdep}
use Rattle.bits.specs.Shown.{shown, sum}
use Rattle.bits.proofs.Every.{every_at}
use Rattle.bits.proofs.Pext.{extract_lt, deposit_extract}
use Rattle.bits.proofs.Shown.{length_shown, get_or_shown, sum_more, sum_mono}
use Rattle.board.specs.Board.{rays, mask, attack}
use Rattle.board.specs.Blocks.{size_of, subset}
use Rattle.board.specs.Crate.{answer}
use Rattle.board.proofs.Attack.{attack_lt, attack_rays}
use Rattle.board.proofs.Subsets.{index_lt, attack_subset}
use Rattle.board.proofs.CrateWalk.{crate_answer}
use Rattle.bmis.specs.Bmis.{size_at, offset_of, entry, entries_to, look_up}
use Rattle.bmis.proofs.Sums.{size_place, place_kind, place_square}

-- ---- 16 bits

count_test : T (every 2 (λ k. every 64 (λ s. leb (count (rays k s)) 14)))
unfolding every count rays
count_test = tt

count_low : (k s : ℕ) → k < 2 → s < 64 → count (rays k s) ≤ 14
count_low k s hk hs = leb→le (count (rays k s)) 14 (every_at 64 _ (every_at 2 _ count_test k hk) s hs)

pub entry_lt : (k s i : ℕ) → k < 2 → s < 64 → entry k s i < 2 ^ 16
unfolding entry
entry_lt k s i hk hs =
    lt_of_lt_of_le (extract_lt (attack k s (subset k s i)) (rays k s))
    (pow_mono (wide (count (rays k s)) (count_low k s hk hs)))
  where
    wide : (n : ℕ) → n ≤ 14 → n ≤ 16
    wide n h = omega arith

-- ---- where each entry stands

pub length_entries : (p : ℕ) → length (entries_to p) ≡ sum p size_at
unfolding entries_to sum
length_entries zero = refl
length_entries (suc p) =
    length-append (entries_to p) (shown (size_at p) (entry (p % 2) (p / 2)))
    ∙ ap₂ (λ (a b : ℕ). a + b) (length_entries p) (length_shown (size_at p) (entry (p % 2) (p / 2)))

entry_at : (p q i : ℕ) → q < p → i < size_at q → get_or (entries_to p) (sum q size_at + i) 0 ≡ entry (q % 2) (q / 2) i
unfolding entries_to
entry_at zero q i h l = absurd (not-suc-le-zero h)
entry_at (suc p) q i h l = go (λ k. entry_at p q i k l) (eq-or-lt_of_le (le_of_suc-le-suc h))
  where
    go : (q < p → get_or (entries_to p) (sum q size_at + i) 0 ≡ entry (q % 2) (q / 2) i) → (q ≡ p) ⊎ (q < p) → get_or (entries_to p ++ shown (size_at p) (entry (p % 2) (p / 2))) (sum q size_at + i) 0 ≡ entry (q % 2) (q / 2) i
    go ih (inl e) =
        ap (λ (n : ℕ). get_or (entries_to p ++ shown (size_at p) (entry (p % 2) (p / 2))) (n + i) 0) (ap (λ (n : ℕ). sum n size_at) e ∙ sym (length_entries p))
        ∙ get_or-append-add (entries_to p) (shown (size_at p) (entry (p % 2) (p / 2))) i 0
        ∙ get_or_shown (size_at p) i (entry (p % 2) (p / 2)) 0 (subst (λ (n : ℕ). i < size_at n) e l)
        ∙ ap (λ (n : ℕ). entry (n % 2) (n / 2) i) (sym e)
    go ih (inr k) =
        get_or-append (entries_to p) (shown (size_at p) (entry (p % 2) (p / 2))) 0 (sum q size_at + i) (inside k) ∙ ih k
      where
        inside : q < p → sum q size_at + i < length (entries_to p)
        inside m =
            let e : (q + 1) + (p - (q + 1)) ≡ p = omega arith in
            plain (sum q size_at) (size_at q) (sum (q + 1) size_at) (sum p size_at) (length (entries_to p)) l (sum_more q size_at)
            (subst (λ (n : ℕ). sum (q + 1) size_at ≤ sum n size_at) e (sum_mono (q + 1) (p - (q + 1)) size_at)) (length_entries p)
          where
            plain : (a b c d n : ℕ) → i < b → c ≡ a + b → c ≤ d → n ≡ d → a + i < n
            plain a b c d n w x y z = omega arith

-- entry i of a square's block
pub entry_is : (k s i : ℕ) → k < 2 → s < 64 → i < size_of k s → get_or (entries_to 128) (offset_of k s + i) 0 ≡ entry k s i
unfolding offset_of
entry_is k s i hk hs l =
    entry_at 128 (2 * s + k) i (omega arith) (subst (λ (n : ℕ). i < n) (sym (size_place k s hk)) l)
    ∙ ap₂ (λ (a b : ℕ). entry a b i) (place_kind k s hk) (place_square k s hk)

-- ---- the look-up in a filled table

pub filled_look_up : (k s b : ℕ) → k < 2 → s < 64 → b < 2 ^ 64 → look_up k s b (entries_to 128) ≡ attack k s b
unfolding look_up entry
filled_look_up k s b hk hs hb =
    ap (λ (x : ℕ). pdep x (rays k s)) (entry_is k s (pext b (mask k s)) hk hs (index_lt k s b))
    ∙ deposit_extract (attack k s (subset k s (pext b (mask k s)))) (rays k s) (attack_lt k s (subset k s (pext b (mask k s))))
    ∙ attack_rays k s hk hs (subset k s (pext b (mask k s)))
    ∙ attack_subset k s b hk hs hb

-- and the crate's answer
pub filled_crate : (k s b : ℕ) → k < 2 → s < 64 → b < 2 ^ 64 → look_up k s b (entries_to 128) ≡ answer k s b
filled_crate k s b hk hs hb = filled_look_up k s b hk hs hb ∙ sym (crate_answer k s b hk hs)
