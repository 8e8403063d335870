-- What holds between any two blocks, and what the next block then finds and leaves in a slot.
-- Assumes nothing; of one more block, `Laws`.
use Prim.Native.Nat.{ℕ, ◌+◌, ◌≤◌, ◌<◌}
use mathlib.Core.Path.{◌≡◌, refl, sym, ap, ◌∙◌}
use mathlib.Core.Bool.{true}
use mathlib.Core.Logic.{◌⊎◌, inl, inr}
use native.Mathlib.Nat.{eq-or-lt_of_le}
use native.Mathlib.Omega.{arith}
use lib.Bits.{bit_and, bit_or, and_zero_l}
use Rattle.packing.specs.declared.Taken.{Taken}
use Rattle.packing.specs.Pack.{Blocks, clean, State, place, hit, next}
use Rattle.packing.specs.Promised.{Laws, slot_of}
use Rattle.packing.proofs.Agree.{agree_same}
use Rattle.packing.proofs.Slots.{Hit, Missed, or_missed, or_hit}
use Rattle.packing.proofs.Places.{place_first}
use Rattle.packing.proofs.Next.{place_le}

-- slot j keeps subset i of block b: the rays are marked there, and through them the walk is read
pub record Kept (B : Blocks) (s : State) (b i j : ℕ) : Type 0 where
  pub marked : bit_and (B.rays b) (s.marks j) ≡ B.rays b
  pub reads : bit_and (s.table j) (B.rays b) ≡ B.walk b i

-- blocks 0 to n - 1 are placed: a slot holds no more than its marks, and nothing is marked from the end on
pub record Sound (B : Blocks) (n : ℕ) (s : State) : Type 0 where
  pub within : (j : ℕ) → bit_and (s.table j) (s.marks j) ≡ s.table j
  pub beyond : (j : ℕ) → s.end ≤ j → s.marks j ≡ 0
  pub kept : (b i : ℕ) → b < n → i < B.size b → Kept B s b i (slot_of B s b i)

-- no mark in the range of the place shares a bit with the rays
pub place_free : (B : Blocks) (n : ℕ) (s : State) → Sound B n s → (j : ℕ) → j < B.size n → bit_and (s.marks (place B n s + j)) (B.rays n) ≡ 0
place_free B n s w j h = go (eq-or-lt_of_le (place_le B n s))
  where
    go : (place B n s ≡ s.end) ⊎ (place B n s < s.end) → bit_and (s.marks (place B n s + j)) (B.rays n) ≡ 0
    go (inl e) = ap (λ (x : ℕ). bit_and x (B.rays n)) (w.beyond (place B n s + j) (omega arith)) ∙ and_zero_l (B.rays n)
    go (inr l) = (place_first B n s).apart l j h

-- subsets that reach one slot have one walk
pub clean_same : (B : Blocks) (b m : ℕ) → clean B b m ≡ true → (i j : ℕ) → i < B.size b → j < B.size b → B.index b m i ≡ B.index b m j → B.walk b i ≡ B.walk b j
unfolding clean
clean_same B b m = agree_same (B.size b) (B.index b m) (B.walk b)

-- ---- one more block

module _ (B : Blocks) (L : Laws B) (n : ℕ) (s : State) (x : Taken) (hn : n < 128) (w : Sound B n s) (ok : clean B n x.multiplier ≡ true) where
  -- slot j was free, and subset i was ORed in
  pub record Ored (j i : ℕ) : Type 0 where
    pub was_free : bit_and (s.marks j) (B.rays n) ≡ 0
    pub walk_in : bit_and (B.walk n i) (B.rays n) ≡ B.walk n i
    pub table_now : (next B n s x).table j ≡ bit_or (s.table j) (B.walk n i)
    pub marks_now : (next B n s x).marks j ≡ bit_or (s.marks j) (B.rays n)

  pub hit_slot : (j : ℕ) (a : Hit (hit B n s x.multiplier) (B.size n) j) → Ored j a.by
  unfolding next hit
  hit_slot j a =
      record {
        was_free = ap (λ (k : ℕ). bit_and (s.marks k) (B.rays n)) (sym a.at) ∙ place_free B n s w (B.index n x.multiplier a.by) (L.index_lt n x.multiplier a.by hn a.low);
        walk_in = L.walk_in n a.by hn a.low;
        table_now = or_hit (hit B n s x.multiplier) _ j (s.table j) (B.walk n a.by) (B.size n) one_walk a;
        marks_now = or_hit (hit B n s x.multiplier) _ j (s.marks j) (B.rays n) (B.size n) (λ i l e. refl) a;
      }
    where
      one_walk : (i : ℕ) → i < B.size n → hit B n s x.multiplier i ≡ j → B.walk n i ≡ B.walk n a.by
      one_walk i l e = let q : hit B n s x.multiplier i ≡ hit B n s x.multiplier a.by = e ∙ sym a.at in clean_same B n x.multiplier ok i a.by l a.low (omega arith)

  pub missed_table : (j : ℕ) → Missed (hit B n s x.multiplier) (B.size n) j → (next B n s x).table j ≡ s.table j
  unfolding next
  missed_table j f = or_missed (hit B n s x.multiplier) _ j (s.table j) (B.size n) f

  pub missed_marks : (j : ℕ) → Missed (hit B n s x.multiplier) (B.size n) j → (next B n s x).marks j ≡ s.marks j
  unfolding next
  missed_marks j f = or_missed (hit B n s x.multiplier) _ j (s.marks j) (B.size n) f
