-- What each slot of table and marks holds after some blocks: the values that landed there, and nothing else.
-- Assumes nothing.
use Prim.Native.Nat.{ℕ, zero, suc, ◌+◌, ◌<◌, max}
use mathlib.Core.Path.{◌≡◌, refl, sym, ap, ap₂, ◌∙◌, subst}
use mathlib.Core.Bool.{Bool, true, false, true≢false}
use mathlib.Core.Logic.{◌⊎◌, inl, inr}
use native.Mathlib.Nat.{not-suc-le-zero, le_refl, le_of_suc-le-suc, eq-or-lt_of_le}
use native.Mathlib.Omega.{arith}
use borrow.Author.Tests.{eqb-true, eq-eqb}
use lib.Bits.{bit_or}
use lib.Dec.{eqb}
use Rattle.bits.specs.Set.{pick, has}
use Rattle.bits.proofs.Every.{or_split, or_left, or_right}
use Rattle.bits.proofs.Sets.{has_or, has_zero}
use Rattle.packing.specs.declared.Taken.{Taken}
use Rattle.packing.specs.Pack.{Blocks, State, start, place, hit, or_into, next}
use Rattle.packing.specs.Promised.{slot_of, after, largest}
use Rattle.packing.proofs.Largest.{largest_cong}
use Rattle.packing.proofs.Next.{offset_at, offset_before, taken_at, taken_before}
use Rattle.promises.specs.Slots.{Lands, EachSlot}

-- one of n values, with square t, went into slot j
record Into (slot value : ℕ → ℕ) (n j t : ℕ) : Type 0 where
  by : ℕ
  low : by < n
  at : slot by ≡ j
  has_it : has (value by) t ≡ true

module _ (slot value : ℕ → ℕ) (j old t : ℕ) where
  abbrev X : ℕ → ℕ
  X n = or_into slot value n j old

  grown : (n : ℕ) → (has old t ≡ true) ⊎ Into slot value n j t → (has old t ≡ true) ⊎ Into slot value (suc n) j t
  grown n (inl e) = inl e
  grown n (inr i) = inr (record { by = i.by; low = omega (arith, i.low); at = i.at; has_it = i.has_it })

  or_only : (n : ℕ) → has (X n) t ≡ true → (has old t ≡ true) ⊎ Into slot value n j t
  unfolding or_into
  or_only zero h = inl h
  or_only (suc n) h = go (eqb (slot n) j) refl h (or_only n)
    where
      two : (has (X n) t ≡ true → (has old t ≡ true) ⊎ Into slot value n j t) → slot n ≡ j → (has (X n) t ≡ true) ⊎ (has (value n) t ≡ true) → (has old t ≡ true) ⊎ Into slot value (suc n) j t
      two ih e (inl a) = grown n (ih a)
      two ih e (inr b) = inr (record { by = n; low = le_refl (suc n); at = e; has_it = b })

      go : (c : Bool) → eqb (slot n) j ≡ c → has (pick c (bit_or (X n) (value n)) (X n)) t ≡ true → (has (X n) t ≡ true → (has old t ≡ true) ⊎ Into slot value n j t) → (has old t ≡ true) ⊎ Into slot value (suc n) j t
      go true q g ih = two ih (eqb-true (slot n) j q) (or_split (has (X n) t) (has (value n) t) (sym (has_or (X n) (value n) t) ∙ g))
      go false q g ih = grown n (ih g)

  or_kept : (n : ℕ) (c : Bool) → has (X n) t ≡ true → has (pick c (bit_or (X n) (value n)) (X n)) t ≡ true
  or_kept n true h = has_or (X n) (value n) t ∙ or_left (has (X n) t) (has (value n) t) h
  or_kept n false h = h

  or_old : (n : ℕ) → has old t ≡ true → has (X n) t ≡ true
  unfolding or_into
  or_old zero h = h
  or_old (suc n) h = or_kept n (eqb (slot n) j) (or_old n h)

  into_has : (n : ℕ) → Into slot value n j t → has (X n) t ≡ true
  unfolding or_into
  into_has zero i = absurd (not-suc-le-zero i.low)
  into_has (suc n) i = go (eq-or-lt_of_le (le_of_suc-le-suc i.low)) (into_has n)
    where
      go : (i.by ≡ n) ⊎ (i.by < n) → (Into slot value n j t → has (X n) t ≡ true) → has (pick (eqb (slot n) j) (bit_or (X n) (value n)) (X n)) t ≡ true
      go (inl e) ih =
          ap (λ (c : Bool). has (pick c (bit_or (X n) (value n)) (X n)) t) (eq-eqb (slot n) j (ap slot (sym e) ∙ i.at))
          ∙ has_or (X n) (value n) t ∙ or_right (has (X n) t) (has (value n) t) (ap (λ (k : ℕ). has (value k) t) (sym e) ∙ i.has_it)
      go (inr l) ih = or_kept n (eqb (slot n) j) (ih (record { by = i.by; low = l; at = i.at; has_it = i.has_it }))

-- of table or marks: what one block more adds
module _ (B : Blocks) (taken : ℕ → Taken) (value : ℕ → ℕ → ℕ) (content : State → ℕ → ℕ) (none : (j : ℕ) → content start j ≡ 0)
    (more : (n : ℕ) (s : State) (x : Taken) (j : ℕ) → content (next B n s x) j ≡ or_into (hit B n s x.multiplier) (value n) (B.size n) j (content s j)) where
  abbrev At : ℕ → ℕ → ℕ → Type 0
  At n j t = Lands B (after B taken n) value n j t

  old_slot : (n b i : ℕ) → b < n → slot_of B (after B taken (suc n)) b i ≡ slot_of B (after B taken n) b i
  unfolding after
  old_slot n b i h = ap₂ (λ (o : ℕ) (y : Taken). o + B.index b y.multiplier i) (offset_before B n (after B taken n) (taken n) b h) (taken_before B n (after B taken n) (taken n) b h)

  new_slot : (n i : ℕ) → slot_of B (after B taken (suc n)) n i ≡ hit B n (after B taken n) (taken n).multiplier i
  unfolding after hit
  new_slot n i = ap₂ (λ (o : ℕ) (y : Taken). o + B.index n y.multiplier i) (offset_at B n (after B taken n) (taken n) n refl) (taken_at B n (after B taken n) (taken n) n refl)

  only : (n j t : ℕ) → has (content (after B taken n) j) t ≡ true → At n j t
  unfolding after
  only zero j t h = absurd (true≢false (sym h ∙ ap (λ (x : ℕ). has x t) (none j) ∙ has_zero t))
  only (suc n) j t h = go (or_only _ (value n) j (content (after B taken n) j) t (B.size n) (sym (ap (λ (x : ℕ). has x t) (more n (after B taken n) (taken n) j)) ∙ h)) (only n j t)
    where
      go : (has (content (after B taken n) j) t ≡ true) ⊎ Into (hit B n (after B taken n) (taken n).multiplier) (value n) (B.size n) j t → (has (content (after B taken n) j) t ≡ true → At n j t) → At (suc n) j t
      go (inl e) ih =
          let l = ih e in
          record { block = l.block; subset = l.subset; a_block = omega (arith, l.a_block); a_subset = l.a_subset; there = old_slot n l.block l.subset l.a_block ∙ l.there; has_it = l.has_it }
      go (inr i) ih = record { block = n; subset = i.by; a_block = le_refl (suc n); a_subset = i.low; there = new_slot n i.by ∙ i.at; has_it = i.has_it }

  all : (n j t : ℕ) → At n j t → has (content (after B taken n) j) t ≡ true
  unfolding after
  all zero j t l = absurd (not-suc-le-zero l.a_block)
  all (suc n) j t l = ap (λ (x : ℕ). has x t) (more n (after B taken n) (taken n) j) ∙ go (eq-or-lt_of_le (le_of_suc-le-suc l.a_block)) (all n j t)
    where
      go : (l.block ≡ n) ⊎ (l.block < n) → (At n j t → has (content (after B taken n) j) t ≡ true) → has (or_into (hit B n (after B taken n) (taken n).multiplier) (value n) (B.size n) j (content (after B taken n) j)) t ≡ true
      go (inl e) ih =
          into_has _ (value n) j (content (after B taken n) j) t (B.size n)
          (record {
            by = l.subset;
            low = subst (λ (b : ℕ). l.subset < B.size b) e l.a_subset;
            at = sym (new_slot n l.subset) ∙ ap (λ (b : ℕ). slot_of B (after B taken (suc n)) b l.subset) (sym e) ∙ l.there;
            has_it = ap (λ (b : ℕ). has (value b l.subset) t) (sym e) ∙ l.has_it;
          })
      go (inr h) ih =
          or_old _ (value n) j (content (after B taken n) j) t (B.size n)
          (ih (record { block = l.block; subset = l.subset; a_block = h; a_subset = l.a_subset; there = sym (old_slot n l.block l.subset h) ∙ l.there; has_it = l.has_it }))

pub end_next : (B : Blocks) (n : ℕ) (s : State) (x : Taken) → (next B n s x).end ≡ max s.end (place B n s + B.size n)
unfolding next
end_next B n s x = refl

-- the end is the largest of the blocks' ends
end_largest : (B : Blocks) (taken : ℕ → Taken) (n : ℕ) → (after B taken n).end ≡ largest n (λ b. (after B taken n).offset b + B.size b)
unfolding after largest
end_largest B taken zero = refl
end_largest B taken (suc n) =
    end_next B n (after B taken n) (taken n)
    ∙ ap₂ max (end_largest B taken n ∙ sym (largest_cong n _ _ (λ b h. ap (λ (o : ℕ). o + B.size b) (offset_before B n (after B taken n) (taken n) b h))))
    (sym (ap (λ (o : ℕ). o + B.size n) (offset_at B n (after B taken n) (taken n) n refl)))

pub each_slot : (B : Blocks) (taken : ℕ → Taken) (n : ℕ) → EachSlot B (after B taken n) n
unfolding next
each_slot B taken n =
    record {
      in_table = λ j t. (
        only B taken B.walk (λ s. s.table) (λ j. refl) (λ n s x j. refl) n j t,
        all B taken B.walk (λ s. s.table) (λ j. refl) (λ n s x j. refl) n j t,
      );
      in_marks = λ j t. (
        only B taken (λ b i. B.rays b) (λ s. s.marks) (λ j. refl) (λ n s x j. refl) n j t,
        all B taken (λ b i. B.rays b) (λ s. s.marks) (λ j. refl) (λ n s x j. refl) n j t,
      );
      end_is = end_largest B taken n;
    }
