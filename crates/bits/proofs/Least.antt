-- Laws of `least`, and the least square of a set by its trailing zeros.
-- Assumes nothing.
use Rattle.std.proofs.Common.{◌≡◌, ℕ, zero, suc, ◌/◌, ◌%◌, ◌^◌, ◌<◌, ◌≤◌, Bool, true, false, eqb, sym, refl, ap, ◌∙◌, subst, true≢false, suc-le-suc, zero-le, le_of_suc-le-suc, not-suc-le-zero, pow-suc, arith}
use native.Mathlib.Decide.{dec_lt}
use lib.Arith.{lt-one}
use lib.Count.{count_trailing_zeros, under}
use Rattle.bits.specs.Set.{bit, has, least}
use Rattle.bits.proofs.Digit.{bit_zero, bit_half, bit_past}

pub least_is : (n : ℕ) (p : ℕ → Bool) (i : ℕ) → i < n → p i ≡ true → ((j : ℕ) → j < i → p j ≡ false) → least n p ≡ i
unfolding least
least_is zero p i h t f = absurd (not-suc-le-zero h)
least_is (suc n) p zero h t f = rw (t, least)
least_is (suc n) p (suc i) h t f =
    rw (f 0 (omega arith), least)
    (ap suc (least_is n (λ j. p (suc j)) i (le_of_suc-le-suc h) t (λ j l. f (suc j) (suc-le-suc l))))

-- ---- what the least number has

-- its first step, at the test's answer for zero
abbrev first : Bool → ℕ → ℕ
first c r = elim c as (λ _. ℕ) [ true ↦ zero | false ↦ suc r ]

pub least_le : (n : ℕ) (p : ℕ → Bool) → least n p ≤ n
unfolding least
least_le zero p = zero-le
least_le (suc n) p = go (p zero) (least_le n (λ j. p (suc j)))
  where
    go : (c : Bool) {r : ℕ} → r ≤ n → first c r ≤ suc n
    go true h = zero-le
    go false h = suc-le-suc h

pub least_passes : (n : ℕ) (p : ℕ → Bool) → least n p < n → p (least n p) ≡ true
unfolding least
least_passes zero p h = absurd (not-suc-le-zero h)
least_passes (suc n) p h = go (p zero) refl (least_passes n (λ j. p (suc j))) h
  where
    go : (c : Bool) → p zero ≡ c → {r : ℕ} → (r < n → p (suc r) ≡ true) → first c r < suc n → p (first c r) ≡ true
    go true e ih l = e
    go false e ih l = ih (le_of_suc-le-suc l)

pub least_before : (n : ℕ) (p : ℕ → Bool) (j : ℕ) → j < least n p → p j ≡ false
unfolding least
least_before zero p j h = absurd (not-suc-le-zero h)
least_before (suc n) p j h = go j (p zero) refl (least_before n (λ j. p (suc j))) h
  where
    go : (j : ℕ) (c : Bool) → p zero ≡ c → {r : ℕ} → ((i : ℕ) → i < r → p (suc i) ≡ false) → j < first c r → p j ≡ false
    go j true e ih l = absurd (not-suc-le-zero l)
    go zero false e ih l = e
    go (suc j) false e ih l = ih j (le_of_suc-le-suc l)

-- where the test passes nowhere
pub least_none : (n : ℕ) (p : ℕ → Bool) → ((j : ℕ) → j < n → p j ≡ false) → least n p ≡ n
least_none n p h = go (dec_lt (least n p) n)
  where
    go : Dec (least n p < n) → least n p ≡ n
    go (yes l) = absurd (true≢false (sym (least_passes n p l) ∙ h (least n p) l))
    go (no g) = omega (arith, least_le n p)

-- ---- trailing zeros

trailing_bit : (k n : ℕ) → n < 2 ^ k → zero < n → bit n (count_trailing_zeros k n) ≡ 1
unfolding count_trailing_zeros
trailing_bit zero n h p = absurd (not-suc-le-zero (subst (λ (x : ℕ). zero < x) (lt-one h) p))
trailing_bit (suc k) n h p = go (trailing_bit k (n / 2) (omega (arith, subst (λ (x : ℕ). n < x) (pow-suc 2 k) h))) (n % 2) refl
  where
    go : (zero < n / 2 → bit (n / 2) (count_trailing_zeros k (n / 2)) ≡ 1) → (d : ℕ) → n % 2 ≡ d → bit n (under d (count_trailing_zeros k (n / 2))) ≡ 1
    go ih zero e = sym (bit_half n (count_trailing_zeros k (n / 2))) ∙ ih (omega arith)
    go ih (suc d) e = bit_zero n ∙ omega arith

trailing_below : (k n t : ℕ) → t < count_trailing_zeros k n → bit n t ≡ zero
unfolding count_trailing_zeros
trailing_below zero n t h = absurd (not-suc-le-zero h)
trailing_below (suc k) n t h = go (trailing_below k (n / 2)) t (n % 2) refl h
  where
    go : ((t : ℕ) → t < count_trailing_zeros k (n / 2) → bit (n / 2) t ≡ zero) → (t d : ℕ) → n % 2 ≡ d → t < under d (count_trailing_zeros k (n / 2)) → bit n t ≡ zero
    go ih zero zero e h = bit_zero n ∙ e
    go ih (suc t) zero e h = sym (bit_half n t) ∙ ih t (le_of_suc-le-suc h)
    go ih t (suc d) e h = absurd (not-suc-le-zero h)

-- the least square of a set that has one
module _ (k n : ℕ) (h : n < 2 ^ k) (p : zero < n) where
  pub trailing_has : has n (count_trailing_zeros k n) ≡ true
  unfolding has
  trailing_has = ap (λ (x : ℕ). eqb x 1) (trailing_bit k n h p)

  pub trailing_lt : count_trailing_zeros k n < k
  trailing_lt = go (dec_lt (count_trailing_zeros k n) k)
    where
      go : Dec (count_trailing_zeros k n < k) → count_trailing_zeros k n < k
      go (yes l) = l
      go (no f) = absurd (zero_one (sym (bit_past n k (count_trailing_zeros k n) h (omega arith)) ∙ trailing_bit k n h p))
        where
          zero_one : ◌≡◌ {A = ℕ} 0 1 → ⊥
          zero_one e = omega arith

  pub least_trailing : least k (has n) ≡ count_trailing_zeros k n
  unfolding has
  least_trailing =
      least_is k (has n) (count_trailing_zeros k n) trailing_lt trailing_has
      (λ t l. ap (λ (x : ℕ). eqb x 1) (trailing_below k n t l))
