-- PEXT and PDEP in the form that proofs use: digit by digit, the last mask digit outermost, with Intel's k as `count_below`. Intel's loops give these.
-- Assumes nothing.
use Rattle.std.proofs.Common.{◌≡◌, ℕ, zero, suc, ◌+◌, ◌*◌, ◌%◌, ◌^◌, ◌<◌, min, ◌⊎◌, sym, ap, ◌∙◌, subst, ap₂, inl, inr, le_refl, le_of_suc-le-suc, not-suc-le-zero, add-zero, eq-or-lt_of_le, zero-add, zero-mul, add-one, arith, lit<}
use native.Mathlib.Nat.{mod-one, zero-min, min_comm, min-eq_left}
use Rattle.bits.specs.Set.{bit, from_bits, count_below}
use Rattle.bits.proofs.Digit.{bit_lt, over, bit_cat_at, bit_cat_low, cat_lt, mod_more, from_bits_lt, bit_from_bits}
use Rattle.bits.proofs.Count.{count_lt}

-- the digits of x at the first n digits of the mask
unfoldable pub packed : ℕ → ℕ → ℕ → ℕ
packed zero x m = zero
packed (suc n) x m = min (bit m n) (bit x n) * 2 ^ count_below m n + packed n x m

unfoldable pub spread : ℕ → ℕ → ℕ → ℕ
spread n x m = from_bits n (λ t. min (bit m t) (bit x (count_below m t)))

-- ---- one turn, at the mask's digit b and the source's digit v, with r below 2 ^ k so far

pub taken_lt : (m t v : ℕ) → min (bit m t) v < 2
taken_lt m t v = omega arith

none : (v k r : ℕ) → min zero v * 2 ^ k + r ≡ r
none v k r = ap (λ (x : ℕ). x * 2 ^ k + r) (zero-min v) ∙ ap (λ (x : ℕ). x + r) (zero-mul (2 ^ k)) ∙ zero-add r

turn_lt : (b v k r : ℕ) → b < 2 → r < 2 ^ k → min b v * 2 ^ k + r < 2 ^ (k + b)
turn_lt zero v k r h l = simp (none, add-zero) l
turn_lt (suc zero) v k r h l =
    subst (λ (x : ℕ). min 1 v * 2 ^ k + r < 2 ^ x) (sym (add-one k)) (cat_lt (min 1 v) r k (omega arith) l)
turn_lt (suc (suc b)) v k r h l = over h

-- the low digits of i, one more where the mask has the digit
turn_mod : (b i k : ℕ) → b < 2 → min b (min b (bit i k)) * 2 ^ k + i % 2 ^ k ≡ i % 2 ^ (k + b)
turn_mod zero i k h = simp (none, add-zero)
turn_mod (suc zero) i k h =
    ap (λ (x : ℕ). x * 2 ^ k + i % 2 ^ k) (once (bit i k) (bit_lt i k)) ∙ sym (mod_more i k)
    ∙ ap (λ (x : ℕ). i % 2 ^ x) (sym (add-one k))
  where
    once : (x : ℕ) → x < 2 → min 1 (min 1 x) ≡ x
    once x l = omega arith
turn_mod (suc (suc b)) i k h = over h

-- ---- laws of the two forms

pub packed_lt : (n x m : ℕ) → packed n x m < 2 ^ count_below m n
unfolding packed count_below
packed_lt zero x m = lit< tt
packed_lt (suc n) x m = turn_lt (bit m n) (bit x n) (count_below m n) (packed n x m) (bit_lt m n) (packed_lt n x m)

-- the digit that goes to the place of t
pub bit_packed : (n x m t : ℕ) → t < n → bit m t ≡ 1 → bit (packed n x m) (count_below m t) ≡ bit x t
unfolding packed
bit_packed zero x m t h e = absurd (not-suc-le-zero h)
bit_packed (suc n) x m t h e = pick (λ l. bit_packed n x m t l e) (eq-or-lt_of_le (le_of_suc-le-suc h))
  where
    d : ℕ
    d = min (bit m n) (bit x n)

    pick : (t < n → bit (packed n x m) (count_below m t) ≡ bit x t) → (t ≡ n) ⊎ (t < n) → bit (min (bit m n) (bit x n) * 2 ^ count_below m n + packed n x m) (count_below m t) ≡ bit x t
    pick ih (inl q) =
        ap (λ (z : ℕ). bit (min (bit m n) (bit x n) * 2 ^ count_below m n + packed n x m) (count_below m z)) q
        ∙ bit_cat_at (min (bit m n) (bit x n)) (packed n x m) (count_below m n) (packed_lt n x m) (taken_lt m n (bit x n))
        ∙ ap (λ (z : ℕ). min z (bit x n)) (ap (bit m) (sym q) ∙ e)
        ∙ min_comm 1 (bit x n) ∙ min-eq_left (le_of_suc-le-suc (bit_lt x n))
        ∙ ap (bit x) (sym q)
    pick ih (inr l) =
        bit_cat_low (min (bit m n) (bit x n)) (packed n x m) (count_below m n) (count_below m t) (packed_lt n x m) (count_lt m t n l e)
        ∙ ih l

-- of a source whose digits below n are those of a spread
pub packed_spread : (n x m i : ℕ) → ((t : ℕ) → t < n → bit x t ≡ min (bit m t) (bit i (count_below m t))) → packed n x m ≡ i % 2 ^ count_below m n
unfolding packed count_below
packed_spread zero x m i h = sym (mod-one i)
packed_spread (suc n) x m i h =
    ap₂ (λ (u v : ℕ). min (bit m n) u * 2 ^ count_below m n + v) (h n (le_refl (suc n))) (packed_spread n x m i (λ t l. h t (omega arith)))
    ∙ turn_mod (bit m n) i (count_below m n) (bit_lt m n)

pub spread_lt : (n x m : ℕ) → spread n x m < 2 ^ n
unfolding spread
spread_lt n x m = from_bits_lt (λ t. min (bit m t) (bit x (count_below m t))) (λ t. taken_lt m t (bit x (count_below m t))) n

pub bit_spread : (n x m t : ℕ) → t < n → bit (spread n x m) t ≡ min (bit m t) (bit x (count_below m t))
unfolding spread
bit_spread n x m t h = bit_from_bits (λ t. min (bit m t) (bit x (count_below m t))) (λ t. taken_lt m t (bit x (count_below m t))) n t h
