-- Laws of the digits of a number: shifts, remainders, joining, and equality digit by digit.
-- Assumes nothing.
use Rattle.std.proofs.Common.{◌≡◌, ℕ, zero, suc, ◌+◌, ◌-◌, ◌*◌, ◌/◌, ◌%◌, ◌^◌, ◌<◌, ◌≤◌, ◌⊎◌, sym, ap, ◌∙◌, subst, ap₂, inl, inr, zero-le, le_refl, lt_of_lt_of_le, le_of_suc-le-suc, not-suc-le-zero, mod-lt, mod-eq_of_lt, zero-lt-suc, eq-or-lt_of_le, one-mul, div-one, one-add, arith, lit<, pow_mono, pow-add, shl_exact, shr-shr, shr_lt}
use native.Mathlib.Nat.{div-eq_of_lt}
use lib.Arith.{lt-one, digits_lt}
use lib.Pow.{high, low, mod-pow-add, mod-mod-pow, field}
use Rattle.bits.specs.Set.{bit, from_bits}

pub bit_lt : (n t : ℕ) → bit n t < 2
bit_lt n t = mod-lt (n / 2 ^ t) (zero-lt-suc 1)

-- the third clause of a split on a digit
pub over : {A : Type 0} {x : ℕ} → suc (suc x) < 2 → A
over h = absurd (not-suc-le-zero (le_of_suc-le-suc (le_of_suc-le-suc h)))

-- ---- shifts and remainders

pub bit_shr : (n k t : ℕ) → bit (n / 2 ^ k) t ≡ bit n (k + t)
bit_shr n k t = ap (λ (x : ℕ). x % 2) (shr-shr n k t)

pub bit_zero : (n : ℕ) → bit n zero ≡ n % 2
bit_zero n = ap (λ (x : ℕ). x % 2) (div-one n)

pub bit_half : (n t : ℕ) → bit (n / 2) t ≡ bit n (suc t)
bit_half n t = bit_shr n 1 t ∙ ap (bit n) (one-add t)

-- what a shift by k leaves of w digits
pub shr_within : (w j k n : ℕ) → n < 2 ^ w → w ≤ j + k → n / 2 ^ k < 2 ^ j
shr_within w j k n h l = shr_lt j k (lt_of_lt_of_le h (pow_mono l))

-- past the number's length
pub bit_past : (n k t : ℕ) → n < 2 ^ k → k ≤ t → bit n t ≡ zero
bit_past n k t h l = ap (λ (x : ℕ). x % 2) (div-eq_of_lt (lt_of_lt_of_le h (pow_mono l)))

pub bit_of_zero : (t : ℕ) → bit zero t ≡ zero
bit_of_zero t = bit_past zero zero t (lit< tt) zero-le

bit_mod : (n k t : ℕ) → t < k → bit (n % 2 ^ k) t ≡ bit n t
bit_mod n k t h =
    let e : k ≡ (k - suc t + 1) + t = omega arith in
    ap (λ (x : ℕ). bit (n % 2 ^ x) t) e ∙ ap (λ (x : ℕ). x % 2) (field n (k - suc t + 1) t)
    ∙ mod-mod-pow (n / 2 ^ t) (k - suc t) 1

-- one more digit of a remainder
pub mod_more : (n k : ℕ) → n % 2 ^ suc k ≡ bit n k * 2 ^ k + n % 2 ^ k
mod_more n k = ap (λ (x : ℕ). n % 2 ^ x) (sym (one-add k)) ∙ mod-pow-add n 1 k

-- ---- d above k low digits r

pub bit_cat_low : (d r k t : ℕ) → r < 2 ^ k → t < k → bit (d * 2 ^ k + r) t ≡ bit r t
bit_cat_low d r k t h l = sym (bit_mod (d * 2 ^ k + r) k t l) ∙ ap (λ (x : ℕ). bit x t) (low d k h)

pub bit_cat_at : (d r k : ℕ) → r < 2 ^ k → d < 2 → bit (d * 2 ^ k + r) k ≡ d
bit_cat_at d r k h l = ap (λ (x : ℕ). x % 2) (high d k h) ∙ mod-eq_of_lt l

pub cat_lt : (d r k : ℕ) → d < 2 → r < 2 ^ k → d * 2 ^ k + r < 2 ^ suc k
cat_lt d r k h l =
    subst (λ (x : ℕ). d * 2 ^ k + r < x) (sym (pow-add 2 1 k) ∙ ap (λ (x : ℕ). 2 ^ x) (one-add k)) (digits_lt h l)

-- ---- two numbers of k digits are equal if their digits are

pub ext : (k a b : ℕ) → a < 2 ^ k → b < 2 ^ k → ((t : ℕ) → t < k → bit a t ≡ bit b t) → a ≡ b
ext k a b ha hb h = sym (mod-eq_of_lt ha) ∙ go k (le_refl k) ∙ mod-eq_of_lt hb
  where
    go : (j : ℕ) → j ≤ k → a % 2 ^ j ≡ b % 2 ^ j
    go zero l = lt-one (mod-lt a (lit< tt)) ∙ sym (lt-one (mod-lt b (lit< tt)))
    go (suc j) l = mod_more a j ∙ ap₂ (λ (x y : ℕ). x * 2 ^ j + y) (h j l) (go j (omega arith)) ∙ sym (mod_more b j)

-- ---- the number whose digits are given

module _ (f : ℕ → ℕ) (digit : (t : ℕ) → f t < 2) where
  pub from_bits_lt : (k : ℕ) → from_bits k f < 2 ^ k
  unfolding from_bits
  from_bits_lt zero = lit< tt
  from_bits_lt (suc k) = cat_lt (f k) (from_bits k f) k (digit k) (from_bits_lt k)

  pub bit_from_bits : (k t : ℕ) → t < k → bit (from_bits k f) t ≡ f t
  unfolding from_bits
  bit_from_bits zero t h = absurd (not-suc-le-zero h)
  bit_from_bits (suc k) t h = pick (bit_from_bits k t) (eq-or-lt_of_le (le_of_suc-le-suc h))
    where
      pick : (t < k → bit (from_bits k f) t ≡ f t) → (t ≡ k) ⊎ (t < k) → bit (f k * 2 ^ k + from_bits k f) t ≡ f t
      pick ih (inl e) =
          ap (bit (f k * 2 ^ k + from_bits k f)) e
          ∙ bit_cat_at (f k) (from_bits k f) k (from_bits_lt k) (digit k) ∙ ap f (sym e)
      pick ih (inr l) = bit_cat_low (f k) (from_bits k f) k t (from_bits_lt k) l ∙ ih l

-- `1 << t`
pub shl_one : (t : ℕ) → t < 64 → 1 * 2 ^ t % 2 ^ 64 ≡ 2 ^ t
shl_one t h = shl_exact 1 t 64 (lit< tt) (omega arith) ∙ one-mul (2 ^ t)

-- a shift by the width or more leaves nothing
pub shifted_out : (x n : ℕ) → x < 2 ^ 64 → 64 ≤ n → x / 2 ^ n ≡ 0
shifted_out x n h l = div-eq_of_lt (lt_of_lt_of_le h (pow_mono l))
