-- Laws of sets: which squares AND, OR, XOR, one square and `set_of` have, and equality square by square.
-- Assumes nothing.
use Rattle.std.proofs.Common.{◌≡◌, ℕ, zero, suc, ◌+◌, ◌*◌, ◌/◌, ◌%◌, ◌^◌, ◌<◌, min, max, Bool, true, false, ◌&&◌, ◌||◌, eqb, sym, refl, ap, ◌∙◌, le_refl, lt_of_le_of_lt, add-zero, one-mul, arith, lit<, pow_pos, eq-eqb, ne_eqb}
use mathlib.Core.Bool.{xor}
use native.Mathlib.Nat.{min-le_left}
use native.Mathlib.Decide.{dec_lt, ℕ_discrete}
use lib.Arith.{digits_mod}
use lib.Pow.{pow-lt}
use lib.Bits.{bit_and, bit_or, bit_xor, differ, and_step, or_step, xor_step, and_shr, or_shr, xor_shr}
use Rattle.bits.specs.Set.{bit, has, digit, set_of}
use Rattle.bits.proofs.Digit.{bit_lt, over, bit_past, bit_of_zero, bit_cat_at, bit_cat_low, ext, from_bits_lt, bit_from_bits}

-- ---- a digit as a test

pub digit_lt : (b : Bool) → digit b < 2
digit_lt true = lit< tt
digit_lt false = lit< tt

pub digit_has : (n t : ℕ) → digit (has n t) ≡ bit n t
unfolding has
digit_has n t = go (bit n t) (bit_lt n t)
  where
    go : (x : ℕ) → x < 2 → digit (eqb x 1) ≡ x
    go zero h = refl
    go (suc zero) h = refl
    go (suc (suc x)) h = over h

pub bit_has : (n t : ℕ) → has n t ≡ true → bit n t ≡ 1
bit_has n t e = sym (digit_has n t) ∙ ap digit e

pub has_ext : (k a b : ℕ) → a < 2 ^ k → b < 2 ^ k → ((t : ℕ) → t < k → has a t ≡ has b t) → a ≡ b
has_ext k a b ha hb h = ext k a b ha hb (λ t l. sym (digit_has a t) ∙ ap digit (h t l) ∙ digit_has b t)

pub has_zero : (t : ℕ) → has zero t ≡ false
unfolding has
has_zero t = ap (λ (x : ℕ). eqb x 1) (bit_of_zero t)

-- ---- the three operations, digit by digit

pub bit_of_and : (a b t : ℕ) → bit (bit_and a b) t ≡ min (bit a t) (bit b t)
bit_of_and a b t =
    ap (λ (x : ℕ). x % 2) (and_shr a b t ∙ and_step (a / 2 ^ t) (b / 2 ^ t))
    ∙ digits_mod (bit_and (a / 2 ^ t / 2) (b / 2 ^ t / 2)) (lt_of_le_of_lt (min-le_left (bit a t) (bit b t)) (bit_lt a t))

bit_of_or : (a b t : ℕ) → bit (bit_or a b) t ≡ max (bit a t) (bit b t)
bit_of_or a b t =
    ap (λ (x : ℕ). x % 2) (or_shr a b t ∙ or_step (a / 2 ^ t) (b / 2 ^ t))
    ∙ digits_mod (bit_or (a / 2 ^ t / 2) (b / 2 ^ t / 2)) (max_lt (bit a t) (bit b t) (bit_lt a t) (bit_lt b t))
  where
    max_lt : (x y : ℕ) → x < 2 → y < 2 → max x y < 2
    max_lt x y h k = omega arith

bit_of_xor : (a b t : ℕ) → bit (bit_xor a b) t ≡ differ (bit a t) (bit b t)
bit_of_xor a b t =
    ap (λ (x : ℕ). x % 2) (xor_shr a b t ∙ xor_step (a / 2 ^ t) (b / 2 ^ t))
    ∙ digits_mod (bit_xor (a / 2 ^ t / 2) (b / 2 ^ t / 2)) (differ_lt (bit a t) (bit b t) (bit_lt a t) (bit_lt b t))
  where
    differ_lt : (x y : ℕ) → x < 2 → y < 2 → differ x y < 2
    differ_lt zero y h k = k
    differ_lt (suc x) zero h k = h
    differ_lt (suc x) (suc y) h k = differ_lt x y (omega arith) (omega arith)

-- a law of two digits, by the four cases
pub two : (f g : ℕ → ℕ → Bool) → f 0 0 ≡ g 0 0 → f 0 1 ≡ g 0 1 → f 1 0 ≡ g 1 0 → f 1 1 ≡ g 1 1 → (a b t : ℕ) → f (bit a t) (bit b t) ≡ g (bit a t) (bit b t)
two f g p q r s a b t = go (bit a t) (bit b t) (bit_lt a t) (bit_lt b t)
  where
    go : (x y : ℕ) → x < 2 → y < 2 → f x y ≡ g x y
    go zero zero h k = p
    go zero (suc zero) h k = q
    go (suc zero) zero h k = r
    go (suc zero) (suc zero) h k = s
    go (suc (suc x)) y h k = over h
    go zero (suc (suc y)) h k = over k
    go (suc zero) (suc (suc y)) h k = over k

pub has_and : (a b t : ℕ) → has (bit_and a b) t ≡ (has a t && has b t)
unfolding has
has_and a b t =
    ap (λ (x : ℕ). eqb x 1) (bit_of_and a b t)
    ∙ two (λ x y. eqb (min x y) 1) (λ x y. eqb x 1 && eqb y 1) refl refl refl refl a b t

pub has_or : (a b t : ℕ) → has (bit_or a b) t ≡ (has a t || has b t)
unfolding has
has_or a b t =
    ap (λ (x : ℕ). eqb x 1) (bit_of_or a b t)
    ∙ two (λ x y. eqb (max x y) 1) (λ x y. eqb x 1 || eqb y 1) refl refl refl refl a b t

pub has_xor : (a b t : ℕ) → has (bit_xor a b) t ≡ xor (has a t) (has b t)
unfolding has xor
has_xor a b t =
    ap (λ (x : ℕ). eqb x 1) (bit_of_xor a b t)
    ∙ two (λ x y. eqb (differ x y) 1) (λ x y. xor (eqb x 1) (eqb y 1)) refl refl refl refl a b t

-- ---- one square

pub has_pow : (u t : ℕ) → has (2 ^ u) t ≡ eqb u t
unfolding has
has_pow u t = ap (λ (x : ℕ). eqb (bit x t) 1) one ∙ go (ℕ_discrete u t) (dec_lt t u)
  where
    one : 2 ^ u ≡ 1 * 2 ^ u + 0
    one = sym (one-mul (2 ^ u)) ∙ sym (add-zero (1 * 2 ^ u))

    go : Dec (u ≡ t) → Dec (t < u) → eqb (bit (1 * 2 ^ u + 0) t) 1 ≡ eqb u t
    go (yes e) d =
        ap (λ (x : ℕ). eqb (bit (1 * 2 ^ u + 0) x) 1) (sym e)
        ∙ ap (λ (x : ℕ). eqb x 1) (bit_cat_at 1 0 u (pow_pos u) (lit< tt)) ∙ sym (eq-eqb u t e)
    go (no f) (yes l) =
        ap (λ (x : ℕ). eqb x 1) (bit_cat_low 1 0 u t (pow_pos u) l ∙ bit_of_zero t) ∙ sym (ne_eqb u t f)
    go (no f) (no g) =
        ap (λ (x : ℕ). eqb (bit x t) 1) (sym one)
        ∙ ap (λ (x : ℕ). eqb x 1) (bit_past (2 ^ u) (suc u) t (pow-lt (le_refl (suc u))) (omega arith)) ∙ sym (ne_eqb u t f)

-- ---- the set of a test

pub set_of_lt : (p : ℕ → Bool) → set_of p < 2 ^ 64
unfolding set_of
set_of_lt p = from_bits_lt (λ t. digit (p t)) (λ t. digit_lt (p t)) 64

pub has_set_of : (p : ℕ → Bool) (t : ℕ) → t < 64 → has (set_of p) t ≡ p t
unfolding set_of has
has_set_of p t h = ap (λ (x : ℕ). eqb x 1) (bit_from_bits (λ t. digit (p t)) (λ t. digit_lt (p t)) 64 t h) ∙ go (p t)
  where
    go : (b : Bool) → eqb (digit b) 1 ≡ b
    go true = refl
    go false = refl

-- a set below 2 ^ 64 is the set of a test that says which squares it has
pub is_set_of : (n : ℕ) (p : ℕ → Bool) → n < 2 ^ 64 → ((t : ℕ) → t < 64 → has n t ≡ p t) → n ≡ set_of p
is_set_of n p h e = has_ext 64 n (set_of p) h (set_of_lt p) (λ t l. e t l ∙ sym (has_set_of p t l))
