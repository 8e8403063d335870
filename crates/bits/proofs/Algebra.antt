-- Laws of AND, OR and XOR on sets of any size.
-- Assumes nothing.
use Rattle.std.proofs.Common.{◌≡◌, ℕ, zero, suc, ◌+◌, ◌^◌, ◌<◌, ◌≤◌, Bool, true, false, ◌&&◌, ◌||◌, eqb, sym, refl, ap, ◌∙◌, ap₂, pow-suc, arith, pow_pos, pow_mono, eqb-true}
use mathlib.Core.Bool.{or_assoc, and_assoc, and-false, and-or_distrib_right}
use lib.Bits.{bit_and, bit_or, and_comm, or_comm, and_zero_l, and_zero_r}
use Rattle.bits.specs.Set.{pick, has}
use Rattle.bits.proofs.Sets.{has_ext, has_and, has_or, has_pow, has_zero}

lt_pow : (n : ℕ) → n < 2 ^ n
lt_pow zero = pow_pos 0
lt_pow (suc n) = omega (arith, lt_pow n, pow-suc 2 n)

-- two numbers are equal if they have the same squares
pub has_ext_all : (a b : ℕ) → ((t : ℕ) → has a t ≡ has b t) → a ≡ b
has_ext_all a b h =
    let p : 2 ^ a ≤ 2 ^ (a + b) = pow_mono (omega arith) in
    let q : 2 ^ b ≤ 2 ^ (a + b) = pow_mono (omega arith) in
    has_ext (a + b) a b (omega (arith, lt_pow a)) (omega (arith, lt_pow b)) (λ t l. h t)

pub bit_or_assoc : (a b c : ℕ) → bit_or (bit_or a b) c ≡ bit_or a (bit_or b c)
bit_or_assoc a b c = has_ext_all _ _ (λ t. simp has_or (or_assoc (has a t) (has b t) (has c t)))

pub bit_and_assoc : (a b c : ℕ) → bit_and (bit_and a b) c ≡ bit_and a (bit_and b c)
bit_and_assoc a b c = has_ext_all _ _ (λ t. simp has_and (and_assoc (has a t) (has b t) (has c t)))

-- ---- subsets: `bit_and a m ≡ a`

pub bit_and_or : (a b c : ℕ) → bit_and (bit_or a b) c ≡ bit_or (bit_and a c) (bit_and b c)
bit_and_or a b c = has_ext_all _ _ (λ t. simp (has_or, has_and) (and-or_distrib_right (has a t) (has b t) (has c t)))

pub or_in : (a b m : ℕ) → bit_and a m ≡ a → bit_and b m ≡ b → bit_and (bit_or a b) m ≡ bit_or a b
or_in a b m p q = bit_and_or a b m ∙ ap₂ bit_or p q

-- a set takes in its subsets
pub or_absorbs : (m a : ℕ) → bit_and a m ≡ a → bit_or m a ≡ m
or_absorbs m a p = ap (bit_or m) (sym p) ∙ has_ext_all _ _ (λ t. simp (has_or, has_and) (absorb (has m t) (has a t)))
  where
    absorb : (x y : Bool) → (x || (y && x)) ≡ x
    absorb true y = refl
    absorb false y = and-false y

pub in_or_l : (a b : ℕ) → bit_and a (bit_or a b) ≡ a
in_or_l a b = has_ext_all _ _ (λ t. simp (has_or, has_and) (absorb (has a t) (has b t)))
  where
    absorb : (x y : Bool) → (x && (x || y)) ≡ x
    absorb true y = refl
    absorb false y = refl

pub in_or_r : (a b : ℕ) → bit_and b (bit_or a b) ≡ b
in_or_r a b = ap (bit_and b) (or_comm a b) ∙ in_or_l b a

pub in_trans : (a b c : ℕ) → bit_and a b ≡ a → bit_and b c ≡ b → bit_and a c ≡ a
in_trans a b c p q = ap (λ (x : ℕ). bit_and x c) (sym p) ∙ bit_and_assoc a b c ∙ ap (bit_and a) q ∙ p

-- subsets of two sets that share nothing share nothing
pub apart : (a b m r : ℕ) → bit_and a m ≡ a → bit_and b r ≡ b → bit_and m r ≡ 0 → bit_and a b ≡ 0
apart a b m r p q z =
    ap₂ bit_and (sym p) (sym q ∙ and_comm b r) ∙ bit_and_assoc a m (bit_and r b)
    ∙ ap (bit_and a) (sym (bit_and_assoc m r b) ∙ ap (λ (x : ℕ). bit_and x b) z ∙ and_zero_l b) ∙ and_zero_r a

-- ---- one square

-- AND with a square asks for it
pub and_square : (a t : ℕ) → bit_and (2 ^ t) a ≡ pick (has a t) (2 ^ t) 0
and_square a t = has_ext_all _ _ (λ u. has_and (2 ^ t) a u ∙ ap (λ (x : Bool). x && has a u) (has_pow t u) ∙ go u (eqb t u) refl (has a t) refl)
  where
    go : (u : ℕ) (m : Bool) → eqb t u ≡ m → (h : Bool) → has a t ≡ h → (m && has a u) ≡ has (pick h (2 ^ t) 0) u
    go u true e true q = sym (ap (has a) (eqb-true t u e)) ∙ q ∙ sym (has_pow t u ∙ e)
    go u true e false q = sym (ap (has a) (eqb-true t u e)) ∙ q ∙ sym (has_zero u)
    go u false e true q = sym (has_pow t u ∙ e)
    go u false e false q = sym (has_zero u)

pub test_has : (b t : ℕ) → (bit_and b (2 ^ t) ≡ 0 → ⊥) → has b t ≡ true
test_has b t f = go (has b t) refl
  where
    go : (h : Bool) → has b t ≡ h → h ≡ true
    go true e = refl
    go false e = absurd (f (and_comm b (2 ^ t) ∙ and_square b t ∙ ap (λ (x : Bool). pick x (2 ^ t) 0) e))

pub test_not : (b t : ℕ) → bit_and b (2 ^ t) ≡ 0 → has b t ≡ false
test_not b t e = go (has b t) refl
  where
    go : (h : Bool) → has b t ≡ h → h ≡ false
    go true q = absurd (some (sym (ap (λ (x : Bool). pick x (2 ^ t) 0) q) ∙ sym (and_square b t) ∙ and_comm (2 ^ t) b ∙ e))
      where
        some : 2 ^ t ≡ 0 → ⊥
        some z = omega (arith, pow_pos t)
    go false q = refl
