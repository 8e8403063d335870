-- Laws of `every`: from a test that was computed over all numbers below n to the fact at each, and back.
-- Assumes nothing.
use Rattle.std.proofs.Common.{◌≡◌, ℕ, zero, suc, ◌<◌, Bool, true, false, not, ◌&&◌, ◌||◌, T, eqb, ◌⊎◌, sym, refl, ap, ◌∙◌, subst, ap₂, inl, inr, le_refl, not-suc-le-zero, arith, ne_eqb, eqb-true}
use mathlib.Core.Bool.{beq, and-true}
use borrow.Author.Tests.{eqb-false}
use Rattle.bits.specs.Set.{every}
use Rattle.bits.proofs.Below.{each_none, each_suc}

-- ---- tests

pub is_true : (b : Bool) → T b → b ≡ true
is_true true t = refl
is_true false t = absurd t

pub is_false : (b : Bool) → T (not b) → b ≡ false
is_false true t = absurd t
is_false false t = refl

pub same : (a b : Bool) → T (beq a b) → a ≡ b
same true true t = refl
same true false t = absurd t
same false true t = absurd t
same false false t = refl

pub both_l : (a b : Bool) → T (a && b) → T a
both_l true b t = tt
both_l false b t = t

pub both_r : (a b : Bool) → T (a && b) → T b
both_r true b t = t
both_r false b t = absurd t

-- one of two tests passes
pub or_split : (a b : Bool) → (a || b) ≡ true → (a ≡ true) ⊎ (b ≡ true)
or_split true b h = inl refl
or_split false b h = inr h

pub or_left : (a b : Bool) → a ≡ true → (a || b) ≡ true
or_left a b e = ap (λ (x : Bool). x || b) e

pub or_right : (a b : Bool) → b ≡ true → (a || b) ≡ true
or_right true b e = refl
or_right false b e = e

pub and_again : (a b : Bool) → ((a && b) && a) ≡ (a && b)
and_again true true = refl
and_again true false = refl
and_again false b = refl

-- ---- at every number below n

pub every_at : (n : ℕ) (p : ℕ → Bool) → T (every n p) → (i : ℕ) → i < n → T (p i)
unfolding every
every_at zero p t = each_none (λ i. T (p i))
every_at (suc n) p t = each_suc (λ i. T (p i)) n (both_l (p n) (every n p) t) (every_at n p (both_r (p n) (every n p) t))

pub every_cong : (n : ℕ) (p q : ℕ → Bool) → ((i : ℕ) → i < n → p i ≡ q i) → every n p ≡ every n q
unfolding every
every_cong zero p q h = refl
every_cong (suc n) p q h = ap₂ ◌&&◌ (h n (le_refl (suc n))) (every_cong n p q (λ i l. h i (omega arith)))

pub every_true : (n : ℕ) → every n (λ u. true) ≡ true
unfolding every
every_true zero = refl
every_true (suc n) = every_true n

pub every_and : (n : ℕ) (p q : ℕ → Bool) → every n (λ u. p u && q u) ≡ (every n p && every n q)
unfolding every
every_and zero p q = refl
every_and (suc n) p q = ap (λ (x : Bool). (p n && q n) && x) (every_and n p q) ∙ swap (p n) (q n) (every n p) (every n q)
  where
    swap : (a b c d : Bool) → ((a && b) && (c && d)) ≡ ((a && c) && (b && d))
    swap true true c d = refl
    swap true false true d = refl
    swap true false false d = refl
    swap false b c d = refl

-- a test that can fail at one number alone
pub every_one : (n t : ℕ) (f : ℕ → Bool) → t < n → every n (λ u. not (eqb t u && f u)) ≡ not (f t)
unfolding every
every_one zero t f h = absurd (not-suc-le-zero h)
every_one (suc n) t f h = go (eqb t n) refl (λ l. every_one n t f l)
  where
    go : (c : Bool) → eqb t n ≡ c → (t < n → every n (λ u. not (eqb t u && f u)) ≡ not (f t)) → (not (c && f n) && every n (λ u. not (eqb t u && f u))) ≡ not (f t)
    go true e ih =
        let q : t ≡ n = eqb-true t n e in
        ap₂ (λ (x : ℕ) (y : Bool). not (f x) && y) (sym q)
        (every_cong n (λ u. not (eqb t u && f u)) (λ u. true) (λ u l. ap (λ (x : Bool). not (x && f u)) (ne_eqb t u (λ z. omega arith))) ∙ every_true n)
        ∙ and-true (not (f t))
    go false e ih = let ne : t ≡ n → ⊥ = eqb-false t n e in ih (omega arith)

pub every_holds : (n : ℕ) (p : ℕ → Bool) → ((i : ℕ) → i < n → p i ≡ true) → every n p ≡ true
every_holds n p h = every_cong n p (λ u. true) h ∙ every_true n

pub every_fails : (n : ℕ) (p : ℕ → Bool) (i : ℕ) → i < n → p i ≡ false → every n p ≡ false
every_fails n p i l e = go (every n p) refl
  where
    go : (c : Bool) → every n p ≡ c → c ≡ false
    go true q = absurd (subst T e (every_at n p (subst T (sym q) tt) i l))
    go false q = refl
