-- `all` over a range is `every`, and `find` over a range is `least`.
-- Assumes nothing.
use Rattle.std.proofs.Common.{◌≡◌, ℕ, zero, suc, ◌+◌, Bool, true, false, ◌&&◌, refl, sym, ap, ◌∙◌, cond, arith}
use mathlib.Core.Path.{fun_ext}
use Rattle.std.specs.Prelude.{Some, unwrap_or}
use Rattle.std.specs.List.{list_all, find, range_with_len}
use Rattle.bits.specs.Set.{every, least}

swap : (a b c : Bool) → (a && (b && c)) ≡ (b && (a && c))
swap true true c = refl
swap true false c = refl
swap false true c = refl
swap false false c = refl

every_front : (n : ℕ) (p : ℕ → Bool) → every (suc n) p ≡ (p 0 && every n (λ i. p (suc i)))
unfolding every
every_front zero p = refl
every_front (suc n) p = ap (λ (x : Bool). p (suc n) && x) (every_front n p) ∙ swap (p (suc n)) (p 0) (every n (λ i. p (suc i)))

-- the range counts on from a + 1
later : {A : Type 0} (p : ℕ → A) (a : ℕ) → ◌≡◌ {A = ℕ → A} (λ i. p (a + 1 + i)) (λ i. p (a + suc i))
later p a = fun_ext (λ i. ap p (omega arith))

all_from : (p : ℕ → Bool) (n a : ℕ) → list_all p (range_with_len a n) ≡ every n (λ i. p (a + i))
unfolding every
all_from p zero a = refl
all_from p (suc n) a =
    ap (λ (x : Bool). p a && x) (all_from p n (a + 1) ∙ ap (every n) (later p a))
    ∙ ap (λ (k : ℕ). p k && every n (λ i. p (a + suc i))) (omega arith) ∙ sym (every_front n (λ i. p (a + i)))

find_from : (p : ℕ → Bool) (n a : ℕ) → unwrap_or (find p (range_with_len a n)) (a + n) ≡ a + least n (λ i. p (a + i))
unfolding least
find_from p zero a = refl
find_from p (suc n) a = go (p a) (p (a + 0)) (ap p (omega arith)) (find_from p n (a + 1) ∙ ap (λ (f : ℕ → Bool). a + 1 + least n f) (later p a))
  where
    rest : ℕ
    rest = least n (λ i. p (a + suc i))

    go : (c d : Bool) → c ≡ d → unwrap_or (find p (range_with_len (a + 1) n)) (a + 1 + n) ≡ a + 1 + rest → unwrap_or (cond c (Some a) (find p (range_with_len (a + 1) n))) (a + suc n) ≡ a + (elim d as (λ _. ℕ) [ true ↦ zero | false ↦ suc rest ])
    go true true e h = omega arith
    go false false e h = ap (unwrap_or (find p (range_with_len (a + 1) n))) (omega arith) ∙ h ∙ omega arith
    go true false e h = cc
    go false true e h = cc

-- ---- from 0

from_0 : {A : Type 0} (p : ℕ → A) → ◌≡◌ {A = ℕ → A} (λ i. p (0 + i)) p
from_0 p = fun_ext (λ i. ap p (omega arith))

pub range_all : (p : ℕ → Bool) (n : ℕ) → list_all p (range_with_len 0 n) ≡ every n p
range_all p n = all_from p n 0 ∙ ap (every n) (from_0 p)

pub range_find : (p : ℕ → Bool) (n : ℕ) → unwrap_or (find p (range_with_len 0 n)) n ≡ least n p
range_find p n = ap (unwrap_or (find p (range_with_len 0 n))) (omega arith) ∙ find_from p n 0 ∙ ap (λ (f : ℕ → Bool). 0 + least n f) (from_0 p) ∙ omega arith
