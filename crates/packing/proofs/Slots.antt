-- What a slot holds after values were ORed into slots, and a function after one value was put.
-- Assumes nothing.
use Prim.Native.Nat.{ℕ, zero, suc, ◌+◌, ◌<◌}
use mathlib.Core.Path.{◌≡◌, refl, sym, ap, ap₂, ◌∙◌}
use mathlib.Core.Bool.{Bool, true, false, cond}
use mathlib.Core.Logic.{◌⊎◌, inl, inr}
use native.Mathlib.Nat.{not-suc-le-zero, le_refl, le_of_suc-le-suc, eq-or-lt_of_le}
use native.Mathlib.Omega.{arith}
use native.Mathlib.Decide.{dec_lt, ℕ_discrete}
use borrow.Author.Tests.{eqb-true, eqb-false, eq-eqb, ne_eqb}
use lib.Bits.{bit_or, or_self}
use lib.Dec.{eqb}
use Rattle.bits.specs.Set.{pick, least}
use Rattle.bits.proofs.Algebra.{bit_or_assoc}
use Rattle.bits.proofs.Least.{least_passes, least_before}
use Rattle.packing.specs.Pack.{or_into, put}

pub put_same : {A : Type 0} (i : ℕ) (v : A) (f : ℕ → A) → put i v f i ≡ v
unfolding put
put_same i v f = ap (λ (x : Bool). cond x v (f i)) (eq-eqb i i refl)

pub put_other : {A : Type 0} (i : ℕ) (v : A) (f : ℕ → A) (j : ℕ) → (i ≡ j → ⊥) → put i v f j ≡ f j
unfolding put
put_other i v f j h = ap (λ (x : Bool). cond x v (f j)) (ne_eqb i j h)

pub put_map : {A B : Type 0} (g : A → B) (i : ℕ) (v : A) (f : ℕ → A) (j : ℕ) → g (put i v f j) ≡ put i (g v) (λ k. g (f k)) j
unfolding put
put_map g i v f j = go (eqb i j)
  where
    go : (c : Bool) → g (cond c v (f j)) ≡ cond c (g v) (g (f j))
    go true = refl
    go false = refl

-- ---- the slots of i below n

-- slot j is one of them, or none
pub record Hit (slot : ℕ → ℕ) (n j : ℕ) : Type 0 where
  pub by : ℕ
  pub low : by < n
  pub at : slot by ≡ j

abbrev pub Missed : (ℕ → ℕ) → ℕ → ℕ → Type 0
Missed slot n j = (i : ℕ) → i < n → slot i ≡ j → ⊥

pub hits : (slot : ℕ → ℕ) (n j : ℕ) → Hit slot n j ⊎ Missed slot n j
hits slot n j = go (dec_lt (least n (λ i. eqb (slot i) j)) n)
  where
    go : Dec (least n (λ i. eqb (slot i) j) < n) → Hit slot n j ⊎ Missed slot n j
    go (yes l) = inl (record { by = least n (λ i. eqb (slot i) j); low = l; at = eqb-true _ j (least_passes n (λ i. eqb (slot i) j) l) })
    go (no f) = inr (λ i l. eqb-false (slot i) j (least_before n (λ i. eqb (slot i) j) i (omega arith)))

pick_false : (c : Bool) (a b : ℕ) → c ≡ false → pick c a b ≡ b
pick_false c a b e = ap (λ (x : Bool). pick x a b) e

module _ (slot value : ℕ → ℕ) (j old : ℕ) where
  pub or_missed : (n : ℕ) → Missed slot n j → or_into slot value n j old ≡ old
  unfolding or_into
  or_missed zero h = refl
  or_missed (suc n) h = pick_false (eqb (slot n) j) _ (or_into slot value n j old) (ne_eqb (slot n) j (h n (omega arith))) ∙ or_missed n (λ i l. h i (omega arith))

  -- counted from p on
  pub or_shift : (p n : ℕ) → or_into (λ i. p + slot i) value n (p + j) old ≡ or_into slot value n j old
  unfolding or_into
  or_shift p zero = refl
  or_shift p (suc n) = ap₂ (λ (c : Bool) (x : ℕ). pick c (bit_or x (value n)) x) (same (ℕ_discrete (slot n) j)) (or_shift p n)
    where
      same : Dec (slot n ≡ j) → eqb (p + slot n) (p + j) ≡ eqb (slot n) j
      same (yes e) = eq-eqb (p + slot n) (p + j) (ap (λ (x : ℕ). p + x) e) ∙ sym (eq-eqb (slot n) j e)
      same (no g) = ne_eqb (p + slot n) (p + j) (λ e. g (omega arith)) ∙ sym (ne_eqb (slot n) j g)

  -- all that is ORed into slot j is w
  module _ (w : ℕ) where
    -- one value more
    abbrev more : Bool → ℕ → ℕ
    more c n = pick c (bit_or (or_into slot value n j old) (value n)) (or_into slot value n j old)

    again : (n : ℕ) → ((i : ℕ) → i < n → slot i ≡ j → value i ≡ w) → bit_or (or_into slot value n j old) w ≡ bit_or old w
    unfolding or_into
    again zero h = refl
    again (suc n) h = go (eqb (slot n) j) refl (again n (λ i l. h i (omega arith)))
      where
        go : (c : Bool) → eqb (slot n) j ≡ c → bit_or (or_into slot value n j old) w ≡ bit_or old w → bit_or (more c n) w ≡ bit_or old w
        go true q ih =
            bit_or_assoc (or_into slot value n j old) (value n) w
            ∙ ap (bit_or (or_into slot value n j old)) (ap (λ (x : ℕ). bit_or x w) (h n (le_refl (suc n)) (eqb-true (slot n) j q)) ∙ or_self w)
            ∙ ih
        go false q ih = ih

    pub or_hit : (n : ℕ) → ((i : ℕ) → i < n → slot i ≡ j → value i ≡ w) → Hit slot n j → or_into slot value n j old ≡ bit_or old w
    unfolding or_into
    or_hit zero h a = absurd (not-suc-le-zero a.low)
    or_hit (suc n) h a = go (eqb (slot n) j) refl (eq-or-lt_of_le (le_of_suc-le-suc a.low)) (or_hit n (λ i l. h i (omega arith)))
      where
        go : (c : Bool) → eqb (slot n) j ≡ c → (a.by ≡ n) ⊎ (a.by < n) → (Hit slot n j → or_into slot value n j old ≡ bit_or old w) → more c n ≡ bit_or old w
        go true q d ih = ap (bit_or (or_into slot value n j old)) (h n (le_refl (suc n)) (eqb-true (slot n) j q)) ∙ again n (λ i l. h i (omega arith))
        go false q (inl e) ih = absurd (eqb-false (slot n) j q (ap slot (sym e) ∙ a.at))
        go false q (inr l) ih = ih (record { by = a.by; low = l; at = a.at })
