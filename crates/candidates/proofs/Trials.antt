-- The trial slots, value by value: what goes in, when two clash, and the wiping.
-- Assumes nothing.
use Prim.Native.Nat.{ℕ, ◌+◌, ◌≤◌, ◌<◌}
use mathlib.Core.Path.{◌≡◌, refl, sym, ap, ap₂, ◌∙◌, subst}
use mathlib.Core.Bool.{Bool, true, false, cond, ◌||◌, true≢false}
use mathlib.Core.List.{List}
use mathlib.Core.Logic.{◌⊎◌, inl, inr}
use native.Mathlib.Omega.{arith}
use native.Mathlib.Decide.{ℕ_discrete}
use borrow.Author.Tests.{eqb-true, eqb-false}
use lib.Dec.{eqb}
use lib.ListN.{length, get_or, set, replicate, length-set, length-replicate}
use lib.Seq.{get_or-set_same, get_or-set_other}
use Rattle.std.proofs.Common.{ext_get_or}
use Rattle.bits.proofs.Shown.{get_or_same}
use Rattle.packing.specs.Pack.{agree}
use Rattle.packing.proofs.Agree.{agree_holds, agree_fails}
use Rattle.packing.proofs.Slots.{Hit, Missed, hits}
use Rattle.candidates.specs.Trial.{Rest}

-- the trial slots once n values went in: each holds its value, the others are 0
pub record Filled (slot value : ℕ → ℕ) (n : ℕ) (trial : List ℕ) : Type 0 where
  pub long : length trial ≡ 4096
  pub reached : (i : ℕ) → i < n → get_or trial (slot i) 0 ≡ value i
  pub others : (j : ℕ) → Missed slot n j → get_or trial j 0 ≡ 0

module _ (slot value : ℕ → ℕ) where
  pub filled_none : (trial : List ℕ) → trial ≡ replicate 4096 0 → Filled slot value 0 trial
  filled_none trial e =
      record {
        long = ap length e ∙ length-replicate {A = ℕ} 4096 0;
        reached = λ i l. omega arith;
        others = λ j _. ap (λ (l : List ℕ). get_or l j 0) e ∙ get_or_same 4096 0 j;
      }

  module _ (n : ℕ) (trial : List ℕ) (f : Filled slot value n trial) where
    -- one value more, at a slot that is free or holds the same
    pub filled_more : slot n < 4096 → ((i : ℕ) → i < n → value i ≡ 0 → ⊥) → (get_or trial (slot n) 0 ≡ 0) ⊎ (get_or trial (slot n) 0 ≡ value n) → Filled slot value (n + 1) (set trial (slot n) (value n))
    filled_more low some old = record { long = length-set trial (slot n) (value n) ∙ f.long; reached = λ i l. reached i l (ℕ_discrete (slot n) (slot i)); others = λ j m. get_or-set_other trial (slot n) j (value n) 0 (λ q. m n (omega arith) (sym q)) ∙ f.others j (λ i l. m i (omega arith)) }
      where
        same : (i : ℕ) → i < n → slot n ≡ slot i → value n ≡ value i
        same i l e = go old
          where
            go : (get_or trial (slot n) 0 ≡ 0) ⊎ (get_or trial (slot n) 0 ≡ value n) → value n ≡ value i
            go (inl z) = absurd (some i l (sym (f.reached i l) ∙ ap (λ (j : ℕ). get_or trial j 0) (sym e) ∙ z))
            go (inr q) = sym q ∙ ap (λ (j : ℕ). get_or trial j 0) e ∙ f.reached i l

        reached : (i : ℕ) → i < n + 1 → Dec (slot n ≡ slot i) → get_or (set trial (slot n) (value n)) (slot i) 0 ≡ value i
        reached i l (yes e) = ap (λ (j : ℕ). get_or (set trial (slot n) (value n)) j 0) (sym e) ∙ get_or-set_same trial (slot n) (value n) 0 (omega (arith, f.long)) ∙ last (ℕ_discrete i n)
          where
            last : Dec (i ≡ n) → value n ≡ value i
            last (yes q) = ap value (sym q)
            last (no g) = same i (omega (arith, g)) e
        reached i l (no g) = get_or-set_other trial (slot n) (slot i) (value n) 0 (λ q. g (sym q)) ∙ f.reached i (early (ℕ_discrete i n))
          where
            early : Dec (i ≡ n) → i < n
            early (yes q) = absurd (g (ap slot (sym q)))
            early (no q) = omega (arith, q)

    -- all went in: no two clash
    pub filled_agrees : agree n slot value ≡ true
    filled_agrees = agree_holds n slot value (λ i j l k e. sym (f.reached i l) ∙ ap (λ (x : ℕ). get_or trial x 0) e ∙ f.reached j k)

    -- value n finds another at its slot
    pub filled_clashes : (size : ℕ) → n < size → (get_or trial (slot n) 0 ≡ 0 → ⊥) → (get_or trial (slot n) 0 ≡ value n → ⊥) → agree size slot value ≡ false
    filled_clashes size l free differs = go (hits slot n (slot n))
      where
        go : Hit slot n (slot n) ⊎ Missed slot n (slot n) → agree size slot value ≡ false
        go (inr m) = absurd (free (f.others (slot n) m))
        go (inl h) =
            agree_fails size slot value h.by n (omega (arith, h.low)) l h.at
            (λ q. differs (ap (λ (x : ℕ). get_or trial x 0) (sym h.at) ∙ f.reached h.by h.low ∙ q))

  -- ---- one turn, as `enter` tells it: r is whether v went in at `at`

  module _ (n at v : ℕ) (r : Bool) (trial left : List ℕ) (ea : at ≡ slot n) (ev : v ≡ value n) (er : r ≡ (eqb (get_or trial at 0) 0 || eqb (get_or trial at 0) v)) (el : left ≡ cond r (set trial at v) trial) (f : Filled slot value n trial) where
    pub went_in : r ≡ true → at < 4096 → ((i : ℕ) → i < n → value i ≡ 0 → ⊥) → Filled slot value (n + 1) left
    went_in t low some =
        subst (Filled slot value (n + 1)) (sym (el ∙ ap (λ (c : Bool). cond c (set trial at v) trial) t ∙ ap₂ (set trial) ea ev))
        (filled_more n trial f (subst (λ (x : ℕ). x < 4096) ea low) some (go (eqb (get_or trial at 0) 0) refl (sym er ∙ t)))
      where
        go : (c : Bool) → eqb (get_or trial at 0) 0 ≡ c → (c || eqb (get_or trial at 0) v) ≡ true → (get_or trial (slot n) 0 ≡ 0) ⊎ (get_or trial (slot n) 0 ≡ value n)
        go true q h = inl (ap (λ (x : ℕ). get_or trial x 0) (sym ea) ∙ eqb-true (get_or trial at 0) 0 q)
        go false q h = inr (ap (λ (x : ℕ). get_or trial x 0) (sym ea) ∙ eqb-true (get_or trial at 0) v h ∙ ev)

    pub turn_clashes : r ≡ false → (size : ℕ) → n < size → agree size slot value ≡ false
    turn_clashes t size l = go (eqb (get_or trial at 0) 0) refl (sym er ∙ t)
      where
        go : (c : Bool) → eqb (get_or trial at 0) 0 ≡ c → (c || eqb (get_or trial at 0) v) ≡ false → agree size slot value ≡ false
        go true q h = absurd (true≢false h)
        go false q h =
            filled_clashes n trial f size l (λ e. eqb-false (get_or trial at 0) 0 q (ap (λ (x : ℕ). get_or trial x 0) ea ∙ e))
            (λ e. eqb-false (get_or trial at 0) v h (ap (λ (x : ℕ). get_or trial x 0) ea ∙ e ∙ sym ev))

-- ---- wiping

module _ (slot : ℕ → ℕ) where
  pub rest_less : (i n at : ℕ) (trial : List ℕ) → at ≡ slot i → at < 4096 → Rest slot i n trial → Rest slot (i + 1) n (set trial at 0)
  rest_less i n at trial ea low r = record { long = length-set trial at 0 ∙ r.long; free = λ j m. go j m (ℕ_discrete at j) }
    where
      later : (j k : ℕ) → ((k : ℕ) → i + 1 ≤ k → k < n → slot k ≡ j → ⊥) → i ≤ k → k < n → Dec (k ≡ i) → slot k ≡ j → (at ≡ j → ⊥) → ⊥
      later j k m h l (yes q) e g = g (ea ∙ ap slot (sym q) ∙ e)
      later j k m h l (no q) e g = m k (omega (arith, q)) l e

      go : (j : ℕ) → ((k : ℕ) → i + 1 ≤ k → k < n → slot k ≡ j → ⊥) → Dec (at ≡ j) → get_or (set trial at 0) j 0 ≡ 0
      go j m (yes e) = ap (λ (x : ℕ). get_or (set trial at 0) x 0) (sym e) ∙ get_or-set_same trial at 0 0 (omega (arith, r.long))
      go j m (no g) = get_or-set_other trial at j 0 0 (λ q. g (sym q)) ∙ r.free j (λ k h l e. later j k m h l (ℕ_discrete k i) e g)

  pub rest_none : (n : ℕ) (trial : List ℕ) → Rest slot n n trial → trial ≡ replicate 4096 0
  rest_none n trial r =
      ext_get_or 0 trial (replicate 4096 0) (r.long ∙ sym (length-replicate {A = ℕ} 4096 0))
      (λ j _. r.free j (λ k h l e. omega arith) ∙ sym (get_or_same 4096 0 j))
