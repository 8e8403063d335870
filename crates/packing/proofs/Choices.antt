-- What is chosen: by a search the first passing candidate, the same within every budget that reaches it; of lent
-- multipliers one that is clean.
-- Assumes nothing.
use Prim.Native.Nat.{ℕ, ◌≤◌, ◌<◌}
use mathlib.Core.Path.{◌≡◌, refl, sym, ap, ◌∙◌, subst}
use mathlib.Core.Bool.{Bool, true, false, not, true≢false}
use mathlib.Core.Logic.{◌↔◌}
use native.Mathlib.Nat.{le_refl}
use native.Mathlib.Omega.{arith}
use native.Mathlib.Decide.{dec_lt}
use borrow.Author.Tests.{ltb-true, ltb-false, lt-ltb, le-ltb}
use lib.Dec.{T, ltb}
use Rattle.bits.specs.Set.{least}
use Rattle.bits.proofs.Every.{is_true, both_r}
use Rattle.bits.proofs.Least.{least_is, least_passes, least_before, least_none}
use Rattle.packing.specs.declared.Taken.{Taken}
use Rattle.std.specs.Prelude.{Some, None}
use Rattle.std.specs.Bool.{then_some}
use Rattle.std.proofs.lemmas.Option.{none-some}
use Rattle.packing.specs.Pack.{Blocks, passes, first_passing, taken_at, by_search, by_lent, clean}
use Rattle.packing.specs.Promised.{First, NonePasses, counted, lent_at}

-- ---- the first of any candidates that pass a test

module _ (candidate : ℕ → ℕ) (budget : ℕ) (p : ℕ → Bool) where
  -- candidate i passes, and none before it
  pub taken_first : (i : ℕ) → i < budget → p i ≡ true → ((j : ℕ) → j < i → p j ≡ false) → taken_at candidate budget (least budget p) ≡ Some (counted candidate i)
  unfolding taken_at
  taken_first i l t h =
      ap (taken_at candidate budget) (least_is budget p i l t h)
      ∙ ap (λ (c : Bool). then_some c (counted candidate i)) (lt-ltb i budget l)

  -- none within the budget passes
  pub taken_none : ((j : ℕ) → j < budget → p j ≡ false) → taken_at candidate budget (least budget p) ≡ None
  unfolding taken_at
  taken_none h =
      ap (taken_at candidate budget) (least_none budget p h)
      ∙ ap (λ (c : Bool). then_some c (counted candidate budget)) (le-ltb budget budget (le_refl budget))

  -- and then only
  pub none_taken : taken_at candidate budget (least budget p) ≡ None → (j : ℕ) → j < budget → p j ≡ false
  unfolding taken_at
  none_taken e j h = least_before budget p j (go (ltb (least budget p) budget) refl e)
    where
      go : (t : Bool) → ltb (least budget p) budget ≡ t → then_some t (counted candidate (least budget p)) ≡ None → j < least budget p
      go true q n = absurd (none-some _ (sym n))
      go false q n = omega (arith, ltb-false (least budget p) budget q)

-- ---- a search

module _ (B : Blocks) (candidate : ℕ → ℕ) where
  -- what was taken in a search
  pub record Found (budget b : ℕ) (x : Taken) : Type 0 where
    pub first : First B candidate budget b (first_passing B candidate budget b)
    pub is : x ≡ counted candidate (first_passing B candidate budget b)

  pub found : (k b : ℕ) (x : Taken) → by_search B candidate k b ≡ Some x → Found k b x
  unfolding by_search taken_at first_passing
  found k b x e = go (ltb (first_passing B candidate k b) k) refl e
    where
      go : (t : Bool) → ltb (first_passing B candidate k b) k ≡ t → then_some t (counted candidate (first_passing B candidate k b)) ≡ Some x → Found k b x
      go true h q =
          let l : first_passing B candidate k b < k = ltb-true _ k h in
          record {
            first = record { within = l; passing = least_passes k (λ i. passes B b (candidate i)) l; none_before = least_before k (λ i. passes B b (candidate i)) };
            is = cc;
          }
      go false h q = absurd (none-some _ q)

  pub finds : (k b p : ℕ) → First B candidate k b p → by_search B candidate k b ≡ Some (counted candidate p)
  unfolding by_search first_passing
  finds k b p f = taken_first candidate k (λ i. passes B b (candidate i)) p f.within f.passing f.none_before

  -- "budget spent, none passed": nothing is found exactly when no candidate within the budget passes
  pub search_none : (k b : ℕ) → (by_search B candidate k b ≡ None) ↔ NonePasses B candidate k b
  unfolding by_search first_passing
  search_none k b = (none_taken candidate k (λ i. passes B b (candidate i)), taken_none candidate k (λ i. passes B b (candidate i)))

  -- there is one first, whatever the budget
  pub one_first : (k k' b p p' : ℕ) → First B candidate k b p → First B candidate k' b p' → p ≡ p'
  one_first k k' b p p' f f' = go (dec_lt p p') (dec_lt p' p)
    where
      go : Dec (p < p') → Dec (p' < p) → p ≡ p'
      go (yes l) d = absurd (true≢false (sym f.passing ∙ f'.none_before p l))
      go (no g) (yes l) = absurd (true≢false (sym f'.passing ∙ f.none_before p' l))
      go (no g) (no h) = omega arith

  pub search_within : (k b : ℕ) (x : Taken) → by_search B candidate k b ≡ Some x → x.count ≤ k
  search_within k b x e = let f = found k b x e in omega (arith, f.first.within, ap (λ (y : Taken). y.count) f.is)

  -- a budget that reaches the attempt count is enough
  pub search_more : (k k' b : ℕ) (x : Taken) → by_search B candidate k b ≡ Some x → x.count ≤ k' → by_search B candidate k' b ≡ Some x
  search_more k k' b x e h =
      let f = found k b x e in
      finds k' b (first_passing B candidate k b)
      (record { within = omega (arith, ap (λ (y : Taken). y.count) f.is); passing = f.first.passing; none_before = f.first.none_before })
      ∙ ap Some (sym f.is)

  pub search_agrees : (k k' b : ℕ) (x x' : Taken) → by_search B candidate k b ≡ Some x → by_search B candidate k' b ≡ Some x' → x ≡ x'
  search_agrees k k' b x x' e e' =
      let f = found k b x e in
      let f' = found k' b x' e' in
      f.is ∙ ap (counted candidate) (one_first k k' b _ _ f.first f'.first) ∙ sym f'.is

  -- what passes is clean
  pub search_clean : (k b : ℕ) (x : Taken) → by_search B candidate k b ≡ Some x → clean B b x.multiplier ≡ true
  unfolding passes
  search_clean k b x e =
      let f = found k b x e in
      let m : ℕ = candidate (first_passing B candidate k b) in
      ap (λ (y : Taken). clean B b y.multiplier) f.is ∙ is_true (clean B b m) (both_r (not (B.skipped b m)) (clean B b m) (subst T (sym f.first.passing) tt))

-- ---- lent multipliers

module _ (B : Blocks) (lent : ℕ → ℕ) where
  -- "lent multiplier collides": it is not taken exactly then
  pub lent_none : (b : ℕ) → (by_lent B lent b ≡ None) ↔ (clean B b (lent b) ≡ false)
  unfolding by_lent
  lent_none b = (λ e. go (clean B b (lent b)) e, λ h. ap (λ (t : Bool). then_some t (lent_at lent b)) h)
    where
      go : (t : Bool) → then_some t (lent_at lent b) ≡ None → t ≡ false
      go true e = absurd (none-some _ (sym e))
      go false e = refl

  pub lent_finds : (b : ℕ) → clean B b (lent b) ≡ true → by_lent B lent b ≡ Some (lent_at lent b)
  unfolding by_lent
  lent_finds b h = cc

  pub lent_found : (b : ℕ) (x : Taken) → by_lent B lent b ≡ Some x → (clean B b (lent b) ≡ true) × (x ≡ lent_at lent b)
  unfolding by_lent
  lent_found b x e = go (clean B b (lent b)) refl e
    where
      go : (t : Bool) → clean B b (lent b) ≡ t → then_some t (lent_at lent b) ≡ Some x → (t ≡ true) × (x ≡ lent_at lent b)
      go true h q = (refl, (cc))
      go false h q = absurd (none-some _ q)

  pub lent_clean : (b : ℕ) (x : Taken) → by_lent B lent b ≡ Some x → clean B b x.multiplier ≡ true
  lent_clean b x e = let f = lent_found b x e in ap (λ (y : Taken). clean B b y.multiplier) f.1 ∙ f.0
