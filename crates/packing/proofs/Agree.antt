-- Laws of `agree`: it holds exactly when values that share a slot are the same.
-- Assumes nothing.
use Prim.Native.Nat.{ℕ, ◌<◌}
use mathlib.Core.Path.{◌≡◌, sym, ap, ap₂, ◌∙◌}
use mathlib.Core.Bool.{Bool, true, false, not, ◌&&◌, true≢false}
use native.Mathlib.Decide.{ℕ_discrete}
use borrow.Author.Tests.{eq-eqb, ne_eqb}
use lib.Dec.{eqb}
use Rattle.bits.proofs.Every.{every_holds, every_fails, every_cong}
use Rattle.packing.specs.Pack.{destructive, agree}

module _ (n : ℕ) (slot value : ℕ → ℕ) where
  pub agree_holds : ((i j : ℕ) → i < n → j < n → slot i ≡ slot j → value i ≡ value j) → agree n slot value ≡ true
  unfolding agree destructive
  agree_holds h = every_holds n _ (λ i l. every_holds n _ (λ j k. go i j l k (ℕ_discrete (slot i) (slot j))))
    where
      go : (i j : ℕ) → i < n → j < n → Dec (slot i ≡ slot j) → not (destructive slot value i j) ≡ true
      go i j l k (yes e) = ap₂ (λ (x y : Bool). not (x && not y)) (eq-eqb (slot i) (slot j) e) (eq-eqb (value i) (value j) (h i j l k e))
      go i j l k (no g) = ap (λ (x : Bool). not (x && not (eqb (value i) (value j)))) (ne_eqb (slot i) (slot j) g)

  pub agree_fails : (i j : ℕ) → i < n → j < n → slot i ≡ slot j → (value i ≡ value j → ⊥) → agree n slot value ≡ false
  unfolding agree destructive
  agree_fails i j l k e g =
      every_fails n _ i l
      (every_fails n _ j k (ap₂ (λ (x y : Bool). not (x && not y)) (eq-eqb (slot i) (slot j) e) (ne_eqb (value i) (value j) g)))

  pub agree_same : agree n slot value ≡ true → (i j : ℕ) → i < n → j < n → slot i ≡ slot j → value i ≡ value j
  agree_same t i j l k e = go (ℕ_discrete (value i) (value j))
    where
      go : Dec (value i ≡ value j) → value i ≡ value j
      go (yes q) = q
      go (no g) = absurd (true≢false (sym t ∙ agree_fails i j l k e g))

-- what the slots and the values are below n decides it
pub agree_cong : (n : ℕ) (slot slot' value value' : ℕ → ℕ) → ((i : ℕ) → i < n → slot i ≡ slot' i) → ((i : ℕ) → i < n → value i ≡ value' i) → agree n slot value ≡ agree n slot' value'
unfolding agree destructive
agree_cong n slot slot' value value' s v =
    every_cong n _ _ (λ i h. every_cong n _ _ (λ j k.
    ap not (ap₂ ◌&&◌ (ap₂ eqb (s i h) (s j k)) (ap not (ap₂ eqb (v i h) (v j k))))))
