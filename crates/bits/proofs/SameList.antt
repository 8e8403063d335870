-- Two lists of numbers, told apart by a computed test.
-- Assumes nothing.
use Rattle.std.proofs.Common.{◌≡◌, ℕ, Bool, true, false, ◌&&◌, T, eqb, List, [], ◌∷◌, refl, ap₂, eqb→eq, eq-eqb}
use Rattle.bits.proofs.Every.{both_l, both_r}

unfoldable pub same_list : List ℕ → List ℕ → Bool
same_list [] [] = true
same_list [] (u ∷ us) = false
same_list (t ∷ ts) [] = false
same_list (t ∷ ts) (u ∷ us) = eqb t u && same_list ts us

pub same_list_lem : (l m : List ℕ) → T (same_list l m) → l ≡ m
unfolding same_list
same_list_lem [] [] h = refl
same_list_lem [] (u ∷ us) h = absurd h
same_list_lem (t ∷ ts) [] h = absurd h
same_list_lem (t ∷ ts) (u ∷ us) h = ap₂ ◌∷◌ (eqb→eq t u (both_l (eqb t u) (same_list ts us) h)) (same_list_lem ts us (both_r (eqb t u) (same_list ts us) h))

pub list_self : (l : List ℕ) → same_list l l ≡ true
unfolding same_list
list_self [] = refl
list_self (t ∷ ts) = ap₂ ◌&&◌ (eq-eqb t t refl) (list_self ts)
