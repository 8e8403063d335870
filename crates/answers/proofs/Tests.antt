-- A table is tried by a computed test.
-- Assumes nothing.
use mathlib.Core.Path.{◌≡◌, refl, sym, ap, ◌∙◌, subst}
use mathlib.Core.Bool.{Bool, true, false, ◌&&◌, not}
use mathlib.Core.List.{List, [], ◌∷◌}
use lib.Dec.{T}
use Rattle.bits.proofs.SameList.{same_list, same_list_lem, list_self}
use Rattle.answers.specs.Tried.{Tried, Each}

unfoldable pub tested : List Tried → Bool
tested [] = true
tested (t ∷ l) = same_list t.answer t.right && (not (same_list t.answer t.wrong) && tested l)

pub each : (l : List Tried) → T (tested l) → Each l
unfolding tested
each [] h = tt
each (t ∷ l) h = go (same_list t.answer t.right) (same_list t.answer t.wrong) refl refl h (each l)
  where
    go : (c d : Bool) → same_list t.answer t.right ≡ c → same_list t.answer t.wrong ≡ d → T (c && (not d && tested l)) → (T (tested l) → Each l)
        → (t.answer ≡ t.right) × (t.answer ≡ t.wrong → ⊥) × Each l
    go false d q r e ih = absurd e
    go true true q r e ih = absurd e
    go true false q r e ih = (
      same_list_lem t.answer t.right (subst T (sym q) tt),
      λ same. subst T (sym (list_self t.answer) ∙ ap (same_list t.answer) same ∙ r) tt,
      ih e,
    )
