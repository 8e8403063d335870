-- A part of a list that was lent and came back: what the whole is then.
-- Assumes nothing.
use Rattle.std.proofs.Common.{◌≡◌, ℕ, ◌+◌, ◌<◌, ◌≤◌, List, ◌++◌, length, get_or, take, drop, sym, ap, ◌∙◌, arith, length-drop, length-take-le, get_or-drop, get_or-take, take_at}
use lib.Seq.{take-append-add}

module _ {A : Type 0} where
  pub length_part : (from size : ℕ) (l : List A) → from + size ≤ length l → length (take size (drop from l)) ≡ size
  length_part from size l h = length-take-le size (drop from l) (omega (arith, length-drop from l))

  pub get_or_part : (from size i : ℕ) (l : List A) (d : A) → i < size → get_or (take size (drop from l)) i d ≡ get_or l (from + i) d
  get_or_part from size i l d h = get_or-take size (drop from l) i d h ∙ get_or-drop from l i d

  -- the front of the whole up to the part's end
  pub take_part : (from size : ℕ) (l part rest : List A) → from ≤ length l → length part ≡ size → take (from + size) (take from l ++ (part ++ rest)) ≡ take from l ++ part
  take_part from size l part rest h e =
      ap (λ (n : ℕ). take (n + size) (take from l ++ (part ++ rest))) (sym (length-take-le from l h))
      ∙ take-append-add (take from l) (part ++ rest) size
      ∙ ap (λ (x : List A). take from l ++ x) (take_at part rest size e)
