-- A bishop's subsets, walks and slots as listed numbers, and what is read from the lists.
-- Assumes nothing.
use Prim.Native.Nat.{ℕ, ◌<◌}
use mathlib.Core.Path.{◌≡◌, sym, ap, ◌∙◌}
use mathlib.Core.List.{List}
use lib.ListN.{get_or}
use Rattle.bits.specs.Shown.{shown}
use Rattle.bits.proofs.Shown.{get_or_shown}
use Rattle.board.specs.Board.{attack}
use Rattle.board.specs.Blocks.{subset}
use Rattle.packing.specs.Pack.{agree}
use Rattle.packing.proofs.Agree.{agree_cong}
use Rattle.blocks.specs.Real.{magic_index}

-- what is listed is what the list has
pub listed : (n : ℕ) (f : ℕ → ℕ) (l : List ℕ) → shown n f ≡ l → (i : ℕ) → i < n → f i ≡ get_or l i 0
listed n f l e i h = sym (get_or_shown n i f 0 h) ∙ ap (λ (m : List ℕ). get_or m i 0) e

-- a bishop's subsets, walks and, for a multiplier, slots, as they are listed
pub record Lists (s n m : ℕ) (subsets walks slots : List ℕ) : Type 0 where
  pub subsets_are : shown n (subset 1 s) ≡ subsets
  pub walks_are : shown n (λ i. attack 1 s (get_or subsets i 0)) ≡ walks
  pub slots_are : shown n (λ i. magic_index 1 s m (get_or subsets i 0)) ≡ slots

module _ (s n m : ℕ) (subsets walks slots : List ℕ) (l : Lists s n m subsets walks slots) where
  pub walk_is : (i : ℕ) → i < n → attack 1 s (subset 1 s i) ≡ get_or walks i 0
  walk_is i h = ap (attack 1 s) (listed n (subset 1 s) subsets l.subsets_are i h) ∙ listed n (λ i. attack 1 s (get_or subsets i 0)) walks l.walks_are i h

  pub slot_is : (i : ℕ) → i < n → magic_index 1 s m (subset 1 s i) ≡ get_or slots i 0
  slot_is i h = ap (magic_index 1 s m) (listed n (subset 1 s) subsets l.subsets_are i h) ∙ listed n (λ i. magic_index 1 s m (get_or subsets i 0)) slots l.slots_are i h

  pub clean_is : agree n (λ i. magic_index 1 s m (subset 1 s i)) (λ i. attack 1 s (subset 1 s i)) ≡ agree n (λ i. get_or slots i 0) (λ i. get_or walks i 0)
  clean_is = agree_cong n _ _ _ _ slot_is walk_is
