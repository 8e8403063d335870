-- One block placed: its place, the end after it, its offset and what was taken for it; those of earlier blocks stay.
-- Assumes nothing.
use Prim.Native.Nat.{ℕ, ◌+◌, ◌≤◌, ◌<◌}
use mathlib.Core.Path.{◌≡◌, ap, ◌∙◌}
use native.Mathlib.Omega.{arith}
use Rattle.packing.specs.declared.Taken.{Taken}
use Rattle.packing.specs.Pack.{Blocks, State, place, put, next}
use Rattle.packing.proofs.Slots.{put_same, put_other}
use Rattle.packing.proofs.Places.{place_first}

module _ (B : Blocks) (n : ℕ) (s : State) where
  pub place_le : place B n s ≤ s.end
  place_le = (place_first B n s).most

  module _ (x : Taken) where
    -- the end never falls, takes the block in, and goes no further
    pub end_old : s.end ≤ (next B n s x).end
    unfolding next
    end_old = omega arith

    pub end_new : place B n s + B.size n ≤ (next B n s x).end
    unfolding next
    end_new = omega arith

    pub end_most : (k : ℕ) → s.end ≤ k → place B n s + B.size n ≤ k → (next B n s x).end ≤ k
    unfolding next
    end_most k h l = omega arith

    module _ (b : ℕ) where
      pub offset_at : b ≡ n → (next B n s x).offset b ≡ place B n s
      unfolding next
      offset_at e = ap (put n (place B n s) s.offset) e ∙ put_same n (place B n s) s.offset

      pub taken_at : b ≡ n → (next B n s x).taken b ≡ x
      unfolding next
      taken_at e = ap (put n x s.taken) e ∙ put_same n x s.taken

      pub offset_before : b < n → (next B n s x).offset b ≡ s.offset b
      unfolding next
      offset_before h = put_other n (place B n s) s.offset b (λ e. omega arith)

      pub taken_before : b < n → (next B n s x).taken b ≡ s.taken b
      unfolding next
      taken_before h = put_other n x s.taken b (λ e. omega arith)
