-- The crate's rays, masks, directions and mask squares are ours: computed over the board.
-- Assumes nothing.
use Prim.Native.Nat.{ℕ, zero, suc, ◌<◌}
use mathlib.Core.Path.{◌≡◌}
use mathlib.Core.Bool.{Bool, ◌&&◌}
use mathlib.Core.List.{List, [], ◌∷◌}
use Rattle.std.specs.Prelude.{Option, None, Some}
use lib.Count.{count_trailing_zeros}
use lib.Dec.{T, ltb, eqb, eqb→eq}
use lib.ListN.{get_or}
use Rattle.bits.specs.Set.{has, every, count_below, count}
use Rattle.bits.proofs.SameList.{same_list, same_list_lem}
use Rattle.bits.proofs.Every.{both_l, both_r, every_at}
use Rattle.board.specs.Board.{rays, mask}
use Rattle.board.specs.Walk.{line}
use Rattle.board.specs.Crate.{get_rays, magic_mask, collect, movement, rook_directions, bishop_directions}
use Rattle.board.proofs.Lines.{every_line, line_at}

rays_test : T (every 2 (λ k. every 64 (λ s. eqb (get_rays k s) (rays k s))))
unfolding every get_rays rays
rays_test = tt

pub crate_rays : (k s : ℕ) → k < 2 → s < 64 → get_rays k s ≡ rays k s
crate_rays k s hk hs = eqb→eq (get_rays k s) (rays k s) (every_at 64 _ (every_at 2 _ rays_test k hk) s hs)

mask_test : T (every 2 (λ k. every 64 (λ s. eqb (magic_mask k s) (mask k s))))
unfolding every magic_mask mask
mask_test = tt

pub crate_mask : (k s : ℕ) → k < 2 → s < 64 → magic_mask k s ≡ mask k s
crate_mask k s hk hs = eqb→eq (magic_mask k s) (mask k s) (every_at 64 _ (every_at 2 _ mask_test k hk) s hs)

-- ---- directions

-- the squares that a loop by m visits, in at most n turns
unfoldable pub path : ℕ → (ℕ → Option ℕ) → Option ℕ → List ℕ
path zero m next = []
path (suc n) m None = []
path (suc n) m (Some s) = s ∷ path n m (m s)

-- the direction's function
unfoldable pub direction : ℕ → ℕ → ℕ → Option ℕ
direction k d = get_or (movement k) d (λ s. None)

path_test : T (every_line (λ k s d. same_list (path 64 (direction k d) (direction k d s)) (line k d s)))
unfolding every path direction rook_directions bishop_directions same_list line
path_test = tt

pub path_is_line : (k s d : ℕ) → k < 2 → s < 64 → d < 4 → path 64 (direction k d) (direction k d s) ≡ line k d s
path_is_line k s d hk hs hd =
    same_list_lem (path 64 (direction k d) (direction k d s)) (line k d s)
    (line_at (λ k s d. same_list (path 64 (direction k d) (direction k d s)) (line k d s)) path_test k s d hk hs hd)

-- ---- the squares of a mask, in the iterator's order

-- the j-th is a mask square below 64 with j mask squares below it
unfoldable nth_is : ℕ → List ℕ → ℕ → Bool
unfolding has count_below
nth_is m l j = ltb (get_or l j 64) 64 && (has m (get_or l j 64) && eqb (count_below m (get_or l j 64)) j)

nth_test : T (every 2 (λ k. every 64 (λ s. every (count (mask k s)) (nth_is (mask k s) (collect (mask k s))))))
unfolding every count mask nth_is collect count_trailing_zeros
nth_test = tt

pub record Nth (m t j : ℕ) : Type 0 where
  pub low : T (ltb t 64)
  pub inside : T (has m t)
  pub place : count_below m t ≡ j

pub nth_is_lem : (k s j : ℕ) → k < 2 → s < 64 → j < count (mask k s) → Nth (mask k s) (get_or (collect (mask k s)) j 64) j
unfolding nth_is
nth_is_lem k s j hk hs hj = record { low = both_l (ltb t 64) rest all; inside = both_l (has (mask k s) t) (eqb (count_below (mask k s) t) j) (both_r (ltb t 64) rest all); place = eqb→eq (count_below (mask k s) t) j (both_r (has (mask k s) t) (eqb (count_below (mask k s) t) j) (both_r (ltb t 64) rest all)) }
  where
    t : ℕ
    t = get_or (collect (mask k s)) j 64

    rest : Bool
    rest = has (mask k s) (get_or (collect (mask k s)) j 64) && eqb (count_below (mask k s) (get_or (collect (mask k s)) j 64)) j

    all : T (nth_is (mask k s) (collect (mask k s)) j)
    all = every_at (count (mask k s)) (nth_is (mask k s) (collect (mask k s))) (every_at 64 _ (every_at 2 _ nth_test k hk) s hs) j hj
