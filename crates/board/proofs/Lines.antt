-- The four lines of each square, computed over the board: they are its rays, keep to the board, share no square, and but for their ends lie in the mask.
-- Assumes nothing.
use Prim.Native.Nat.{ℕ, zero, suc, ◌<◌}
use mathlib.Core.Path.{◌≡◌, subst}
use mathlib.Core.Bool.{Bool, true, false, not, ◌&&◌, ◌||◌, beq}
use mathlib.Core.List.{List, [], ◌∷◌, ◌++◌}
use Rattle.std.specs.Prelude.{Option, None, Some}
use lib.Dec.{T, ltb, ltb→lt}
use lib.ListN.{get_or}
use Rattle.bits.specs.Set.{every}
use Rattle.bits.proofs.Every.{same, is_true, is_false, both_l, both_r, every_at}
use Rattle.board.specs.Board.{on_ray, in_mask, between}
use Rattle.board.specs.Walk.{step, line}
use Rattle.board.proofs.Lists.{is_in, each, each_inner, on_board}

-- a test at every kind, square and direction
abbrev pub every_line : (ℕ → ℕ → ℕ → Bool) → Bool
every_line p = every 2 (λ k. every 64 (λ s. every 4 (λ d. p k s d)))

pub line_at : (p : ℕ → ℕ → ℕ → Bool) → T (every_line p) → (k s d : ℕ) → k < 2 → s < 64 → d < 4 → T (p k s d)
line_at p t k s d hk hs hd = every_at 4 (p k s) (every_at 64 (λ s. every 4 (p k s)) (every_at 2 (λ k. every 64 (λ s. every 4 (p k s))) t k hk) s hs) d hd

-- ---- on the board

on_board_test : T (every_line (λ k s d. on_board (line k d s)))
unfolding every line each
on_board_test = tt

pub line_on_board : (k s d : ℕ) → k < 2 → s < 64 → d < 4 → T (on_board (line k d s))
line_on_board = line_at (λ k s d. on_board (line k d s)) on_board_test

-- ---- the rays

-- t is in one of the four lines
unfoldable pub in_lines : ℕ → ℕ → ℕ → Bool
unfolding is_in
in_lines k s t = is_in t (line k 0 s) || is_in t (line k 1 s) || is_in t (line k 2 s) || is_in t (line k 3 s)

rays_test : T (every 2 (λ k. every 64 (λ s. every 64 (λ t. beq (on_ray k s t) (in_lines k s t)))))
unfolding every line in_lines on_ray
rays_test = tt

pub rays_are_lines : (k s t : ℕ) → k < 2 → s < 64 → t < 64 → on_ray k s t ≡ in_lines k s t
rays_are_lines k s t hk hs ht =
    same (on_ray k s t) (in_lines k s t) (every_at 64 _ (every_at 64 _ (every_at 2 _ rays_test k hk) s hs) t ht)

-- ---- the mask

-- a mask square, on the board
abbrev pub mask_square : ℕ → ℕ → ℕ → Bool
mask_square k s t = ltb t 64 && in_mask k s t

mask_test : T (every_line (λ k s d. each_inner (mask_square k s) (line k d s)))
unfolding every line each_inner in_mask
mask_test = tt

pub inner_in_mask : (k s d : ℕ) → k < 2 → s < 64 → d < 4 → T (each_inner (mask_square k s) (line k d s))
inner_in_mask = line_at (λ k s d. each_inner (mask_square k s) (line k d s)) mask_test

self_test : T (every 2 (λ k. every 64 (λ s. not (in_mask k s s))))
unfolding every in_mask
self_test = tt

pub self_not_in_mask : (k s : ℕ) → k < 2 → s < 64 → T (not (in_mask k s s))
self_not_in_mask k s hk hs = every_at 64 _ (every_at 2 _ self_test k hk) s hs

-- ---- no square twice

-- no square of the second list is in the first, or twice in the second
unfoldable pub apart : List ℕ → List ℕ → Bool
unfolding is_in
apart l [] = true
apart l (t ∷ ts) = not (is_in t l) && apart (t ∷ l) ts

-- the lines of the directions before d
unfoldable pub passed : ℕ → ℕ → ℕ → List ℕ
passed zero k s = []
passed (suc d) k s = line k d s ++ passed d k s

apart_test : T (every_line (λ k s d. apart (passed d k s) (line k d s)))
unfolding every line apart passed
apart_test = tt

pub lines_apart : (k s d : ℕ) → k < 2 → s < 64 → d < 4 → T (apart (passed d k s) (line k d s))
lines_apart = line_at (λ k s d. apart (passed d k s) (line k d s)) apart_test

-- ---- a square that nothing lies before

unfoldable pub near : ℕ → ℕ → ℕ
near k s = get_or (line k 0 s ++ line k 1 s ++ line k 2 s ++ line k 3 s) 0 64

pub record Near (k s t : ℕ) : Type 0 where
  pub low : t < 64
  pub on : on_ray k s t ≡ true
  pub touching : (u : ℕ) → u < 64 → between k s t u ≡ false

near_test : T (every 2 (λ k. every 64 (λ s. ltb (near k s) 64 && (on_ray k s (near k s) && every 64 (λ u. not (between k s (near k s) u))))))
unfolding every near line on_ray between
near_test = tt

pub near_is : (k s : ℕ) → k < 2 → s < 64 → Near k s (near k s)
near_is k s hk hs =
    record {
      low = ltb→lt t 64 (both_l (ltb t 64) rest all);
      on = is_true (on_ray k s t) (both_l (on_ray k s t) none (both_r (ltb t 64) rest all));
      touching = λ u h. is_false (between k s t u) (every_at 64 (λ u. not (between k s t u)) (both_r (on_ray k s t) none (both_r (ltb t 64) rest all)) u h);
    }
  where
    t : ℕ
    t = near k s

    none : Bool
    none = every 64 (λ u. not (between k s (near k s) u))

    rest : Bool
    rest = on_ray k s (near k s) && every 64 (λ u. not (between k s (near k s) u))

    all : T (ltb (near k s) 64 && (on_ray k s (near k s) && every 64 (λ u. not (between k s (near k s) u))))
    all = every_at 64 _ (every_at 2 _ near_test k hk) s hs

-- ---- a step stays on the board

abbrev low_step : Option ℕ → Bool
low_step None = true
low_step (Some t) = ltb t 64

step_test : T (every_line (λ k s d. low_step (step k d s)))
unfolding every step
step_test = tt

pub step_low : (k s d t : ℕ) → k < 2 → s < 64 → d < 4 → step k d s ≡ Some t → t < 64
step_low k s d t hk hs hd e =
    ltb→lt t 64 (subst (λ (x : Option ℕ). T (low_step x)) e (line_at (λ k s d. low_step (step k d s)) step_test k s d hk hs hd))
