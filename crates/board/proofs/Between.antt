-- What stands before a square on its line is what lies strictly between it and s: the one long test, over kinds, squares, lines and the squares on them.
-- Assumes nothing.
use Prim.Native.Nat.{ℕ, ◌<◌}
use mathlib.Core.Path.{◌≡◌, ap, ◌∙◌}
use mathlib.Core.Bool.{Bool, true, not, ◌&&◌, beq}
use mathlib.Core.List.{List}
use lib.Dec.{T}
use Rattle.bits.specs.Set.{has, every}
use Rattle.bits.proofs.Every.{same, every_at, every_cong}
use Rattle.board.specs.Board.{between, clear}
use Rattle.board.specs.Walk.{line}
use Rattle.board.proofs.Lists.{is_in, before, each, free, each_at, every_before}
use Rattle.board.proofs.Lines.{every_line, line_at, line_on_board}

-- at one square t of a line
unfoldable between_is : ℕ → ℕ → List ℕ → ℕ → Bool
unfolding is_in before between every
between_is k s l t = every 64 (λ u. beq (between k s t u) (is_in u (before t l)))

test : T (every_line (λ k s d. each (between_is k s (line k d s)) (line k d s)))
unfolding every line each between_is
test = tt

module _ (k s d t : ℕ) (hk : k < 2) (hs : s < 64) (hd : d < 4) (on : is_in t (line k d s) ≡ true) where
  pub between_before : (u : ℕ) → u < 64 → between k s t u ≡ is_in u (before t (line k d s))
  unfolding between_is
  between_before u h =
      same (between k s t u) (is_in u (before t (line k d s)))
      (every_at 64 (λ u. beq (between k s t u) (is_in u (before t (line k d s))))
      (each_at (between_is k s (line k d s)) t (line k d s) (line_at (λ k s d. each (between_is k s (line k d s)) (line k d s)) test k s d hk hs hd) on)
      u h)

  -- no blocker between is no blocker before
  pub clear_before : (b : ℕ) → clear k s b t ≡ free b (before t (line k d s))
  unfolding clear
  clear_before b =
      every_cong 64 (λ u. not (between k s t u && has b u)) (λ u. not (is_in u (before t (line k d s)) && has b u))
      (λ u h. ap (λ (x : Bool). not (x && has b u)) (between_before u h))
      ∙ every_before b t (line k d s) (line_on_board k s d hk hs hd)
