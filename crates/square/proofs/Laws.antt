-- Laws of squares: rank and file fix the square.
-- Assumes nothing.
use Prim.Native.Nat.{ℕ, ◌<◌}
use mathlib.Core.Path.{◌≡◌, refl}
use mathlib.Core.Bool.{Bool, true, false}
use native.Mathlib.Omega.{arith}
use borrow.Author.Tests.{ltb-false}
use lib.Dec.{ltb}
use Rattle.refusal.specs.Paper.{gives, refuse_if}
use Rattle.refusal.proofs.Said.{gives_same, gives_not}
use Rattle.square.specs.Square.{rank_of, file_of, square_of, make_square}

pub square_is : (s : ℕ) → square_of (rank_of s) (file_of s) ≡ s
square_is s = omega arith

pub rank_is : (rank file : ℕ) → file < 8 → rank_of (square_of rank file) ≡ rank
rank_is rank file h = omega arith

pub file_is : (rank file : ℕ) → file < 8 → file_of (square_of rank file) ≡ file
file_is rank file h = omega arith

-- what make_square gives is on the board
pub make_low : (rank file s : ℕ) → gives s ≡ make_square rank file → s < 64
make_low rank file s = go (ltb 7 rank) refl (ltb 7 file) refl
  where
    go : (p : Bool) → ltb 7 rank ≡ p → (q : Bool) → ltb 7 file ≡ q → gives s ≡ refuse_if p 2 (refuse_if q 2 (gives (square_of rank file))) → s < 64
    go true h q k e = absurd (gives_not e)
    go false h true k e = absurd (gives_not e)
    go false h false k e = omega (arith, gives_same e, ltb-false 7 rank h, ltb-false 7 file k)
