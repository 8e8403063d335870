-- Rays, masks and attack sets. 01, "The board". Kind 0 is rook, 1 is bishop.
use Rattle.std.specs.Prelude.{ℕ, zero, suc, ◌+◌, ◌-◌, min, max, Bool, not, ◌&&◌, ◌||◌, leb, ltb, eqb}
use Rattle.refusal.specs.Paper.{Said, refuse_if}
use Rattle.bits.specs.Set.{has, set_of, every}
use Rattle.square.specs.Square.{rank_of, file_of}

unfoldable pub dist : ℕ → ℕ → ℕ
dist a b = (a - b) + (b - a)

-- "Rays: rook, same rank or file, not s; bishop, equal rank and file distance, not s." (FIDE Laws 3.3 and 3.2: the
-- file or the rank, and the diagonals, on which the piece stands)
unfoldable pub aligned : ℕ → ℕ → ℕ → Bool
unfolding dist
aligned zero s t = eqb (rank_of s) (rank_of t) || eqb (file_of s) (file_of t)
aligned (suc kind) s t = eqb (dist (rank_of s) (rank_of t)) (dist (file_of s) (file_of t))

unfoldable pub on_ray : ℕ → ℕ → ℕ → Bool
unfolding aligned
on_ray kind s t = not (eqb s t) && aligned kind s t

unfoldable pub rays : ℕ → ℕ → ℕ
unfolding set_of on_ray
rays kind s = set_of (on_ray kind s)

-- the first or the last rank or file
unfoldable pub outer : ℕ → Bool
outer x = eqb x 0 || eqb x 7

-- "Mask: bishop rays without the whole board edge. Rook rays without A and H on its own rank and ranks 1 and 8 on its
-- own file."
unfoldable pub cut_off : ℕ → ℕ → ℕ → Bool
unfolding outer
cut_off zero s t = (eqb (rank_of t) (rank_of s) && outer (file_of t)) || (eqb (file_of t) (file_of s) && outer (rank_of t))
cut_off (suc kind) s t = outer (rank_of t) || outer (file_of t)

unfoldable pub in_mask : ℕ → ℕ → ℕ → Bool
unfolding on_ray cut_off
in_mask kind s t = on_ray kind s t && not (cut_off kind s t)

unfoldable pub mask : ℕ → ℕ → ℕ
unfolding set_of in_mask
mask kind s = set_of (in_mask kind s)

-- x lies from a to b, or from b to a
unfoldable pub within : ℕ → ℕ → ℕ → Bool
within a x b = leb (min a b) x && leb x (max a b)

-- u lies strictly between s and t, a square of the rays of s: on a ray of s, in the rectangle that s and t span, and
-- not t
unfoldable pub between : ℕ → ℕ → ℕ → ℕ → Bool
unfolding on_ray within
between kind s t u = on_ray kind s u && (not (eqb u t) && (within (rank_of s) (rank_of u) (rank_of t) && within (file_of s) (file_of u) (file_of t)))

-- no blocker strictly between (FIDE Laws 3.5: a piece does not move over another)
unfoldable pub clear : ℕ → ℕ → ℕ → ℕ → Bool
unfolding every between has
clear kind s blockers t = every 64 (λ u. not (between kind s t u && has blockers u))

-- "Demand 2's attack set is defined apart from these steps: each square of the rays with no blocker strictly between it
-- and s."
unfoldable pub attack : ℕ → ℕ → ℕ → ℕ
unfolding set_of on_ray clear
attack kind s blockers = set_of (λ t. on_ray kind s t && clear kind s blockers t)

-- 1: "kind above 1", then 2: "square above 63"
abbrev pub on_block : {A : Type 0} → ℕ → ℕ → Said A → Said A
on_block kind s x = refuse_if (ltb 1 kind) 1 (refuse_if (ltb 63 s) 2 x)
