-- The squares that a mask leaves out, as the code has them, and the mask by them.
-- Assumes nothing.
use Prim.Native.Nat.{ℕ, ◌-◌, ◌*◌, ◌/◌, ◌%◌, ◌^◌, ◌<◌}
use mathlib.Core.Path.{◌≡◌, refl, ap, ap₂, ◌∙◌}
use mathlib.Core.Bool.{not, ◌&&◌}
use lib.Bits.{bit_and, bit_or, and_lt}
use lib.Dec.{T, eqb, eqb→eq}
use lib.Pow.{ones_sub-lt}
use Rattle.bits.specs.Set.{set_of, every}
use Rattle.bits.proofs.Sets.{has_and, has_set_of, set_of_lt, is_set_of}
use Rattle.bits.proofs.Complement.{has_not}
use Rattle.bits.proofs.Every.{every_at}
use Rattle.board.specs.Board.{on_ray, rays, cut_off, in_mask, mask}
use Rattle.board.proofs.Attack.{rays_lt, has_rays}

pub whole_edge : (s : ℕ) → 0xFF818181818181FF ≡ set_of (cut_off 1 s)
unfolding set_of cut_off
whole_edge s = refl

abbrev own_lines : ℕ → ℕ
own_lines s = bit_or (0x81 * 2 ^ (s / 8 * 8) % 2 ^ 64) (0x0100000000000001 * 2 ^ (s % 8) % 2 ^ 64)

own_test : T (every 64 (λ s. eqb (own_lines s) (set_of (cut_off 0 s))))
unfolding every set_of cut_off
own_test = tt

pub own_edges_are : (s : ℕ) → s < 64 → own_lines s ≡ set_of (cut_off 0 s)
own_edges_are s h = eqb→eq (own_lines s) (set_of (cut_off 0 s)) (every_at 64 (λ s. eqb (own_lines s) (set_of (cut_off 0 s))) own_test s h)

pub mask_is : (k s : ℕ) → bit_and (rays k s) ((2 ^ 64 - 1) - set_of (cut_off k s)) ≡ mask k s
unfolding mask in_mask
mask_is k s =
    is_set_of (bit_and (rays k s) ((2 ^ 64 - 1) - set_of (cut_off k s))) (λ t. on_ray k s t && not (cut_off k s t))
    (and_lt 64 (rays k s) ((2 ^ 64 - 1) - set_of (cut_off k s)) (rays_lt k s) (ones_sub-lt 64 (set_of (cut_off k s))))
    (λ t h. has_and (rays k s) ((2 ^ 64 - 1) - set_of (cut_off k s)) t
    ∙ ap₂ ◌&&◌ (has_rays k s t h) (has_not 64 (set_of (cut_off k s)) t (set_of_lt (cut_off k s)) h ∙ ap not (has_set_of (cut_off k s) t h)))
