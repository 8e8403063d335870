-- The walk is the attack set, for every kind, square and blocker set; and the laws of the attack set.
-- Assumes nothing.
use Prim.Native.Nat.{ℕ, ◌^◌, ◌<◌}
use mathlib.Core.Path.{◌≡◌, refl, sym, ap, ap₂, ◌∙◌, subst}
use mathlib.Core.Bool.{Bool, true, false, not, ◌&&◌, ◌||◌, and-true, or-false, and-or_distrib_right, false≢true}
use borrow.Author.Tests.{ne_eqb}
use lib.Bits.{bit_and, bit_or, or_lt, and_lt}
use lib.Dec.{T, ltb, ltb→lt, T_not, lit<}
use Rattle.bits.specs.Set.{has}
use Rattle.bits.proofs.Sets.{has_and, has_or, has_pow, has_zero, has_ext, has_set_of, set_of_lt}
use Rattle.bits.proofs.Every.{is_true, both_l, both_r, and_again, every_cong, every_true}
use Rattle.board.specs.Board.{on_ray, rays, in_mask, mask, between, clear, attack}
use Rattle.board.specs.Walk.{line, up_to, walk}
use Rattle.board.proofs.Lists.{is_in, before, free, has_up_to, up_to_lt, up_to_same}
use Rattle.board.proofs.Lines.{line_on_board, in_lines, rays_are_lines, mask_square, inner_in_mask, self_not_in_mask, near, Near, near_is}
use Rattle.board.proofs.Between.{clear_before}

pub mask_lt : (k s : ℕ) → mask k s < 2 ^ 64
unfolding mask
mask_lt k s = set_of_lt (in_mask k s)

pub rays_lt : (k s : ℕ) → rays k s < 2 ^ 64
unfolding rays
rays_lt k s = set_of_lt (on_ray k s)

pub has_mask : (k s t : ℕ) → t < 64 → has (mask k s) t ≡ in_mask k s t
unfolding mask
has_mask k s t h = has_set_of (in_mask k s) t h

pub has_rays : (k s t : ℕ) → t < 64 → has (rays k s) t ≡ on_ray k s t
unfolding rays
has_rays k s t h = has_set_of (on_ray k s) t h

has_attack : (k s b t : ℕ) → t < 64 → has (attack k s b) t ≡ (on_ray k s t && clear k s b t)
unfolding attack
has_attack k s b t h = has_set_of (λ t. on_ray k s t && clear k s b t) t h

pub attack_lt : (k s b : ℕ) → attack k s b < 2 ^ 64
unfolding attack
attack_lt k s b = set_of_lt (λ t. on_ray k s t && clear k s b t)

module _ (k s : ℕ) (hk : k < 2) (hs : s < 64) where
  line_lt : (b d : ℕ) → d < 4 → up_to b (line k d s) < 2 ^ 64
  line_lt b d h = up_to_lt b (line k d s) (line_on_board k s d hk hs h)

  walk_lt : (b : ℕ) → walk k s b < 2 ^ 64
  unfolding walk
  walk_lt b = or_lt 64 _ _ (or_lt 64 _ _ (or_lt 64 _ _ (line_lt b 0 (lit< tt)) (line_lt b 1 (lit< tt))) (line_lt b 2 (lit< tt))) (line_lt b 3 (lit< tt))

  -- a square of a line's walk is on the line, with no blocker between
  has_line : (b t d : ℕ) → d < 4 → has (up_to b (line k d s)) t ≡ (is_in t (line k d s) && clear k s b t)
  has_line b t d h = has_up_to b t (line k d s) ∙ go (is_in t (line k d s)) refl
    where
      go : (m : Bool) → is_in t (line k d s) ≡ m → (m && free b (before t (line k d s))) ≡ (m && clear k s b t)
      go true e = sym (clear_before k s d t hk hs h e b)
      go false e = refl

  has_walk : (b t : ℕ) → t < 64 → has (walk k s b) t ≡ (on_ray k s t && clear k s b t)
  unfolding walk in_lines
  has_walk b t h =
      simp (has_or, has_line b t 0 (lit< tt), has_line b t 1 (lit< tt), has_line b t 2 (lit< tt), has_line b t 3 (lit< tt), rays_are_lines k s t hk hs h)
      (four (is_in t (line k 0 s)) (is_in t (line k 1 s)) (is_in t (line k 2 s)) (is_in t (line k 3 s)) (clear k s b t))
    where
      four : (m₀ m₁ m₂ m₃ c : Bool) → ((((m₀ && c) || (m₁ && c)) || (m₂ && c)) || (m₃ && c)) ≡ ((((m₀ || m₁) || m₂) || m₃) && c)
      four m₀ m₁ m₂ m₃ c = simp and-or_distrib_right

  -- "Walk: .." and "Demand 2's attack set .." are one
  pub walk_attack : (b : ℕ) → walk k s b ≡ attack k s b
  walk_attack b = has_ext 64 (walk k s b) (attack k s b) (walk_lt b) (attack_lt k s b) (λ t h. has_walk b t h ∙ sym (has_attack k s b t h))

  -- ---- what blockers count

  pub attack_same : (b b' : ℕ) → ((u : ℕ) → u < 64 → T (in_mask k s u) → has b u ≡ has b' u) → attack k s b ≡ attack k s b'
  unfolding walk
  attack_same b b' h =
      sym (walk_attack b)
      ∙ ap₂ bit_or (ap₂ bit_or (ap₂ bit_or (along 0 (lit< tt)) (along 1 (lit< tt))) (along 2 (lit< tt))) (along 3 (lit< tt))
      ∙ walk_attack b'
    where
      along : (d : ℕ) → d < 4 → up_to b (line k d s) ≡ up_to b' (line k d s)
      along d l =
          up_to_same (mask_square k s) b b' (λ u t. h u (ltb→lt u 64 (both_l (ltb u 64) (in_mask k s u) t)) (both_r (ltb u 64) (in_mask k s u) t))
          (line k d s) (inner_in_mask k s d hk hs l)

  -- the attack set depends on blockers in the mask alone
  pub attack_mask : (b : ℕ) → attack k s (bit_and b (mask k s)) ≡ attack k s b
  attack_mask b =
      attack_same (bit_and b (mask k s)) b
      (λ u l m. has_and b (mask k s) u ∙ ap (λ (x : Bool). has b u && x) (has_mask k s u l ∙ is_true (in_mask k s u) m) ∙ and-true (has b u))

  -- "Bit s of the blockers has no effect."
  pub attack_self : (b : ℕ) → attack k s (bit_or b (2 ^ s)) ≡ attack k s b
  attack_self b =
      attack_same (bit_or b (2 ^ s)) b
      (λ u l m. has_or b (2 ^ s) u ∙ ap (λ (x : Bool). has b u || x) (has_pow s u ∙ ne_eqb s u (λ e. other u m e)) ∙ or-false (has b u))
    where
      other : (u : ℕ) → T (in_mask k s u) → s ≡ u → ⊥
      other u m e = T_not (in_mask k s s) (self_not_in_mask k s hk hs) (subst (λ (x : ℕ). T (in_mask k s x)) (sym e) m)

  -- the attack set lies in the rays
  pub attack_rays : (b : ℕ) → bit_and (attack k s b) (rays k s) ≡ attack k s b
  attack_rays b =
      has_ext 64 (bit_and (attack k s b) (rays k s)) (attack k s b) (and_lt 64 (attack k s b) (rays k s) (attack_lt k s b) (rays_lt k s)) (attack_lt k s b)
      (λ t h. has_and (attack k s b) (rays k s) t ∙ ap₂ ◌&&◌ (has_attack k s b t h) (has_rays k s t h) ∙ and_again (on_ray k s t) (clear k s b t) ∙ sym (has_attack k s b t h))

  -- "No walk is empty": the nearest squares are in each
  pub attack_some : (b : ℕ) → attack k s b ≡ 0 → ⊥
  unfolding clear
  attack_some b e =
      let t : ℕ = near k s in
      let n : Near k s t = near_is k s hk hs in
      let c : clear k s b t ≡ true =
      every_cong 64 (λ u. not (between k s t u && has b u)) (λ u. true) (λ u l. ap (λ (x : Bool). not (x && has b u)) (n.touching u l))
      ∙ every_true 64 in
      false≢true (sym (has_zero t) ∙ ap (λ (x : ℕ). has x t) (sym e) ∙ has_attack k s b t n.low ∙ ap₂ ◌&&◌ n.on c)
