-- The builds of the board's blocks, for any candidates and any lent multipliers: the numbers that 01 names.
-- Assumes nothing.
use Prim.Native.Nat.{ℕ, ◌+◌, ◌^◌, ◌≤◌, ◌<◌, zero-le}
use mathlib.Core.Path.{◌≡◌, refl, ap, ◌∙◌}
use mathlib.Core.Logic.{◌⊎◌, inl, inr}
use native.Mathlib.Nat.{not-suc-le-zero, zero-add}
use native.Mathlib.Omega.{arith}
use lib.Bits.{bit_and, and_zero_l, or_zero_l}
use Rattle.board.specs.Board.{rays}
use Rattle.board.specs.Blocks.{kind_of, square_of}
use Rattle.packing.specs.declared.Taken.{Taken}
use Rattle.packing.specs.Pack.{State, start, place, hit, next, done, refused, seed_build, lent_build}
use Rattle.packing.proofs.Slots.{Hit, Missed, hits, or_missed, or_hit}
use Rattle.packing.proofs.Places.{place_first, one_place}
use Rattle.packing.proofs.Next.{place_le}
use Rattle.packing.specs.Promised.{Right}
use Rattle.packing.proofs.Seed.{first_room, first_spent}
use Rattle.packing.proofs.Refusals.{never_room, lent_never_room}
use Rattle.packing.proofs.Right.{seed_right, lent_right, offset_32}
use Rattle.blocks.specs.Real.{real}
use Rattle.blocks.proofs.Real.{laws, all_sizes, first_size}

-- ---- finished sets

module _ (len : ℕ) (s : State) (r : Right real len s) where
  most : s.end ≤ 107648
  most = omega (arith, r.used, all_sizes)

  low : (b : ℕ) → b < 128 → s.offset b < 2 ^ 32
  low = offset_32 real len s r (rw all_sizes (omega arith))

-- "the final end is the used length, at most 107,648"
pub seed_used : (candidate : ℕ → ℕ) (budget len : ℕ) (s : State) → seed_build real candidate budget len ≡ done s → s.end ≤ 107648
seed_used candidate budget len s e = most len s (seed_right real laws candidate budget len s e)

pub lent_used : (lent : ℕ → ℕ) (len : ℕ) (s : State) → lent_build real lent len ≡ done s → s.end ≤ 107648
lent_used lent len s e = most len s (lent_right real laws lent len s e)

-- "offset (32 bits)"
pub seed_offsets : (candidate : ℕ → ℕ) (budget len : ℕ) (s : State) → seed_build real candidate budget len ≡ done s → (b : ℕ) → b < 128 → s.offset b < 2 ^ 32
seed_offsets candidate budget len s e = low len s (seed_right real laws candidate budget len s e)

pub lent_offsets : (lent : ℕ → ℕ) (len : ℕ) (s : State) → lent_build real lent len ≡ done s → (b : ℕ) → b < 128 → s.offset b < 2 ^ 32
lent_offsets lent len s e = low len s (lent_right real laws lent len s e)

-- ---- room

-- "With 107,648 slots a build never answers 4."
pub never_4 : (candidate : ℕ → ℕ) (budget len b : ℕ) → 107648 ≤ len → seed_build real candidate budget len ≡ refused 4 b → ⊥
never_4 candidate budget len b h = never_room real candidate budget len b (rw all_sizes h)

pub lent_never_4 : (lent : ℕ → ℕ) (len b : ℕ) → 107648 ≤ len → lent_build real lent len ≡ refused 4 b → ⊥
lent_never_4 lent len b h = lent_never_room real lent len b (rw all_sizes h)

-- "63 slots, any allowed budget: 4 at block 0."
pub room_63 : (candidate : ℕ → ℕ) (budget : ℕ) → seed_build real candidate budget 63 ≡ refused 4 0
room_63 candidate budget = first_room real candidate budget 63 (rw first_size (omega arith))

-- "64 slots, budget 0: 5 at block 0."
pub spent_64 : (candidate : ℕ → ℕ) → seed_build real candidate 0 64 ≡ refused 5 0
spent_64 candidate = first_spent real candidate 64 (rw first_size (omega arith))

-- "0 slots, budget 0: 4."
pub room_0 : (candidate : ℕ → ℕ) → seed_build real candidate 0 0 ≡ refused 4 0
room_0 candidate = first_room real candidate 0 0 (rw first_size (omega arith))

-- ---- "Bishop B1 is placed at 0 on top of bishop A1: opposite colours."

apart : bit_and (real.rays 0) (real.rays 1) ≡ 0
unfolding rays kind_of square_of
apart = refl

pub first_place : place real 0 start ≡ 0
first_place = omega (arith, place_le real 0 start)

pub second_place : (x : Taken) → place real 1 (next real 0 start x) ≡ 0
unfolding next
second_place x =
    one_place (real.size 1) (real.rays 1) (next real 0 start x).marks (next real 0 start x).end _ 0 (place_first real 1 (next real 0 start x))
    (record { most = zero-le; apart = λ _ j _. free j; none_before = λ i l. absurd (not-suc-le-zero l) })
  where
    marked : (j : ℕ) → Hit (hit real 0 start x.multiplier) (real.size 0) j ⊎ Missed (hit real 0 start x.multiplier) (real.size 0) j → bit_and ((next real 0 start x).marks j) (real.rays 1) ≡ 0
    marked j (inl h) =
        ap (λ (m : ℕ). bit_and m (real.rays 1)) (or_hit (hit real 0 start x.multiplier) (λ _. real.rays 0) j 0 (real.rays 0) (real.size 0) (λ _ _ _. refl) h ∙ or_zero_l (real.rays 0))
        ∙ apart
    marked j (inr m) = ap (λ (m : ℕ). bit_and m (real.rays 1)) (or_missed (hit real 0 start x.multiplier) (λ _. real.rays 0) j 0 (real.size 0) m) ∙ and_zero_l (real.rays 1)

    free : (j : ℕ) → bit_and ((next real 0 start x).marks (0 + j)) (real.rays 1) ≡ 0
    free j = ap (λ (k : ℕ). bit_and ((next real 0 start x).marks k) (real.rays 1)) (zero-add j) ∙ marked j (hits (hit real 0 start x.multiplier) (real.size 0) j)
