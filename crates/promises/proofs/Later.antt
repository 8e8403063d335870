-- Builds that are refused at block 1 and at block 2.
-- Assumes nothing.
use Prim.Native.Nat.{ℕ, ◌<◌}
use mathlib.Core.Path.{◌≡◌, refl, sym, ap, ap₂, ◌∙◌, subst}
use mathlib.Core.Bool.{Bool, true, false, not, ◌&&◌, and-false}
use mathlib.Core.List.{List, [], ◌∷◌}
use native.Mathlib.Omega.{arith}
use lib.Dec.{lit<}
use lib.ListN.{length}
use Rattle.bits.proofs.Below.{each_none, each_suc}
use Rattle.board.specs.Blocks.{kind_of, square_of, size_of}
use Rattle.splitmix.specs.SplitMix.{advanced, mixed, after as stateAfter, output, candidate_of, state_at, candidate}
use Rattle.packing.specs.declared.Taken.{Taken}
use Rattle.packing.specs.Pack.{clean, passes}
use Rattle.packing.specs.Promised.{Room, Full, after, Fits, First, NonePasses, taken_by, EachFirst, lent_at, EachClean}
use Rattle.blocks.specs.Real.{skips, real}
use Rattle.blocks.proofs.Real.{first_size}
use Rattle.blocks.proofs.Board.{first_place, second_place}
use Rattle.refusal.specs.Paper.{refuses}
use Rattle.gen_magic.specs.Builds.{slots, from_seed, from_lent}
use Rattle.promises.specs.Later.{Later}
use Rattle.promises.specs.RefusedAt.{FullAt, SpentAt, CollidesAt}
use Rattle.promises.proofs.RefusedAt.{refused_at}
use Rattle.promises.proofs.FirstBishops.{one, two, one_clean_a1, two_clean_a1, two_clean_b1, one_collides_b1, zero_collides_b1, one_taken_a1, two_taken_a1, two_taken_b1}
use Rattle.promises.proofs.ThirdPlace.{third_place}

first_5749 : candidate 5749 0 ≡ one
unfolding candidate candidate_of state_at stateAfter output mixed advanced
first_5749 = refl

first_14914 : candidate 14914 0 ≡ two
unfolding candidate candidate_of state_at stateAfter output mixed advanced
first_14914 = refl

second_size : real.size 1 ≡ 32
unfolding size_of kind_of square_of
second_size = refl

third_size : real.size 2 ≡ 32
unfolding size_of kind_of square_of
third_size = refl

-- ---- 64 slots

first_room : (taken : ℕ → Taken) → Room real 64 0 (after real taken 0)
unfolding after
first_room taken = omega (arith, first_place, first_size)

second_room : (taken : ℕ → Taken) → Room real 64 1 (after real taken 1)
unfolding after
second_room taken = omega (arith, second_place (taken 0), second_size)

module _ (taken : ℕ → Taken) where
  fits_1 : Fits real 64 taken 1
  fits_1 = each_suc (λ b. Room real 64 b (after real taken b)) 0 (first_room taken) (each_none (λ b. Room real 64 b (after real taken b)))

  fits_2 : Fits real 64 taken 2
  fits_2 = each_suc (λ b. Room real 64 b (after real taken b)) 1 (second_room taken) fits_1

-- ---- a budget of one: the first candidate

passing : (b x : ℕ) (c : Bool) → skips (kind_of b) (square_of b) x ≡ false → clean real b x ≡ c → passes real b x ≡ c
unfolding passes
passing b x c s e = ap₂ (λ (p q : Bool). not p && q) s e

colliding : (b x : ℕ) → clean real b x ≡ false → passes real b x ≡ false
unfolding passes
colliding b x e = ap (λ (q : Bool). not (skips (kind_of b) (square_of b) x) && q) e ∙ and-false (not (skips (kind_of b) (square_of b) x))

abbrev zeroth : ℕ → ℕ
zeroth b = 0

module _ (seed x : ℕ) (is : candidate seed 0 ≡ x) where
  abbrev taken : ℕ → Taken
  taken = taken_by (candidate seed) zeroth

  first : (b : ℕ) → passes real b x ≡ true → First real (candidate seed) 1 b 0
  first b e = record { within = lit< tt; passing = ap (passes real b) is ∙ e; none_before = each_none (λ i. passes real b (candidate seed i) ≡ false) }

  lacks : (b : ℕ) → passes real b x ≡ false → NonePasses real (candidate seed) 1 b
  lacks b e = each_suc (λ i. passes real b (candidate seed i) ≡ false) 0 (ap (passes real b) is ∙ e) (each_none (λ i. passes real b (candidate seed i) ≡ false))

  firsts_1 : passes real 0 x ≡ true → (b : ℕ) → b < 1 → First real (candidate seed) 1 b 0
  firsts_1 e = each_suc (λ b. First real (candidate seed) 1 b 0) 0 (first 0 e) (each_none (λ b. First real (candidate seed) 1 b 0))

  each_1 : passes real 0 x ≡ true → EachFirst real (candidate seed) 1 64 zeroth 1
  each_1 e = record { fits = fits_1 taken; first = firsts_1 e }

  each_2 : passes real 0 x ≡ true → passes real 1 x ≡ true → EachFirst real (candidate seed) 1 64 zeroth 2
  each_2 e f = record { fits = fits_2 taken; first = each_suc (λ b. First real (candidate seed) 1 b 0) 1 (first 1 f) (firsts_1 e) }

a1_one : passes real 0 one ≡ true
unfolding kind_of square_of
a1_one = passing 0 one true one_taken_a1 one_clean_a1

a1_two : passes real 0 two ≡ true
unfolding kind_of square_of
a1_two = passing 0 two true two_taken_a1 two_clean_a1

b1_two : passes real 1 two ≡ true
unfolding kind_of square_of
b1_two = passing 1 two true two_taken_b1 two_clean_b1

-- ---- the three builds

module _ (table marks : List ℕ) (et : length table ≡ 64) (em : length marks ≡ 64) where
  spent_at_1 : (from_seed 5749 1 table marks).says ≡ refuses 5 (1 ∷ [])
  spent_at_1 =
      (refused_at.spent 5749 1 table marks 1).1 (
        record { budget_allowed = omega arith; one_length = et ∙ sym em },
        subst (λ (n : ℕ). SpentAt 5749 1 n 1) (sym et)
            (lit< tt, zeroth, each_1 5749 one first_5749 a1_one, second_room (taken 5749 one first_5749), lacks 5749 one first_5749 1 (colliding 1 one one_collides_b1)),
      )

  no_room_at_2 : (from_seed 14914 1 table marks).says ≡ refuses 4 (2 ∷ [])
  no_room_at_2 =
      (refused_at.no_room 14914 1 table marks 2).1 (
        record { budget_allowed = omega arith; one_length = et ∙ sym em },
        subst (λ (n : ℕ). FullAt 14914 1 n 2) (sym et)
            (lit< tt, zeroth, each_2 14914 two first_14914 a1_two b1_two, full (taken 14914 two first_14914) first_14914),
      )
    where
      full : (t : ℕ → Taken) → (t 0).multiplier ≡ two → Full real 64 2 (after real t 2)
      full t e = omega (arith, third_place t e, third_size)

  collides_at_1 : (rest : List ℕ) → length rest ≡ 126 → (from_lent (two ∷ 0 ∷ rest) table marks).says ≡ refuses 6 (1 ∷ [])
  collides_at_1 rest er =
      let l = two ∷ 0 ∷ rest in
      (refused_at.collides l table marks 1).1 (
        record { list_allowed = omega arith; one_length = et ∙ sym em },
        subst (λ (n : ℕ). CollidesAt (slots l) n 1) (sym et) (lit< tt, clean_1 l two_clean_a1, second_room (lent_at (slots l)), zero_collides_b1),
      )
    where
      clean_1 : (l : List ℕ) → clean real 0 (slots l 0) ≡ true → EachClean real (slots l) 64 1
      clean_1 l e = record { fits = fits_1 (lent_at (slots l)); no_collision = each_suc (λ b. clean real b (slots l b) ≡ true) 0 e (each_none (λ b. clean real b (slots l b) ≡ true)) }

pub later : Later
later = record { spent_at_1 = spent_at_1; no_room_at_2 = no_room_at_2; collides_at_1 = λ rest table marks er et em. collides_at_1 table marks et em rest er }
