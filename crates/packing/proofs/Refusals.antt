-- A build is refused at a block exactly when the blocks before it are placed and it fails as the number says.
-- Assumes nothing.
use Prim.Native.Nat.{ℕ, ◌≤◌, ◌<◌}
use mathlib.Core.Path.{◌≡◌, subst}
use mathlib.Core.Bool.{false}
use mathlib.Core.Logic.{◌⊎◌, inl, inr, ◌↔◌}
use native.Mathlib.Omega.{arith}
use Rattle.bits.specs.Shown.{sum}
use Rattle.packing.specs.declared.Taken.{Taken}
use Rattle.std.specs.Prelude.{Option, None}
use Rattle.packing.specs.Pack.{Blocks, clean, by_search, by_lent, State, refused, run, seed_build, lent_build}
use Rattle.packing.specs.Promised.{Room, Full, after, taken_by, NonePasses, EachFirst, lent_at, EachClean}
use Rattle.packing.proofs.Run.{Ran, run_full, run_spent, Stopped, Cause, stopped, stopped_full, stopped_spent, refusal_stays}
use Rattle.packing.proofs.Success.{never_full}
use Rattle.packing.proofs.Choices.{search_none, lent_none}
use Rattle.packing.proofs.Exactly.{ran_first, first_runs, ran_clean, clean_runs}

-- ---- any run of 128 blocks

module _ (B : Blocks) (len why : ℕ) (choice : ℕ → Option Taken) (b : ℕ) where
  full_stops : (t : State) → b < 128 → Ran B len why choice b t → Full B len b t → run B len why choice 128 ≡ refused 4 b
  full_stops t l r f = refusal_stays B len why choice 4 b 128 l (run_full B len why choice b t r f)

  spent_stops : (t : State) → b < 128 → Ran B len why choice b t → Room B len b t → choice b ≡ None → run B len why choice 128 ≡ refused why b
  spent_stops t l r f c = refusal_stays B len why choice why b 128 l (run_spent B len why choice b t r f c)

  one_of_two : (number : ℕ) → run B len why choice 128 ≡ refused number b → (number ≡ 4) ⊎ (number ≡ why)
  one_of_two number e = let w = stopped B len why choice 128 number b e in go w.1 w.1.cause
    where
      go : (w : Stopped B len why choice number b) → Cause B len why choice number b w.before → (number ≡ 4) ⊎ (number ≡ why)
      go w (inl q) = inl q.0
      go w (inr q) = inr q.0

-- ---- the build from a seed

module _ (B : Blocks) (candidate : ℕ → ℕ) (budget len b : ℕ) where
  -- 4, "no room". "The first failing block decides." "within a block 4 before 5 or 6": whether block b has a candidate or not
  pub room_exactly : (seed_build B candidate budget len ≡ refused 4 b)
      ↔ ((b < 128) × (position : ℕ → ℕ) × EachFirst B candidate budget len position b × Full B len b (after B (taken_by candidate position) b))
  unfolding seed_build
  room_exactly = (
    λ e.
        let w = stopped_full B len 5 (by_search B candidate budget) (λ q. omega arith) 128 b e in
        let f = ran_first B candidate budget len b w.1 w.2 in
        (w.0, f.0, f.1, subst (Full B len b) f.2 w.3),
    λ w. full_stops B len 5 (by_search B candidate budget) b _ w.0 (first_runs B candidate budget len w.1 b w.2) w.3,
  )

  -- 5, "budget spent, none passed": it fits, and no candidate within the budget passes
  pub spent_exactly : (seed_build B candidate budget len ≡ refused 5 b)
      ↔ ((b < 128) × (position : ℕ → ℕ) × EachFirst B candidate budget len position b × Room B len b (after B (taken_by candidate position) b) × NonePasses B candidate budget b)
  unfolding seed_build
  spent_exactly = (
    λ e.
        let w = stopped_spent B len 5 (by_search B candidate budget) (λ q. omega arith) 128 b e in
        let f = ran_first B candidate budget len b w.1 w.2 in
        (w.0, f.0, f.1, subst (Room B len b) f.2 w.3, (search_none B candidate budget b).0 w.4),
    λ w. spent_stops B len 5 (by_search B candidate budget) b _ w.0 (first_runs B candidate budget len w.1 b w.2) w.3 ((search_none B candidate budget b).1 w.4),
  )

  -- "No other refusal exists."
  pub room_or_spent : (number : ℕ) → seed_build B candidate budget len ≡ refused number b → (number ≡ 4) ⊎ (number ≡ 5)
  unfolding seed_build
  room_or_spent = one_of_two B len 5 (by_search B candidate budget) b

  -- "With 107,648 slots a build never answers 4": with room for all sizes
  pub never_room : sum 128 B.size ≤ len → seed_build B candidate budget len ≡ refused 4 b → ⊥
  unfolding seed_build
  never_room = never_full B len 5 (by_search B candidate budget) 128 b (λ q. omega arith)

-- ---- the build from lent multipliers

module _ (B : Blocks) (lent : ℕ → ℕ) (len b : ℕ) where
  -- 4, "no room": whether its multiplier collides or not
  pub lent_room_exactly : (lent_build B lent len ≡ refused 4 b) ↔ ((b < 128) × EachClean B lent len b × Full B len b (after B (lent_at lent) b))
  unfolding lent_build
  lent_room_exactly = (
    λ e.
        let w = stopped_full B len 6 (by_lent B lent) (λ q. omega arith) 128 b e in
        let f = ran_clean B lent len b w.1 w.2 in
        (w.0, f.0, subst (Full B len b) f.1 w.3),
    λ w. full_stops B len 6 (by_lent B lent) b _ w.0 (clean_runs B lent len b w.1) w.2,
  )

  -- 6, "lent multiplier collides": it fits, and two subsets reach one slot with different walks
  pub collides_exactly : (lent_build B lent len ≡ refused 6 b)
      ↔ ((b < 128) × EachClean B lent len b × Room B len b (after B (lent_at lent) b) × (clean B b (lent b) ≡ false))
  unfolding lent_build
  collides_exactly = (
    λ e.
        let w = stopped_spent B len 6 (by_lent B lent) (λ q. omega arith) 128 b e in
        let f = ran_clean B lent len b w.1 w.2 in
        (w.0, f.0, subst (Room B len b) f.1 w.3, (lent_none B lent b).0 w.4),
    λ w. spent_stops B len 6 (by_lent B lent) b _ w.0 (clean_runs B lent len b w.1) w.2 ((lent_none B lent b).1 w.3),
  )

  -- "No other refusal exists."
  pub room_or_collides : (number : ℕ) → lent_build B lent len ≡ refused number b → (number ≡ 4) ⊎ (number ≡ 6)
  unfolding lent_build
  room_or_collides = one_of_two B len 6 (by_lent B lent) b

  -- "With 107,648 slots a build never answers 4"
  pub lent_never_room : sum 128 B.size ≤ len → lent_build B lent len ≡ refused 4 b → ⊥
  unfolding lent_build
  lent_never_room = never_full B len 6 (by_lent B lent) 128 b (λ q. omega arith)
