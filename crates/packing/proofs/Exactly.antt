-- A build succeeds exactly when each block, in order, fits at its first free place and has its multiplier: demand 2.
-- Assumes nothing.
use Prim.Native.Nat.{ℕ, zero, suc, ◌<◌}
use mathlib.Core.Path.{◌≡◌, refl, sym, ap, ◌∙◌, subst}
use mathlib.Core.Logic.{◌⊎◌, inl, inr, ◌↔◌}
use native.Mathlib.Nat.{not-suc-le-zero, le_refl, le_of_suc-le-suc, eq-or-lt_of_le}
use native.Mathlib.Omega.{arith}
use Rattle.packing.specs.declared.Taken.{Taken}
use Rattle.std.specs.Prelude.{Option, Some}
use Rattle.packing.specs.Pack.{Blocks, first_passing, by_search, by_lent, State, place, next, done, run, seed_build, lent_build}
use Rattle.packing.specs.Promised.{Room, after, Fits, taken_by, EachFirst, lent_at, EachClean}
use Rattle.packing.proofs.Next.{offset_at, taken_at, offset_before, taken_before}
use Rattle.packing.proofs.Run.{Ran, run_next, last}
use Rattle.packing.proofs.Success.{ran_none, chose}
use Rattle.packing.proofs.Choices.{found, finds, lent_found, lent_finds}

-- a block's offset is its place when its turn came
pub after_offset : (B : Blocks) (taken : ℕ → Taken) (n b : ℕ) → b < n → (after B taken n).offset b ≡ place B b (after B taken b)
unfolding after
after_offset B taken zero b h = absurd (not-suc-le-zero h)
after_offset B taken (suc n) b h = go (eq-or-lt_of_le (le_of_suc-le-suc h)) (after_offset B taken n b)
  where
    go : (b ≡ n) ⊎ (b < n) → (b < n → (after B taken n).offset b ≡ place B b (after B taken b)) → (next B n (after B taken n) (taken n)).offset b ≡ place B b (after B taken b)
    go (inl e) ih = offset_at B n (after B taken n) (taken n) b e ∙ ap (λ (k : ℕ). place B k (after B taken k)) (sym e)
    go (inr l) ih = offset_before B n (after B taken n) (taken n) b l ∙ ih l

-- what was taken for a block stays
pub after_taken : (B : Blocks) (taken : ℕ → Taken) (n b : ℕ) → b < n → (after B taken n).taken b ≡ taken b
unfolding after
after_taken B taken zero b h = absurd (not-suc-le-zero h)
after_taken B taken (suc n) b h = go (eq-or-lt_of_le (le_of_suc-le-suc h)) (after_taken B taken n b)
  where
    go : (b ≡ n) ⊎ (b < n) → (b < n → (after B taken n).taken b ≡ taken b) → (next B n (after B taken n) (taken n)).taken b ≡ taken b
    go (inl e) ih = taken_at B n (after B taken n) (taken n) b e ∙ ap taken (sym e)
    go (inr l) ih = taken_before B n (after B taken n) (taken n) b l ∙ ih l

-- ---- any run whose choices are known

module _ (B : Blocks) (len why : ℕ) (choice : ℕ → Option Taken) (taken : ℕ → Taken) where
  -- blocks that fit run
  pub fitting_runs : (n : ℕ) → Fits B len taken n → ((b : ℕ) → b < n → choice b ≡ Some (taken b)) → Ran B len why choice n (after B taken n)
  unfolding run after
  fitting_runs zero f c = refl
  fitting_runs (suc n) f c =
      run_next B len why choice n (after B taken n) (taken n) (fitting_runs n (λ b l. f b (omega arith)) (λ b l. c b (omega arith)))
      (f n (le_refl (suc n))) (c n (le_refl (suc n)))

  -- and those of a run that succeeded fit
  pub run_fits : (n : ℕ) (s : State) → Ran B len why choice n s → ((b : ℕ) → b < n → choice b ≡ Some (taken b)) → (s ≡ after B taken n) × Fits B len taken n
  unfolding after
  run_fits zero s e c = (ran_none B len why choice s e, λ b l. absurd (not-suc-le-zero l))
  run_fits (suc n) s e c =
      let l = last B len why choice n s e in
      let ih = run_fits n l.before l.ran (λ b h. c b (omega arith)) in
      let p : l.before ≡ after B taken n = ih.0 in
      let q : l.taken ≡ taken n = same l.taken (taken n) l.chose (c n (le_refl (suc n))) in (
        l.now ∙ ap (λ (t : State). next B n t l.taken) p ∙ ap (next B n (after B taken n)) q,
        λ b h. fit (subst (Room B len n) p l.room) ih.1 b (eq-or-lt_of_le (le_of_suc-le-suc h)),
      )
    where
      same : (x y : Taken) → choice n ≡ Some x → choice n ≡ Some y → x ≡ y
      same x y p q = cc

      fit : Room B len n (after B taken n) → Fits B len taken n → (b : ℕ) → (b ≡ n) ⊎ (b < n) → Room B len b (after B taken b)
      fit r f b (inl q) = subst (λ (c : ℕ). Room B len c (after B taken c)) (sym q) r
      fit r f b (inr h) = f b h

-- ---- the two builds

module _ (B : Blocks) (candidate : ℕ → ℕ) (budget len : ℕ) where
  -- the blocks before n, as a run from a seed places them
  pub ran_first : (n : ℕ) (s : State) → Ran B len 5 (by_search B candidate budget) n s
      → (position : ℕ → ℕ) × EachFirst B candidate budget len position n × (s ≡ after B (taken_by candidate position) n)
  ran_first n s e =
      let position : ℕ → ℕ = first_passing B candidate budget in
      let c : (b : ℕ) → b < n → by_search B candidate budget b ≡ Some (s.taken b) = chose B len 5 (by_search B candidate budget) n s e in
      let w =
      run_fits B len 5 (by_search B candidate budget) (taken_by candidate position) n s e
      (λ b h. c b h ∙ ap Some (found B candidate budget b (s.taken b) (c b h)).is) in
      (position, record { fits = w.1; first = λ b h. (found B candidate budget b (s.taken b) (c b h)).first }, w.0)

  pub first_runs : (position : ℕ → ℕ) (n : ℕ) → EachFirst B candidate budget len position n → Ran B len 5 (by_search B candidate budget) n (after B (taken_by candidate position) n)
  first_runs position n w =
      fitting_runs B len 5 (by_search B candidate budget) (taken_by candidate position) n w.fits
      (λ b h. finds B candidate budget b (position b) (w.first b h))

  -- demand 2: "A build from a seed .. succeeds exactly when each block, in the fixed order, fits at its first free place and
  -- has a passing candidate within the budget; it takes the first."
  pub exactly_when : (s : State)
      → (seed_build B candidate budget len ≡ done s) ↔ ((position : ℕ → ℕ) × EachFirst B candidate budget len position 128 × (s ≡ after B (taken_by candidate position) 128))
  unfolding seed_build
  exactly_when s = (ran_first 128 s, λ w. first_runs w.0 128 w.1 ∙ ap done (sym w.2))

module _ (B : Blocks) (lent : ℕ → ℕ) (len : ℕ) where
  -- the blocks before n, as a run of lent multipliers places them
  pub ran_clean : (n : ℕ) (s : State) → Ran B len 6 (by_lent B lent) n s → EachClean B lent len n × (s ≡ after B (lent_at lent) n)
  ran_clean n s e =
      let c : (b : ℕ) → b < n → by_lent B lent b ≡ Some (s.taken b) = chose B len 6 (by_lent B lent) n s e in
      let w = run_fits B len 6 (by_lent B lent) (lent_at lent) n s e (λ b h. c b h ∙ ap Some (lent_found B lent b (s.taken b) (c b h)).1) in
      (record { fits = w.1; no_collision = λ b h. (lent_found B lent b (s.taken b) (c b h)).0 }, w.0)

  pub clean_runs : (n : ℕ) → EachClean B lent len n → Ran B len 6 (by_lent B lent) n (after B (lent_at lent) n)
  clean_runs n w = fitting_runs B len 6 (by_lent B lent) (lent_at lent) n w.fits (λ b h. lent_finds B lent b (w.no_collision b h))

  -- "The build from lent multipliers does the same with 128 given numbers, in block order, testing collisions only"
  pub lent_exactly_when : (s : State) → (lent_build B lent len ≡ done s) ↔ (EachClean B lent len 128 × (s ≡ after B (lent_at lent) 128))
  unfolding lent_build
  lent_exactly_when s = (ran_clean 128 s, λ w. clean_runs 128 w.0 ∙ ap done (sym w.1))
