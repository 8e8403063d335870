-- Demand 3.
-- Assumes nothing.
use Prim.Native.Nat.{ℕ, ◌≤◌, ◌<◌}
use mathlib.Core.Path.{◌≡◌, refl, sym, ap, ◌∙◌, subst, subst₂}
use mathlib.Core.List.{List}
use mathlib.Core.Logic.{◌↔◌}
use native.Mathlib.Omega.{arith}
use native.Mathlib.Decide.{dec_lt}
use lib.ListN.{length, take, get_or-eq_default}
use Rattle.bits.specs.Shown.{shown}
use Rattle.bits.proofs.Shown.{length_shown, get_or_shown, take_shown}
use Rattle.splitmix.specs.SplitMix.{candidate}
use Rattle.packing.specs.Pack.{State, done, seed_build}
use Rattle.packing.specs.Promised.{Right, most_attempts}
use Rattle.packing.proofs.Largest.{largest_cong}
use Rattle.packing.proofs.Right.{seed_right}
use Rattle.packing.proofs.Seed.{one_success, needs_budget, needs_room, enough, room_stands, spent_stands}
use Rattle.blocks.specs.Real.{real}
use Rattle.blocks.proofs.Real.{laws}
use Rattle.gen_magic.specs.Builds.{slots, Left, ended, from_seed}
use Rattle.gen_magic.proofs.Came.{seed_is, SeedSuccess, seed_success, seed_refused, seed_refuses}
use Rattle.promises.specs.Demands.{Succeeds, Allowed, Same, largest_count, Demand3}

-- ---- what one state leaves in two lengths

largest_is : (len : ℕ) (s : State) → largest_count (ended len (done s)) ≡ most_attempts s
largest_is len s = largest_cong 128 _ (λ b. (s.taken b).count) (λ b h. get_or_shown 128 b (λ b. (s.taken b).count) 0 h)

-- a slot past those used
after_zero : (len end : ℕ) (f : ℕ → ℕ) → ((j : ℕ) → end ≤ j → f j ≡ 0) → (j : ℕ) → end ≤ j → slots (shown len f) j ≡ 0
after_zero len end f h j l = go (dec_lt j len)
  where
    go : Dec (j < len) → slots (shown len f) j ≡ 0
    go (yes k) = get_or_shown len j f 0 k ∙ h j l
    go (no k) = get_or-eq_default (shown len f) 0 (omega (arith, length_shown len f, k))

same_used : (len len' end : ℕ) (f : ℕ → ℕ) → end ≤ len → end ≤ len' → take end (shown len' f) ≡ take end (shown len f)
same_used len len' end f h h' = take_shown end len' f h' ∙ sym (take_shown end len f h)

same : (len len' : ℕ) (s : State) → Right real len s → Right real len' s → Same (ended len (done s)) (ended len' (done s))
same len len' s h h' =
    record {
      records = refl;
      counts = refl;
      used = refl;
      table_used = same_used len len' s.end s.table h.fits h'.fits;
      marks_used = same_used len len' s.end s.marks h.fits h'.fits;
      table_after = after_zero len' s.end s.table h.table_after;
      marks_after = after_zero len' s.end s.marks h.marks_after;
    }

-- ---- two builds from one seed

module _ (seed budget : ℕ) (table marks : List ℕ) (d : SeedSuccess seed budget table marks) (budget' : ℕ) (table' marks' : List ℕ) where
  -- the second success has the first one's state
  state_is : (d' : SeedSuccess seed budget' table' marks') → seed_build real (candidate seed) budget' (length table') ≡ done d.state
  state_is d' = d'.is ∙ ap done (one_success real (candidate seed) budget' (length table') budget (length table) d'.state d.state d'.is d.is)

  left_is : Allowed budget' table' marks' → seed_build real (candidate seed) budget' (length table') ≡ done d.state → from_seed seed budget' table' marks' ≡ ended (length table') (done d.state)
  left_is a e = seed_is seed budget' table' marks' a.budget_allowed a.one_length ∙ ap (ended (length table')) e

  most : largest_count (from_seed seed budget table marks) ≡ most_attempts d.state
  most = ap largest_count d.left ∙ largest_is (length table) d.state

  used : (from_seed seed budget table marks).used ≡ d.state.end
  used = ap (λ (l : Left). l.used) d.left

  decides : Succeeds (from_seed seed budget' table' marks')
      ↔ (Allowed budget' table' marks' × (largest_count (from_seed seed budget table marks) ≤ budget') × ((from_seed seed budget table marks).used ≤ length table'))
  decides = (
    λ e.
        let d' = seed_success seed budget' table' marks' e in (
          record { budget_allowed = d'.budget_allowed; one_length = d'.one_length },
          subst (λ (n : ℕ). n ≤ budget') (sym most) (needs_budget real (candidate seed) budget' (length table') d.state (state_is d')),
          subst (λ (n : ℕ). n ≤ length table') (sym used) (needs_room real (candidate seed) budget' (length table') d.state (state_is d')),
        ),
    λ w.
        ap (λ (l : Left). l.says)
        (left_is w.0 (enough real (candidate seed) budget (length table) budget' (length table') d.state d.is (subst (λ (n : ℕ). n ≤ budget') most w.1) (subst (λ (n : ℕ). n ≤ length table') used w.2))),
  )

  always_same : SeedSuccess seed budget' table' marks' → Same (from_seed seed budget table marks) (from_seed seed budget' table' marks')
  always_same d' =
      let e = state_is d' in
      let a : Allowed budget' table' marks' = record { budget_allowed = d'.budget_allowed; one_length = d'.one_length } in
      subst₂ Same (sym d.left) (sym (left_is a e))
      (same (length table) (length table') d.state (seed_right real laws (candidate seed) budget (length table) d.state d.is) (seed_right real laws (candidate seed) budget' (length table') d.state e))

pub demand_3 : Demand3
demand_3 =
    record {
      decides = λ seed budget table marks e. decides seed budget table marks (seed_success seed budget table marks e);
      always_same = λ seed budget budget' table marks table' marks' e e'. always_same seed budget table marks (seed_success seed budget table marks e) budget' table' marks' (seed_success seed budget' table' marks' e');
      room_stands = λ seed budget budget' block table marks table' marks' more a same_length e.
          let r = seed_refused seed budget 4 block table marks e in
          seed_refuses seed budget' 4 block table' marks' a.budget_allowed a.one_length
          (ap (seed_build real (candidate seed) budget') same_length ∙ room_stands real (candidate seed) budget budget' (length table) block more r.2);
      spent_stands = λ seed budget block table marks table' marks' more one e.
          let r = seed_refused seed budget 5 block table marks e in
          seed_refuses seed budget 5 block table' marks' r.0 one (spent_stands real (candidate seed) budget (length table) (length table') block more r.2);
    }
