-- Each refusal of a build, exactly when, and what it leaves.
-- Assumes nothing.
use Prim.Native.Nat.{ℕ, ◌≤◌, ◌<◌}
use mathlib.Core.Path.{◌≡◌}
use mathlib.Core.List.{List, [], ◌∷◌}
use mathlib.Core.Logic.{◌↔◌}
use native.Mathlib.Omega.{arith}
use native.Mathlib.Decide.{ℕ_discrete, dec_lt}
use lib.ListN.{length}
use Rattle.refusal.specs.Paper.{refuses}
use Rattle.splitmix.specs.SplitMix.{candidate}
use Rattle.packing.specs.Pack.{refused, seed_build, lent_build}
use Rattle.packing.proofs.Refusals.{room_exactly, spent_exactly, room_or_spent, lent_room_exactly, collides_exactly, room_or_collides}
use Rattle.blocks.specs.Real.{real}
use Rattle.gen_magic.specs.Builds.{slots, from_seed, from_lent}
use Rattle.gen_magic.proofs.Came.{seed_is, lent_is}
use Rattle.promises.specs.Demands.{Allowed}
use Rattle.promises.specs.RefusedAt.{FullAt, SpentAt, LentAllowed, LentFullAt, CollidesAt, RefusedAt}
use Rattle.promises.proofs.Demand1.{demand_1}
use Rattle.promises.proofs.Behind.{Behind, bad_exactly, unequal_exactly, other, was, refuses_so, way_leaves}

-- ---- from a seed

module _ (seed budget : ℕ) (table marks : List ℕ) where
  low : Dec (budget ≤ 16777216)
  low = go (dec_lt 16777216 budget)
    where
      go : Dec (16777216 < budget) → Dec (budget ≤ 16777216)
      go (yes h) = no (λ l. omega arith)
      go (no f) = yes (omega (arith, f))

  behind_seed : Behind (from_seed seed budget table marks) table marks 10 5 (budget ≤ 16777216) (seed_build real (candidate seed) budget (length table))
  behind_seed =
      record {
        good = low;
        apart = λ e. omega arith;
        bad_left = λ f. (demand_1.budget_refused seed budget table marks (omega (arith, f))).says;
        unequal_left = λ h f. (demand_1.lengths_refused seed budget table marks h f).says;
        allowed_left = seed_is seed budget table marks;
        two = λ n b e. room_or_spent real (candidate seed) budget (length table) b n e;
      }

  budget_above : ((from_seed seed budget table marks).says ≡ refuses 10 []) ↔ (16777216 < budget)
  budget_above = (λ e. let f = (bad_exactly behind_seed).0 e in omega (arith, f), λ h. (bad_exactly behind_seed).1 (λ l. omega arith))

  allowed_was : (n block : ℕ) → (from_seed seed budget table marks).says ≡ refuses n (block ∷ []) → Allowed budget table marks × (seed_build real (candidate seed) budget (length table) ≡ refused n block)
  allowed_was n block e = let w = was behind_seed n block e in (record { budget_allowed = w.0; one_length = w.1 }, w.2)

  no_room : (block : ℕ) → ((from_seed seed budget table marks).says ≡ refuses 4 (block ∷ [])) ↔ (Allowed budget table marks × FullAt seed budget (length table) block)
  no_room block =
      let x = room_exactly real (candidate seed) budget (length table) block in
      (λ e. let w = allowed_was 4 block e in (w.0, x.0 w.1), λ w. refuses_so behind_seed w.0.budget_allowed w.0.one_length 4 block (x.1 w.1))

  spent : (block : ℕ) → ((from_seed seed budget table marks).says ≡ refuses 5 (block ∷ [])) ↔ (Allowed budget table marks × SpentAt seed budget (length table) block)
  spent block =
      let x = spent_exactly real (candidate seed) budget (length table) block in
      (λ e. let w = allowed_was 5 block e in (w.0, x.0 w.1), λ w. refuses_so behind_seed w.0.budget_allowed w.0.one_length 5 block (x.1 w.1))

-- ---- from lent multipliers

module _ (multipliers table marks : List ℕ) where
  behind_lent : Behind (from_lent multipliers table marks) table marks 9 6 (length multipliers ≡ 128) (lent_build real (slots multipliers) (length table))
  behind_lent =
      record {
        good = ℕ_discrete (length multipliers) 128;
        apart = λ e. omega arith;
        bad_left = λ f. (demand_1.list_refused multipliers table marks f).says;
        unequal_left = λ h f. (demand_1.lent_lengths_refused multipliers table marks h f).says;
        allowed_left = lent_is multipliers table marks;
        two = λ n b e. room_or_collides real (slots multipliers) (length table) b n e;
      }

  lent_was : (n block : ℕ) → (from_lent multipliers table marks).says ≡ refuses n (block ∷ []) → LentAllowed multipliers table marks × (lent_build real (slots multipliers) (length table) ≡ refused n block)
  lent_was n block e = let w = was behind_lent n block e in (record { list_allowed = w.0; one_length = w.1 }, w.2)

  lent_no_room : (block : ℕ) → ((from_lent multipliers table marks).says ≡ refuses 4 (block ∷ [])) ↔ (LentAllowed multipliers table marks × LentFullAt (slots multipliers) (length table) block)
  lent_no_room block =
      let x = lent_room_exactly real (slots multipliers) (length table) block in
      (λ e. let w = lent_was 4 block e in (w.0, x.0 w.1), λ w. refuses_so behind_lent w.0.list_allowed w.0.one_length 4 block (x.1 w.1))

  collides : (block : ℕ) → ((from_lent multipliers table marks).says ≡ refuses 6 (block ∷ [])) ↔ (LentAllowed multipliers table marks × CollidesAt (slots multipliers) (length table) block)
  collides block =
      let x = collides_exactly real (slots multipliers) (length table) block in
      (λ e. let w = lent_was 6 block e in (w.0, x.0 w.1), λ w. refuses_so behind_lent w.0.list_allowed w.0.one_length 6 block (x.1 w.1))

pub refused_at : RefusedAt
refused_at =
    record {
      budget_above = budget_above;
      unequal = λ seed budget table marks. unequal_exactly (behind_seed seed budget table marks);
      no_room = no_room;
      spent = spent;
      on_the_way_leaves = λ seed budget table marks. way_leaves (behind_seed seed budget table marks);
      nothing_else = λ seed budget table marks. other (behind_seed seed budget table marks);
      list_not_128 = λ multipliers table marks. bad_exactly (behind_lent multipliers table marks);
      lent_unequal = λ multipliers table marks. unequal_exactly (behind_lent multipliers table marks);
      lent_no_room = lent_no_room;
      collides = collides;
      lent_on_the_way_leaves = λ multipliers table marks. way_leaves (behind_lent multipliers table marks);
      lent_nothing_else = λ multipliers table marks. other (behind_lent multipliers table marks);
    }
