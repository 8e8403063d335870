-- The examples of builds: for every seed.
-- Assumes nothing.
use Prim.Native.Nat.{ℕ, ◌≤◌, ◌<◌}
use mathlib.Core.Path.{◌≡◌, sym, ap, ◌∙◌}
use mathlib.Core.Bool.{Bool, true, false, not}
use mathlib.Core.List.{List, [], ◌∷◌}
use native.Mathlib.Omega.{arith}
use lib.Dec.{eqb, lit<}
use lib.ListN.{length}
use Rattle.refusal.specs.Paper.{Said, refuses}
use Rattle.refusal.proofs.Said.{gives_not}
use Rattle.bits.proofs.Shown.{get_or_shown}
use Rattle.splitmix.specs.SplitMix.{candidate}
use Rattle.packing.specs.Pack.{State, Outcome, done, refused, seed_build}
use Rattle.packing.specs.Promised.{after, taken_by}
use Rattle.packing.proofs.Exactly.{exactly_when, after_offset}
use Rattle.blocks.specs.Real.{real}
use Rattle.blocks.proofs.Board.{room_63, spent_64, room_0, first_place, second_place}
use Rattle.gen_magic.specs.declared.Record.{Record}
use Rattle.gen_magic.specs.Builds.{no_record, Left, ended, kept_if, from_seed, record_of}
use Rattle.gen_magic.proofs.Came.{seed_success, seed_refuses}
use Rattle.promises.specs.Demands.{Succeeds}
use Rattle.promises.specs.Examples.{offset_at}
use Rattle.promises.proofs.Demand1.{demand_1}

-- a build in so many slots
says : (seed budget len n : ℕ) (table marks : List ℕ) → budget ≤ 16777216 → length table ≡ len → length marks ≡ len → seed_build real (candidate seed) budget len ≡ refused n 0 → (from_seed seed budget table marks).says ≡ refuses n (0 ∷ [])
says seed budget len n table marks h et em e =
    seed_refuses seed budget n 0 table marks h (et ∙ sym em) (ap (seed_build real (candidate seed) budget) et ∙ e)

pub in_63 : (seed budget : ℕ) (table marks : List ℕ) → budget ≤ 16777216 → length table ≡ 63 → length marks ≡ 63 → (from_seed seed budget table marks).says ≡ refuses 4 (0 ∷ [])
in_63 seed budget table marks h et em = says seed budget 63 4 table marks h et em (room_63 (candidate seed) budget)

pub in_64 : (seed : ℕ) (table marks : List ℕ) → length table ≡ 64 → length marks ≡ 64 → (from_seed seed 0 table marks).says ≡ refuses 5 (0 ∷ [])
in_64 seed table marks et em = says seed 0 64 5 table marks (omega arith) et em (spent_64 (candidate seed))

pub in_0 : (seed : ℕ) (table marks : List ℕ) → length table ≡ 0 → length marks ≡ 0 → (from_seed seed 0 table marks).says ≡ refuses 4 (0 ∷ [])
in_0 seed table marks et em = says seed 0 0 4 table marks (omega arith) et em (room_0 (candidate seed))

-- the two bishops at the table's beginning
pub on_top : (seed budget : ℕ) (table marks : List ℕ) → Succeeds (from_seed seed budget table marks) → (offset_at (from_seed seed budget table marks) 0 ≡ 0) × (offset_at (from_seed seed budget table marks) 1 ≡ 0)
unfolding after
on_top seed budget table marks e =
    let d = seed_success seed budget table marks e in
    let w = (exactly_when real (candidate seed) budget (length table) d.state).0 d.is in
    let taken = taken_by (candidate seed) w.0 in (
      at d.state d.left 0 (lit< tt) ∙ ap (λ (s : State). s.offset 0) w.2 ∙ after_offset real taken 128 0 (lit< tt) ∙ first_place,
      at d.state d.left 1 (lit< tt) ∙ ap (λ (s : State). s.offset 1) w.2 ∙ after_offset real taken 128 1 (lit< tt) ∙ second_place (taken 0),
    )
  where
    at : (s : State) → from_seed seed budget table marks ≡ ended (length table) (done s) → (b : ℕ) → b < 128 → offset_at (from_seed seed budget table marks) b ≡ s.offset b
    at s q b h =
        ap (λ (l : Left). offset_at l b) q
        ∙ ap (λ (r : Record). r.offset) (get_or_shown 128 b (record_of s) no_record h)

-- the largest budget, and one above
pub taken_at_the_limit : (seed : ℕ) (table marks : List ℕ) → (from_seed seed 16777216 table marks).says ≡ refuses 10 [] → ⊥
unfolding from_seed
taken_at_the_limit seed table marks e = one (eqb (length table) (length marks)) (seed_build real (candidate seed) 16777216 (length table)) e
  where
    ten : {n : ℕ} {l : List ℕ} → (n ≡ 10 → ⊥) → ◌≡◌ {A = Said Unit} (refuses n l) (refuses 10 []) → ⊥
    ten f q = f cc

    two : (o : Outcome) → (ended (length table) o).says ≡ refuses 10 [] → ⊥
    two (done s) q = gives_not q
    two (refused n b) q = let z : ◌≡◌ {A = ℕ} 0 1 = cc in omega arith

    one : (c : Bool) (o : Outcome) → (kept_if (not c) 3 table marks (ended (length table) o)).says ≡ refuses 10 [] → ⊥
    one true o q = two o q
    one false o q = ten (λ z. omega arith) q

pub refused_above : (seed : ℕ) (table marks : List ℕ) → (from_seed seed 16777217 table marks).says ≡ refuses 10 []
refused_above seed table marks = (demand_1.budget_refused seed 16777217 table marks (lit< tt)).says
