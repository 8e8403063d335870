-- Demand 1.
-- Assumes nothing.
use Prim.Native.Nat.{ℕ, ◌≤◌, ◌<◌}
use mathlib.Core.Path.{◌≡◌, refl, sym, ap, ap₂, ◌∙◌}
use mathlib.Core.Bool.{Bool, true, not, ◌||◌}
use mathlib.Core.List.{List, ◌∷◌, []}
use mathlib.Core.Logic.{◌⊎◌, inl, inr}
use native.Mathlib.Omega.{arith}
use borrow.Author.Tests.{lt-ltb, le-ltb, eq-eqb, ne_eqb}
use lib.Dec.{ltb}
use lib.ListN.{length, replicate}
use Rattle.std.specs.Prelude.{Option}
use Rattle.refusal.specs.Paper.{Said, gives, refuses, refuse_if}
use Rattle.square.specs.Square.{square_of}
use Rattle.board.specs.Board.{rays, on_block}
use Rattle.board.proofs.Blocks.{on_block_lem}
use Rattle.bmis.specs.Bmis as Bmis
use Rattle.splitmix.specs.SplitMix.{candidate}
use Rattle.packing.specs.declared.Taken.{Taken}
use Rattle.packing.specs.Pack.{Outcome, done, refused, run, by_search, by_lent, seed_build, lent_build}
use Rattle.packing.proofs.Run.{stopped}
use Rattle.packing.proofs.Refusals.{room_or_spent, room_or_collides}
use Rattle.blocks.specs.Real.{real}
use Rattle.gen_magic.specs.declared.Record.{Record}
use Rattle.gen_magic.specs.Builds.{slots, Left, empty, ended, from_seed, from_lent}
use Rattle.gen_magic.proofs.Answers.{kept, passed}
use Rattle.gen_magic.proofs.Came.{seed_is, lent_is}
use Rattle.magic.specs.LookUp.{look_up}
use Rattle.magic.proofs.LookUps.{outside, look_8, look_7}
use Rattle.magic.proofs.Audits.{inside}
use Rattle.promises.specs.Demands.{Succeeds, Refused, Demand1}

kind_refused : {A : Type 0} (kind sq : ℕ) (x : Said A) → 1 < kind → on_block kind sq x ≡ refuses 1 []
kind_refused kind sq x h = ap (λ (c : Bool). refuse_if c 1 (refuse_if (ltb 63 sq) 2 x)) (lt-ltb 1 kind h)

square_refused : {A : Type 0} (kind sq : ℕ) (x : Said A) → kind ≤ 1 → 63 < sq → on_block kind sq x ≡ refuses 2 []
square_refused kind sq x h g = ap₂ (λ (c d : Bool). refuse_if c 1 (refuse_if d 2 x)) (le-ltb 1 kind h) (lt-ltb 63 sq g)

-- the first test decides
refused_if : {A : Type 0} {c : Bool} (n : ℕ) (x : Said A) → c ≡ true → refuse_if c n x ≡ refuses n []
refused_if n x e = ap (λ (c : Bool). refuse_if c n x) e

-- zeros beside a refusal, field by field
pub zeros : {left : Left} {number : ℕ} {values table marks : List ℕ} → left ≡ empty number values table marks → Refused left number values table marks
zeros e =
    record {
      says = ap (λ (l : Left). l.says) e;
      records = ap (λ (l : Left). l.records) e;
      counts = ap (λ (l : Left). l.counts) e;
      used = ap (λ (l : Left). l.used) e;
      table_left = ap (λ (l : Left). l.table) e;
      marks_left = ap (λ (l : Left). l.marks) e;
    }

shift_refused : (kind sq blockers : ℕ) (r : Record) (table : List ℕ) → kind < 2 → sq < 64 → (r.shift < 52) ⊎ (59 < r.shift) → on_block kind sq (look_up kind sq blockers r table) ≡ refuses 8 []
shift_refused kind sq blockers r table hk hs h = on_block_lem kind sq _ hk hs ∙ sym (look_8 (rays kind sq) blockers r table (outside_is r.shift h))
  where
    outside_is : (n : ℕ) → (n < 52) ⊎ (59 < n) → outside n ≡ true
    outside_is n (inl l) = ap (λ (c : Bool). c || ltb 59 n) (lt-ltb n 52 l)
    outside_is n (inr l) = ap₂ ◌||◌ (le-ltb n 52 (omega arith)) (lt-ltb 59 n l)

pext_refused : (old : List ℕ) → (length old ≡ 107648 → ⊥) → (Bmis.of_length {A = ℕ} (length old) (gives 107648) ≡ refuses 9 []) × (Bmis.filled old ≡ old)
pext_refused old f = let e = ne_eqb (length old) 107648 f in
    (ap (λ (c : Bool). refuse_if (not c) 9 (gives 107648)) e, ap (λ (c : Bool). Bmis.filled_if c old) e)

budget_refused : (seed budget : ℕ) (table marks : List ℕ) → 16777216 < budget → Refused (from_seed seed budget table marks) 10 [] table marks
unfolding from_seed
budget_refused seed budget table marks h = zeros (kept 10 table marks _ _ (lt-ltb 16777216 budget h))

lengths_refused : (seed budget : ℕ) (table marks : List ℕ) → budget ≤ 16777216 → (length table ≡ length marks → ⊥) → Refused (from_seed seed budget table marks) 3 [] table marks
unfolding from_seed
lengths_refused seed budget table marks h f = zeros (passed 10 table marks _ _ (le-ltb 16777216 budget h) ∙ kept 3 table marks _ _ (ap not (ne_eqb (length table) (length marks) f)))

list_refused : (multipliers table marks : List ℕ) → (length multipliers ≡ 128 → ⊥) → Refused (from_lent multipliers table marks) 9 [] table marks
unfolding from_lent
list_refused multipliers table marks f = zeros (kept 9 table marks _ _ (ap not (ne_eqb (length multipliers) 128 f)))

lent_lengths_refused : (multipliers table marks : List ℕ) → length multipliers ≡ 128 → (length table ≡ length marks → ⊥) → Refused (from_lent multipliers table marks) 3 [] table marks
unfolding from_lent
lent_lengths_refused multipliers table marks h f = zeros (passed 9 table marks _ _ (ap not (eq-eqb (length multipliers) 128 h)) ∙ kept 3 table marks _ _ (ap not (ne_eqb (length table) (length marks) f)))

-- what an outcome leaves
on_the_way : (left : Left) (len other : ℕ) (o : Outcome) → left ≡ ended len o → ((n b : ℕ) → o ≡ refused n b → ((n ≡ 4) ⊎ (n ≡ other)) × (b < 128))
    → Succeeds left ⊎ ((number : ℕ) × (block : ℕ) × ((number ≡ 4) ⊎ (number ≡ other)) × (block < 128) × Refused left number (block ∷ []) (replicate len 0) (replicate len 0))
on_the_way left len other (done s) e h = inl (ap (λ (l : Left). l.says) e)
on_the_way left len other (refused n b) e h = inr (n, b, (h n b refl).0, (h n b refl).1, zeros e)

block_low : (len why : ℕ) (choice : ℕ → Option Taken) (n b : ℕ) → run real len why choice 128 ≡ refused n b → b < 128
block_low len why choice n b e = (stopped real len why choice 128 n b e).0

pub demand_1 : Demand1
unfolding seed_build lent_build
demand_1 =
    record {
      kind_refused = kind_refused;
      square_refused = square_refused;
      off_the_board = λ sq x h. refused_if 2 x (lt-ltb 63 sq h);
      rank_refused = λ rank file h. refused_if 2 _ (lt-ltb 7 rank h);
      file_refused = λ rank file h g. ap₂ (λ (c d : Bool). refuse_if c 2 (refuse_if d 2 (gives (square_of rank file)))) (le-ltb 7 rank h) (lt-ltb 7 file g);
      name_refused = λ bytes h. refused_if 2 _ (lt-ltb (length bytes) 2 h);
      empty_refused = refl;
      pext_refused = pext_refused;
      pext_look_up_refused = λ kind sq entries x h g f. on_block_lem kind sq _ h g ∙ refused_if 9 x (ap not (ne_eqb entries 107648 f));
      shift_refused = shift_refused;
      index_refused = λ kind sq blockers r table hk hs h g l. on_block_lem kind sq _ hk hs ∙ sym (look_7 (rays kind sq) blockers r table (inside r.shift (h, g)) l);
      budget_refused = budget_refused;
      lengths_refused = lengths_refused;
      list_refused = list_refused;
      lent_lengths_refused = lent_lengths_refused;
      on_the_way = λ seed budget table marks a.
          on_the_way (from_seed seed budget table marks) (length table) 5 (seed_build real (candidate seed) budget (length table)) (seed_is seed budget table marks a.budget_allowed a.one_length)
          (λ n b e. (room_or_spent real (candidate seed) budget (length table) b n e, block_low (length table) 5 (by_search real (candidate seed) budget) n b e));
      lent_on_the_way = λ multipliers table marks h e.
          on_the_way (from_lent multipliers table marks) (length table) 6 (lent_build real (slots multipliers) (length table)) (lent_is multipliers table marks h e)
          (λ n b e. (room_or_collides real (slots multipliers) (length table) b n e, block_low (length table) 6 (by_lent real (slots multipliers)) n b e));
    }
