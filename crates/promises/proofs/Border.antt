-- The border loses nothing.
-- Assumes nothing.
use Prim.Native.Nat.{ℕ}
use mathlib.Core.Path.{◌≡◌, refl, sym, subst}
use mathlib.Core.Bool.{Bool, true, false, not, ◌||◌}
use mathlib.Core.List.{List, [], ◌∷◌}
use mathlib.Core.Logic.{◌⊎◌, inl, inr}
use lib.Dec.{eqb, leb, ltb}
use lib.ListN.{length, get_or}
use Rattle.std.specs.Prelude.{Option, Some, None}
use Rattle.refusal.specs.Paper.{Said, gives, refuses, refuse_if}
use Rattle.packing.specs.declared.Taken.{Taken}
use Rattle.packing.specs.Pack.{by_search}
use Rattle.blocks.specs.Real.{real}
use Rattle.splitmix.specs.SplitMix.{candidate}
use Rattle.candidates.specs.OneBlock.{chosen_or, search_of}
use Rattle.gen_magic.specs.declared.Record.{Record}
use Rattle.gen_magic.specs.Builds.{Left, from_seed, from_lent}
use Rattle.magic.specs.LookUp.{slot_in, look_with, look_up}
use Rattle.magic.specs.Audit.{audit_says}
use Rattle.magic.proofs.Faults.{fault, Fault}
use Rattle.slider.specs.Flat.{answer_of, verdict_of, found_of, place_of, name_of, step_of, handed_of}
use Rattle.promises.specs.Border.{answer_in, place_in, name_in, step_in, found_in, verdict_in, left_in, Border}
use Rattle.promises.proofs.RefusedAt.{refused_at}

-- ---- a test before what can be told

-- what is told of a call's words by two functions, there and back
module _ {A B : Type 0} (f : Said A → B) (g : B → Said A) where
  -- a refusal by its number alone comes back
  abbrev Back : Said A → Type 0
  Back x = g (f x) ≡ x

  back_if : (c : Bool) (n : ℕ) (x : Said A) → Back (refuses n []) → Back x → Back (refuse_if c n x)
  back_if true n x r h = r
  back_if false n x r h = h

-- ---- look-ups

abbrev Told : Said ℕ → Type 0
Told x = answer_in (answer_of x) ≡ x

told_if : (c : Bool) (n : ℕ) (x : Said ℕ) → Told (refuses n []) → Told x → Told (refuse_if c n x)
told_if = back_if answer_of answer_in

looked_up : (kind sq blockers : ℕ) (r : Record) (table : List ℕ) → Told (look_up kind sq blockers r table)
unfolding look_with
looked_up kind sq blockers r table =
    told_if (ltb r.shift 52 || ltb 59 r.shift) 8 _ refl
    (told_if (leb (length table) (slot_in r blockers)) 7 _ refl refl)

-- ---- the search

searched : (block seed budget : ℕ) → found_in (found_of (search_of block seed budget)) ≡ search_of block seed budget
unfolding search_of
searched block seed budget = back_if found_of found_in (ltb 16777216 budget) 10 (chosen_or 5 block (by_search real (candidate seed) budget block)) refl (chosen (by_search real (candidate seed) budget block))
  where
    chosen : (c : Option Taken) → found_in (found_of (chosen_or 5 block c)) ≡ chosen_or 5 block c
    chosen None = refl
    chosen (Some x) = refl

-- ---- the audit

verdict_back : (records : List Record) (table : List ℕ) (x : Said ℕ) → audit_says records table ≡ x → verdict_in (verdict_of x) ≡ x
verdict_back records table (gives v) e = refl
verdict_back records table (refuses n l) e = go (fault records table n l e)
  where
    go : Fault records table n l → verdict_in (verdict_of (refuses n l)) ≡ refuses n l
    go (b, inl w) = subst (λ (m : ℕ). verdict_in (verdict_of (refuses m l)) ≡ refuses m l) (sym w.0) (subst (λ (v : List ℕ). verdict_in (verdict_of (refuses 8 v)) ≡ refuses 8 v) (sym w.1) refl)
    go (b, inr (i, q, (r, inl w))) = subst (λ (m : ℕ). verdict_in (verdict_of (refuses m l)) ≡ refuses m l) (sym w.0) (subst (λ (v : List ℕ). verdict_in (verdict_of (refuses 7 v)) ≡ refuses 7 v) (sym q) refl)
    go (b, inr (i, q, (r, inr w))) = subst (λ (m : ℕ). verdict_in (verdict_of (refuses m l)) ≡ refuses m l) (sym w.0) (subst (λ (v : List ℕ). verdict_in (verdict_of (refuses 11 v)) ≡ refuses 11 v) (sym q) refl)

-- ---- the builds

-- what is told of an outcome
abbrev says_in : Said Unit → Said Unit
says_in x = (left_in (handed_of (record { says = x; records = []; counts = []; used = 0; table = []; marks = [] }))).says

back : (number : ℕ) → (says_in (refuses number []) ≡ refuses number []) → (why : ℕ) → ((b : ℕ) → says_in (refuses why (b ∷ [])) ≡ refuses why (b ∷ [])) → (n : ℕ) (l : List ℕ)
    → ((n ≡ number) × (l ≡ [])) ⊎ ((n ≡ 3) × (l ≡ [])) ⊎ ((block : ℕ) × ((n ≡ 4) ⊎ (n ≡ why)) × (l ≡ block ∷ [])) → says_in (refuses n l) ≡ refuses n l
back number hn why hw n l (inl w) = subst (λ (m : ℕ). says_in (refuses m l) ≡ refuses m l) (sym w.0) (subst (λ (v : List ℕ). says_in (refuses number v) ≡ refuses number v) (sym w.1) hn)
back number hn why hw n l (inr (inl w)) = subst (λ (m : ℕ). says_in (refuses m l) ≡ refuses m l) (sym w.0) (subst (λ (v : List ℕ). says_in (refuses 3 v) ≡ refuses 3 v) (sym w.1) refl)
back number hn why hw n l (inr (inr (b, inl q, e))) = subst (λ (m : ℕ). says_in (refuses m l) ≡ refuses m l) (sym q) (subst (λ (v : List ℕ). says_in (refuses 4 v) ≡ refuses 4 v) (sym e) refl)
back number hn why hw n l (inr (inr (b, inr q, e))) = subst (λ (m : ℕ). says_in (refuses m l) ≡ refuses m l) (sym q) (subst (λ (v : List ℕ). says_in (refuses why v) ≡ refuses why v) (sym e) (hw b))

left_back : (left : Left) → says_in left.says ≡ left.says → left_in (handed_of left) ≡ left
left_back left e = λ i. record { says = e i; records = left.records; counts = left.counts; used = left.used; table = left.table; marks = left.marks }

seed_said : (seed budget : ℕ) (table marks : List ℕ) (x : Said Unit) → (from_seed seed budget table marks).says ≡ x → says_in x ≡ x
seed_said seed budget table marks (gives u) e = refl
seed_said seed budget table marks (refuses n l) e = back 10 refl 5 (λ b. refl) n l (refused_at.nothing_else seed budget table marks n l e)

lent_said : (multipliers table marks : List ℕ) (x : Said Unit) → (from_lent multipliers table marks).says ≡ x → says_in x ≡ x
lent_said multipliers table marks (gives u) e = refl
lent_said multipliers table marks (refuses n l) e = back 9 refl 6 (λ b. refl) n l (refused_at.lent_nothing_else multipliers table marks n l e)

pub border : Border
border =
    record {
      by_kind_and_square = λ kind sq x. told_if (ltb 1 kind) 1 _ refl (told_if (ltb 63 sq) 2 (gives x) refl refl);
      square_read = λ l. told_if (ltb (length l) 2) 2 _ refl (told_if (ltb (get_or l 0 0) 97) 2 _ refl (told_if (ltb 104 (get_or l 0 0)) 2 _ refl (told_if (ltb (get_or l 1 0) 49) 2 _ refl (told_if (ltb 56 (get_or l 1 0)) 2 _ refl refl))));
      name_written = λ sq. back_if name_of name_in (ltb 63 sq) 2 _ refl refl;
      stepped = λ sq to. back_if step_of step_in (ltb 63 sq) 2 (gives to) refl (there to);
      pext_filled = λ entries x. told_if (not (eqb entries 107648)) 9 (gives x) refl refl;
      pext_looked_up = λ kind sq entries x. told_if (ltb 1 kind) 1 _ refl (told_if (ltb 63 sq) 2 _ refl (told_if (not (eqb entries 107648)) 9 (gives x) refl refl));
      pext_placed = λ kind sq entries. back_if place_of place_in (ltb 1 kind) 1 _ refl (back_if place_of place_in (ltb 63 sq) 2 _ refl (back_if place_of place_in (not (eqb entries 107648)) 9 _ refl refl));
      looked_up = λ kind sq blockers r table. told_if (ltb 1 kind) 1 _ refl (told_if (ltb 63 sq) 2 _ refl (looked_up kind sq blockers r table));
      searched = λ kind sq seed budget. back_if found_of found_in (ltb 1 kind) 1 _ refl (back_if found_of found_in (ltb 63 sq) 2 _ refl (searched _ seed budget));
      audited = λ records table. verdict_back records table (audit_says records table) refl;
      built = λ seed budget table marks. left_back (from_seed seed budget table marks) (seed_said seed budget table marks _ refl);
      built_lent = λ multipliers table marks. left_back (from_lent multipliers table marks) (lent_said multipliers table marks _ refl);
    }
  where
    there : (to : Option ℕ) → step_in (step_of (gives to)) ≡ gives to
    there (Some t) = refl
    there None = refl
