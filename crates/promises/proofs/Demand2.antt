-- Demand 2.
-- Assumes nothing.
use Prim.Native.Nat.{ℕ, ◌^◌, ◌<◌}
use mathlib.Core.Path.{◌≡◌, refl, sym, ap, ap₂, ◌∙◌, subst}
use mathlib.Core.Bool.{Bool, not}
use mathlib.Core.List.{List}
use mathlib.Core.Logic.{◌↔◌}
use borrow.Author.Tests.{eq-eqb}
use lib.ListN.{length}
use Rattle.refusal.specs.Paper.{gives, refuse_if}
use Rattle.bits.specs.Shown.{shown}
use Rattle.bits.proofs.Shown.{get_or_shown}
use Rattle.board.specs.Board.{attack}
use Rattle.board.proofs.Blocks.{on_block_lem}
use Rattle.board.proofs.Attack.{walk_attack}
use Rattle.board.proofs.CrateWalk.{crate_answer}
use Rattle.bmis.specs.Bmis as Bmis
use Rattle.bmis.proofs.Sums.{all_sizes}
use Rattle.bmis.proofs.Entries.{length_entries, filled_look_up}
use Rattle.splitmix.specs.SplitMix.{candidate}
use Rattle.packing.specs.declared.Taken.{Taken}
use Rattle.packing.specs.Pack.{State, place, done}
use Rattle.packing.specs.Promised.{Placed, after, taken_by, EachFirst, lent_at, EachClean, Right}
use Rattle.packing.proofs.Places.{place_first, one_place}
use Rattle.packing.proofs.Exactly.{after_offset, exactly_when, lent_exactly_when, after_taken}
use Rattle.packing.proofs.Right.{seed_right, lent_right}
use Rattle.blocks.specs.Real.{real}
use Rattle.blocks.proofs.Real.{laws}
use Rattle.gen_magic.specs.Builds.{slots, record_at, no_record, Left, ended, from_seed, from_lent, record_in, record_of}
use Rattle.gen_magic.proofs.Came.{seed_is, lent_is, seed_success, lent_success}
use Rattle.magic.proofs.Attacks.{look_up_attack, built_holds}
use Rattle.promises.specs.Demands.{Succeeds, Allowed, LooksUp, OneAnswer, Demand2}

module _ (kind sq blockers : ℕ) (hk : kind < 2) (hs : sq < 64) (hb : blockers < 2 ^ 64) where
  by_pext : (old : List ℕ) → length old ≡ 107648 → Bmis.in_table kind sq (length (Bmis.filled old)) (gives (Bmis.look_up kind sq blockers (Bmis.filled old))) ≡ gives (attack kind sq blockers)
  by_pext old e =
      ap (λ (c : Bool). Bmis.in_table kind sq (length (Bmis.filled_if c old)) (gives (Bmis.look_up kind sq blockers (Bmis.filled_if c old)))) (eq-eqb (length old) 107648 e)
      ∙ on_block_lem kind sq _ hk hs
      ∙ ap (λ (c : Bool). refuse_if (not c) 9 (gives (Bmis.look_up kind sq blockers (Bmis.entries_to 128)))) (eq-eqb (length (Bmis.entries_to 128)) 107648 (length_entries 128 ∙ all_sizes))
      ∙ ap gives (filled_look_up kind sq blockers hk hs hb)

  -- in what a success left
  looks_up : (left : Left) (len : ℕ) (s : State) → left ≡ ended len (done s) → Right real len s → LooksUp left kind sq blockers
  looks_up left len s e h =
      subst (λ (l : Left). LooksUp l kind sq blockers) (sym e)
      (on_block_lem kind sq _ hk hs ∙ look_up_attack (shown 128 (record_of s)) _ (built_holds len s h) kind sq blockers hk hs hb)

  one_answer : OneAnswer kind sq blockers
  one_answer =
      record {
        by_walk = on_block_lem kind sq _ hk hs ∙ ap gives (walk_attack kind sq hk hs blockers);
        by_pext = by_pext;
        by_seed = λ seed budget table marks e.
            let d = seed_success seed budget table marks e in
            looks_up _ (length table) d.state d.left (seed_right real laws (candidate seed) budget (length table) d.state d.is);
        by_lent = λ multipliers table marks e.
            let d = lent_success multipliers table marks e in
            looks_up _ (length table) d.state d.left (lent_right real laws _ (length table) d.state d.is);
        by_crate = crate_answer kind sq blockers hk hs;
      }

module _ (seed budget : ℕ) (table marks : List ℕ) (a : Allowed budget table marks) where
  takes_first : (position : ℕ → ℕ) → EachFirst real (candidate seed) budget (length table) position 128 → from_seed seed budget table marks ≡ ended (length table) (done (after real (taken_by (candidate seed) position) 128))
  takes_first position h =
      seed_is seed budget table marks a.budget_allowed a.one_length
      ∙ ap (ended (length table)) ((exactly_when real (candidate seed) budget (length table) _).1 (position, h, refl))

  succeeds_exactly : Succeeds (from_seed seed budget table marks) ↔ ((position : ℕ → ℕ) × EachFirst real (candidate seed) budget (length table) position 128)
  succeeds_exactly = (
    λ e.
        let d = seed_success seed budget table marks e in
        let w = (exactly_when real (candidate seed) budget (length table) d.state).0 d.is in
        (w.0, w.1),
    λ w. ap (λ (l : Left). l.says) (takes_first w.0 w.1),
  )

first_free : (b : ℕ) (s : State) (p : ℕ) → Placed (real.size b) (real.rays b) s.marks s.end p ↔ (p ≡ place real b s)
first_free b s p = (
  λ h. one_place (real.size b) (real.rays b) s.marks s.end p (place real b s) h (place_first real b s),
  λ e. subst (Placed (real.size b) (real.rays b) s.marks s.end) (sym e) (place_first real b s),
)

-- block by block, of either build
of_block : (left : Left) (len : ℕ) (taken : ℕ → Taken) → left ≡ ended len (done (after real taken 128)) → (b : ℕ) → b < 128
    → (record_in left.records b ≡ record_at b (taken b).multiplier (place real b (after real taken b))) × (slots left.counts b ≡ (taken b).count)
of_block left len taken e b h =
    let s : State = after real taken 128 in
    let t : s.taken b ≡ taken b = after_taken real taken 128 b h in (
      ap (λ (l : Left). record_in l.records b) e ∙ get_or_shown 128 b (record_of s) no_record h
          ∙ ap₂ (λ (x : Taken) (o : ℕ). record_at b x.multiplier o) t (after_offset real taken 128 b h),
      ap (λ (l : Left). slots l.counts b) e ∙ get_or_shown 128 b (λ b. (s.taken b).count) 0 h ∙ ap (λ (x : Taken). x.count) t,
    )

module _ (multipliers table marks : List ℕ) (h : length multipliers ≡ 128) (e : length table ≡ length marks) where
  lent_takes : EachClean real (slots multipliers) (length table) 128 → from_lent multipliers table marks ≡ ended (length table) (done (after real (lent_at (slots multipliers)) 128))
  lent_takes w = lent_is multipliers table marks h e ∙ ap (ended (length table)) ((lent_exactly_when real (slots multipliers) (length table) _).1 (w, refl))

  lent_exactly : Succeeds (from_lent multipliers table marks) ↔ EachClean real (slots multipliers) (length table) 128
  lent_exactly = (
    λ q. let d = lent_success multipliers table marks q in ((lent_exactly_when real (slots multipliers) (length table) d.state).0 d.is).0,
    λ w. ap (λ (l : Left). l.says) (lent_takes w),
  )

pub demand_2 : Demand2
demand_2 =
    record {
      one_answer = one_answer;
      fills = λ old e. ap (λ (c : Bool). refuse_if {A = ℕ} (not c) 9 (gives 107648)) (eq-eqb (length old) 107648 e);
      succeeds_exactly = succeeds_exactly;
      first_free = first_free;
      takes_first = takes_first;
      block_by_block = λ seed budget table marks a position w. of_block _ (length table) (taken_by (candidate seed) position) (takes_first seed budget table marks a position w);
      lent_exactly = lent_exactly;
      lent_takes = lent_takes;
      lent_block_by_block = λ multipliers table marks h e w. of_block _ (length table) (lent_at (slots multipliers)) (lent_takes multipliers table marks h e w);
    }
