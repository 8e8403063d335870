-- What is promised of the audit, and of a build's numbers.
-- Assumes nothing.
use Prim.Native.Nat.{ℕ, ◌+◌, ◌^◌, ◌≤◌, ◌<◌, zero-le}
use mathlib.Core.Path.{◌≡◌, refl, sym, ap, ◌∙◌, subst}
use mathlib.Core.Bool.{Bool, true, false, not}
use mathlib.Core.List.{List}
use native.Mathlib.Omega.{arith}
use native.Mathlib.Decide.{dec_lt}
use lib.Dec.{eqb, ltb}
use lib.ListN.{length, replicate, get_or-eq_default}
use Rattle.refusal.specs.Paper.{gives}
use Rattle.bits.specs.Shown.{shown}
use Rattle.bits.proofs.Shown.{get_or_same, get_or_shown, length_shown}
use Rattle.board.specs.Blocks.{kind_of, square_of, size_of}
use Rattle.board.proofs.Blocks.{on_block_lem}
use Rattle.board.proofs.Attack.{walk_attack}
use Rattle.splitmix.specs.SplitMix.{candidate}
use Rattle.packing.specs.Pack.{State, Outcome, done, refused, seed_build, lent_build}
use Rattle.packing.specs.Promised.{Right}
use Rattle.packing.proofs.Right.{seed_right, lent_right}
use Rattle.blocks.specs.Real.{real}
use Rattle.blocks.proofs.Real.{laws}
use Rattle.blocks.proofs.Board.{seed_used, lent_used, seed_offsets, lent_offsets, never_4, lent_never_4}
use Rattle.gen_magic.specs.declared.Record.{Record}
use Rattle.gen_magic.specs.Builds.{slots, no_record, Left, ended, kept_if, from_seed, from_lent, record_in, record_of}
use Rattle.gen_magic.proofs.Came.{seed_success, lent_success, seed_refused, lent_refused}
use Rattle.magic.specs.Audit.{reach_of}
use Rattle.magic.proofs.Accepts.{accepts_only, accepts}
use Rattle.magic.proofs.Refuses as Refuses
use Rattle.magic.proofs.Attacks.{look_up_attack, built_holds}
use Rattle.promises.specs.Audited.{Accepted, Audited, Limits}

-- ---- the audit

accepted : (left : Left) (len : ℕ) (s : State) → left ≡ ended len (done s) → Right real len s → Accepted left
accepted left len s e h = subst Accepted (sym e) (accepts (shown 128 (record_of s)) _ (built_holds len s h))

reach_is : (records : List Record) → reach_of records ≡ (record_in records 127).offset + size_of 0 63
unfolding reach_of kind_of square_of
reach_is records = refl

pub audited : Audited
audited =
    record {
      accepts_exactly = λ records table x. (λ e. let a = accepts_only records table x e in (a.0, a.1 ∙ reach_is records), λ w. accepts records table w.0 ∙ ap gives (reach_is records ∙ sym w.1));
      accepts_seed = λ seed budget table marks e.
          let d = seed_success seed budget table marks e in
          accepted _ (length table) d.state d.left (seed_right real laws (candidate seed) budget (length table) d.state d.is);
      accepts_lent = λ multipliers table marks e.
          let d = lent_success multipliers table marks e in
          accepted _ (length table) d.state d.left (lent_right real laws _ (length table) d.state d.is);
      refuses_8 = Refuses.refuses_8;
      refuses_7 = Refuses.refuses_7;
      refuses_11 = Refuses.refuses_11;
      refuses_only = Refuses.no_other;
      after_acceptance = λ records table x e kind sq blockers hk hs hb.
          on_block_lem kind sq _ hk hs ∙ look_up_attack records table (accepts_only records table x e).0 kind sq blockers hk hs hb ∙ ap gives (sym (walk_attack kind sq hk hs blockers));
    }

-- ---- the numbers

-- what holds of zeros and of each success holds of what a build leaves, whatever its arguments
module _ (P : ℕ → List Record → Type 0) (zeros : P 0 (replicate 128 no_record)) where
  of_outcome : (len : ℕ) (o : Outcome) → ((s : State) → o ≡ done s → P s.end (shown 128 (record_of s))) → P (ended len o).used (ended len o).records
  of_outcome len (done s) h = h s refl
  of_outcome len (refused n b) h = zeros

  of_kept : (c : Bool) (n : ℕ) (table marks : List ℕ) (x : Left) → P x.used x.records → P (kept_if c n table marks x).used (kept_if c n table marks x).records
  of_kept true n table marks x h = zeros
  of_kept false n table marks x h = h

  of_seed : (seed budget : ℕ) (table marks : List ℕ) → ((s : State) → seed_build real (candidate seed) budget (length table) ≡ done s → P s.end (shown 128 (record_of s))) → P (from_seed seed budget table marks).used (from_seed seed budget table marks).records
  unfolding from_seed
  of_seed seed budget table marks h = of_kept (ltb 16777216 budget) 10 table marks _ (of_kept (not (eqb (length table) (length marks))) 3 table marks _ (of_outcome (length table) _ h))

  of_lent : (multipliers table marks : List ℕ) → ((s : State) → lent_build real (slots multipliers) (length table) ≡ done s → P s.end (shown 128 (record_of s))) → P (from_lent multipliers table marks).used (from_lent multipliers table marks).records
  unfolding from_lent
  of_lent multipliers table marks h = of_kept (not (eqb (length multipliers) 128)) 9 table marks _ (of_kept (not (eqb (length table) (length marks))) 3 table marks _ (of_outcome (length table) _ h))

-- the offset of one block, any number
abbrev Low : ℕ → ℕ → List Record → Type 0
Low b used records = (record_in records b).offset < 2 ^ 32

no_offset : (b : ℕ) → Low b 0 (replicate 128 no_record)
no_offset b = subst (λ (r : Record). r.offset < 2 ^ 32) (sym (get_or_same 128 no_record b)) (omega arith)

offset_low : (s : State) → ((b : ℕ) → b < 128 → s.offset b < 2 ^ 32) → (b : ℕ) → Low b s.end (shown 128 (record_of s))
offset_low s h b = go (dec_lt b 128)
  where
    go : Dec (b < 128) → Low b s.end (shown 128 (record_of s))
    go (yes l) = subst (λ (r : Record). r.offset < 2 ^ 32) (sym (get_or_shown 128 b (record_of s) no_record l)) (h b l)
    go (no g) = subst (λ (r : Record). r.offset < 2 ^ 32) (sym (get_or-eq_default (shown 128 (record_of s)) no_record (omega (arith, g, length_shown 128 (record_of s))))) (omega arith)

pub limits : Limits
limits =
    record {
      seed_used = λ seed budget table marks. of_seed (λ used _. used ≤ 107648) zero-le seed budget table marks (λ s e. seed_used (candidate seed) budget (length table) s e);
      lent_used = λ multipliers table marks. of_lent (λ used _. used ≤ 107648) zero-le multipliers table marks (λ s e. lent_used (slots multipliers) (length table) s e);
      seed_offsets = λ seed budget table marks b. of_seed (Low b) (no_offset b) seed budget table marks (λ s e. offset_low s (seed_offsets (candidate seed) budget (length table) s e) b);
      lent_offsets = λ multipliers table marks b. of_lent (Low b) (no_offset b) multipliers table marks (λ s e. offset_low s (lent_offsets (slots multipliers) (length table) s e) b);
      seed_never_4 = λ seed budget block table marks h e. never_4 (candidate seed) budget (length table) block h (seed_refused seed budget 4 block table marks e).2;
      lent_never_4 = λ multipliers block table marks h e. lent_never_4 (slots multipliers) (length table) block h (lent_refused 4 block multipliers table marks e);
    }
