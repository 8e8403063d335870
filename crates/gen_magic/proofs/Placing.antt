-- A block goes in: the code's values then stand for the run's next state.
-- Assumes nothing.
use Prim.Native.Nat.{ℕ, ◌+◌, ◌≤◌, ◌<◌, max}
use mathlib.Core.Path.{◌≡◌, sym, ap, ap₂, ◌∙◌, subst, fun_ext}
use mathlib.Core.List.{List}
use native.Mathlib.Numerals.{add-one}
use native.Mathlib.Omega.{arith}
use native.Mathlib.Decide.{ℕ_discrete}
use lib.ListN.{length, get_or, set, length-set}
use Rattle.refusal.specs.Paper.{number_of}
use Rattle.packing.specs.declared.Taken.{Taken}
use Rattle.packing.specs.Pack.{done, put, first_free, place, hit, next}
use Rattle.packing.proofs.Slots.{put_same, put_other, put_map}
use Rattle.packing.proofs.Run.{run_next}
use Rattle.blocks.specs.Real.{real}
use Rattle.gen_magic.specs.declared.Record.{Record}
use Rattle.gen_magic.specs.declared.Settled.{Settled}
use Rattle.gen_magic.specs.declared.Source.{Source}
use Rattle.gen_magic.specs.Builds.{slots, record_at, no_record, record_in}
use Rattle.gen_magic.specs.Turn.{ored, choice_by, why_of}
use Rattle.gen_magic.proofs.Loans.{get_or_put}
use Rattle.gen_magic.proofs.Turns.{Goes}
use Rattle.gen_magic.proofs.Sofar.{state_of, Own, run_to, Sofar}

module _ {source : Source} {len b : ℕ} {table marks : List ℕ} {records : List Record} {counts : List ℕ} {end : ℕ} (h : Sofar source len b table marks records counts end) (lt : b < 128) (t : Settled) (g : Goes source b end marks t) (table' marks' : List ℕ) (made : Record) (end' : ℕ)
    (et : slots table' ≡ ored (λ i. t.place + real.index b t.taken.multiplier i) (real.walk b) (real.size b) (slots table))
    (em : slots marks' ≡ ored (λ i. t.place + real.index b t.taken.multiplier i) (λ _. real.rays b) (real.size b) (slots marks))
    (er : made ≡ record_at b t.taken.multiplier t.place)
    (ee : end' ≡ max end (t.place + real.size b)) where
  abbrev records₀ : ℕ → Record
  records₀ k = record_in records k

  abbrev taken₀ : ℕ → Taken
  taken₀ = (state_of table marks records counts end).taken

  record_now : (j : ℕ) → record_in (set records b made) j ≡ put b made records₀ j
  record_now j = get_or_put records b made no_record j (omega (arith, h.records_long))

  own_now : (j : ℕ) → j < b + 1 → Own j (record_in (set records b made) j)
  own_now j low = subst (Own j) (sym (record_now j)) (go (ℕ_discrete b j))
    where
      own_made : Own b made
      own_made = er ∙ ap (λ (r : Record). record_at b r.multiplier r.offset) (sym er)

      go : Dec (b ≡ j) → Own j (put b made records₀ j)
      go (yes e) = subst (λ (k : ℕ). Own k (put b made records₀ k)) e (subst (Own b) (sym (put_same b made records₀)) own_made)
      go (no f) = subst (Own j) (sym (put_other b made records₀ j f)) (h.own j (omega (arith, f)))

  offset_now : (j : ℕ) → (record_in (set records b made) j).offset ≡ put b (first_free (real.size b) (real.rays b) (slots marks) end) (λ k. (records₀ k).offset) j
  offset_now j =
      ap (λ (r : Record). r.offset) (record_now j) ∙ put_map (λ (r : Record). r.offset) b made records₀ j
      ∙ ap (λ (q : ℕ). put b q (λ k. (records₀ k).offset) j) (ap (λ (r : Record). r.offset) er ∙ g.place_is)

  multiplier_now : (j : ℕ) → (record_in (set records b made) j).multiplier ≡ (put b t.taken taken₀ j).multiplier
  multiplier_now j =
      ap (λ (r : Record). r.multiplier) (record_now j) ∙ put_map (λ (r : Record). r.multiplier) b made records₀ j
      ∙ ap (λ (m : ℕ). put b m (λ k. (records₀ k).multiplier) j) (ap (λ (r : Record). r.multiplier) er)
      ∙ sym (put_map (λ (t : Taken). t.multiplier) b t.taken taken₀ j)

  count_now : (j : ℕ) → get_or (set counts b t.taken.count) j 0 ≡ (put b t.taken taken₀ j).count
  count_now j = get_or_put counts b t.taken.count 0 j (omega (arith, h.counts_long)) ∙ sym (put_map (λ (t : Taken). t.count) b t.taken taken₀ j)

  state_now : next real b (state_of table marks records counts end) t.taken ≡ state_of table' marks' (set records b made) (set counts b t.taken.count) end'
  unfolding next hit place
  state_now =
      λ i. record {
        table = sym (et ∙ ap (λ (q : ℕ). ored (λ k. q + real.index b t.taken.multiplier k) (real.walk b) (real.size b) (slots table)) g.place_is) i;
        marks = sym (em ∙ ap (λ (q : ℕ). ored (λ k. q + real.index b t.taken.multiplier k) (λ _. real.rays b) (real.size b) (slots marks)) g.place_is) i;
        end = sym (ee ∙ ap (λ (q : ℕ). max end (q + real.size b)) g.place_is) i;
        offset = fun_ext (λ j. sym (offset_now j)) i;
        taken = fun_ext (λ j. sym (ap₂ (λ (m c : ℕ). record { multiplier = m; count = c }) (multiplier_now j) (count_now j))) i;
      }

  pub sofar_more : length table' ≡ length table → length marks' ≡ length marks → Sofar source len (b + 1) table' marks' (set records b made) (set counts b t.taken.count) end'
  unfolding place
  sofar_more lt' lm' =
      record {
        ran =
            ap (run_to source len) (add-one b)
            ∙ run_next real len (number_of (why_of source 0)) (choice_by source) b _ t.taken h.ran (subst (λ (n : ℕ). first_free (real.size b) (real.rays b) (slots marks) end + real.size b ≤ n) h.marks_long g.room) g.chose
            ∙ ap done state_now;
        own = own_now;
        table_long = lt' ∙ h.table_long;
        marks_long = lm' ∙ h.marks_long;
        records_long = length-set records b made ∙ h.records_long;
        counts_long = length-set {A = ℕ} counts b t.taken.count ∙ h.counts_long;
      }
