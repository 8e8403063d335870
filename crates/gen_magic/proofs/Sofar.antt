-- The build between two blocks, as the code holds it, and its ways on.
-- Assumes nothing.
use Prim.Native.Nat.{ℕ, ◌+◌, ◌≤◌, ◌<◌}
use mathlib.Core.Path.{◌≡◌, refl, sym, ap, ap₂, ◌∙◌, subst, fun_ext}
use mathlib.Core.List.{List}
use native.Mathlib.Nat.{not-suc-le-zero}
use native.Mathlib.Omega.{arith}
use lib.ListN.{length, get_or, replicate, length-replicate}
use Rattle.bits.specs.Shown.{sum}
use Rattle.bits.proofs.Shown.{get_or_same, shown_list, sum_within}
use Rattle.refusal.specs.declared.Refusal.{Refusal}
use Rattle.refusal.specs.Paper.{gives, number_of, values_of}
use Rattle.packing.specs.Pack.{State, done, refused, run, seed_build, lent_build, first_free, place}
use Rattle.packing.specs.Pack as Pack
use Rattle.packing.proofs.Run.{run_full, run_spent, refusal_stays}
use Rattle.packing.proofs.Success.{end_fits, end_total}
use Rattle.blocks.specs.Real.{real}
use Rattle.blocks.proofs.Real.{all_sizes}
use Rattle.gen_magic.specs.declared.Record.{Record}
use Rattle.gen_magic.specs.declared.Source.{Source}
use Rattle.gen_magic.specs.declared.Source.TheVariants.{Seed, Lent}
use Rattle.std.specs.Prelude.{Ok}
use Rattle.gen_magic.specs.Builds.{slots, record_at, no_record, leaves, empty, ended, record_in}
use Rattle.gen_magic.specs.Turn.{choice_by, why_of, built}
use Rattle.gen_magic.proofs.Turns.{Stops, full, nothing}

-- the state that the code's values stand for
abbrev pub state_of : List ℕ → List ℕ → List Record → List ℕ → ℕ → State
state_of table marks records counts end =
    record {
      table = slots table;
      marks = slots marks;
      end = end;
      offset = λ b. (record_in records b).offset;
      taken = λ b. record { multiplier = (record_in records b).multiplier; count = get_or counts b 0 };
    }

-- a record has the block's own mask and shift
abbrev pub Own : ℕ → Record → Type 0
Own b r = r ≡ record_at b r.multiplier r.offset

-- the blocks of a source, as `run` takes them
abbrev pub run_to : Source → ℕ → ℕ → Pack.Outcome
run_to source len = run real len (number_of (why_of source 0)) (choice_by source)

built_is : (source : Source) (len : ℕ) → built source len ≡ run_to source len 128
unfolding seed_build lent_build
built_is (Seed seed budget) len = refl
built_is (Lent l) len = refl

pub record Sofar (source : Source) (len b : ℕ) (table marks : List ℕ) (records : List Record) (counts : List ℕ) (end : ℕ) : Type 0 where
  pub ran : run_to source len b ≡ done (state_of table marks records counts end)
  pub own : (j : ℕ) → j < b → Own j (record_in records j)
  pub table_long : length table ≡ len
  pub marks_long : length marks ≡ len
  pub records_long : length records ≡ 128
  pub counts_long : length counts ≡ 128

module _ {source : Source} {len : ℕ} where
  pub sofar_none : {table marks : List ℕ} → table ≡ replicate len 0 → marks ≡ replicate len 0 → Sofar source len 0 table marks (replicate 128 no_record) (replicate 128 0) 0
  unfolding run
  sofar_none {table} {marks} et em =
      record {
        ran =
            λ i. done (record {
              table = fun_ext (λ j. sym (ap (λ (x : List ℕ). get_or x j 0) et ∙ get_or_same len 0 j)) i;
              marks = fun_ext (λ j. sym (ap (λ (x : List ℕ). get_or x j 0) em ∙ get_or_same len 0 j)) i;
              end = 0;
              offset = fun_ext (λ j. sym (ap (λ (r : Record). r.offset) (get_or_same 128 no_record j))) i;
              taken = fun_ext (λ j. sym (ap₂ (λ (r : Record) (c : ℕ). record { multiplier = r.multiplier; count = c }) (get_or_same 128 no_record j) (get_or_same 128 0 j))) i;
            });
        own = λ j h. absurd (not-suc-le-zero h);
        table_long = ap length et ∙ length-replicate {A = ℕ} len 0;
        marks_long = ap length em ∙ length-replicate {A = ℕ} len 0;
        records_long = length-replicate {A = Record} 128 no_record;
        counts_long = length-replicate {A = ℕ} 128 0;
      }

  module _ {b : ℕ} {table marks : List ℕ} {records : List Record} {counts : List ℕ} {end : ℕ} (h : Sofar source len b table marks records counts end) where
    pub end_in : end ≤ length marks
    end_in = subst (λ (n : ℕ). end ≤ n) (sym h.marks_long) (end_fits real len (number_of (why_of source 0)) (choice_by source) b _ h.ran)

    -- a block more ends within 107,648
    pub end_small : b < 128 → end + real.size b ≤ 107648
    end_small lt = bound end (sum b real.size) (real.size b) (sum 128 real.size) (end_total real len (number_of (why_of source 0)) (choice_by source) b _ h.ran) (sum_within b 128 real.size lt) all_sizes
      where
        bound : (e s z t : ℕ) → e ≤ s → s + z ≤ t → t ≡ 107648 → e + z ≤ 107648
        bound e s z t p q r = omega arith

    -- ---- the block is refused

    pub ended_refused : b < 128 → (r : Refusal) → Stops source b end marks r → ended len (built source len) ≡ empty (number_of r) (values_of r) (replicate len 0) (replicate len 0)
    unfolding place
    ended_refused lt r (full f e) =
        ap (ended len) (built_is source len ∙ refusal_stays real len (number_of (why_of source 0)) (choice_by source) 4 b 128 lt (run_full real len (number_of (why_of source 0)) (choice_by source) b _ h.ran (subst (λ (n : ℕ). n < first_free (real.size b) (real.rays b) (slots marks) end + real.size b) h.marks_long f)))
        ∙ ap (λ (q : Refusal). empty (number_of q) (values_of q) (replicate len 0) (replicate len 0)) (sym e)
    ended_refused lt r (nothing f n e) =
        ap (ended len) (built_is source len ∙ refusal_stays real len (number_of (why_of source 0)) (choice_by source) (number_of (why_of source 0)) b 128 lt (run_spent real len (number_of (why_of source 0)) (choice_by source) b _ h.ran (subst (λ (k : ℕ). first_free (real.size b) (real.rays b) (slots marks) end + real.size b ≤ k) h.marks_long f) n))
        ∙ why source ∙ ap (λ (q : Refusal). empty (number_of q) (values_of q) (replicate len 0) (replicate len 0)) (sym e)
      where
        why : (s : Source) → ended len (refused (number_of (why_of s 0)) b) ≡ empty (number_of (why_of s b)) (values_of (why_of s b)) (replicate len 0) (replicate len 0)
        why (Seed seed budget) = refl
        why (Lent l) = refl

  -- ---- all blocks went in

  pub ended_done : {b : ℕ} {table marks : List ℕ} {records : List Record} {counts : List ℕ} {end : ℕ} → b ≡ 128 → Sofar source len b table marks records counts end → leaves (Ok (record { records = records; counts = counts; used = end })) table marks ≡ ended len (built source len)
  ended_done {b} {table} {marks} {records} {counts} {end} e h =
      shown_all ∙ sym (ap (ended len) (built_is source len ∙ ap (run_to source len) (sym e) ∙ h.ran))
    where
      shown_all : leaves (Ok (record { records = records; counts = counts; used = end })) table marks ≡ ended len (done (state_of table marks records counts end))
      shown_all =
          λ i. record {
            says = gives tt;
            records = shown_list 128 records no_record (λ b. record_at b (record_in records b).multiplier (record_in records b).offset) h.records_long (λ j low. h.own j (omega (arith, e))) i;
            counts = shown_list 128 counts 0 (slots counts) h.counts_long (λ _ _. refl) i;
            used = end;
            table = shown_list len table 0 (slots table) h.table_long (λ _ _. refl) i;
            marks = shown_list len marks 0 (slots marks) h.marks_long (λ _ _. refl) i;
          }
