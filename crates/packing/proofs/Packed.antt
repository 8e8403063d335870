-- After each block of a run with clean multipliers, every block placed so far reads its walks.
-- Assumes `Laws`.
use Prim.Native.Nat.{ℕ, zero, suc, ◌+◌, ◌≤◌, ◌<◌}
use mathlib.Core.Path.{◌≡◌, refl, sym, ap, ap₂, ◌∙◌, subst}
use mathlib.Core.Bool.{true}
use mathlib.Core.Logic.{◌⊎◌, inl, inr}
use native.Mathlib.Nat.{not-suc-le-zero, le_of_suc-le-suc, eq-or-lt_of_le}
use native.Mathlib.Omega.{arith}
use lib.Bits.{bit_and, bit_or, and_comm, and_self, and_zero_l, or_zero_l, or_zero_r}
use Rattle.bits.proofs.Algebra.{bit_and_or, or_in, in_or_l, in_or_r, in_trans, apart}
use Rattle.packing.specs.declared.Taken.{Taken}
use Rattle.std.specs.Prelude.{Option, Some}
use Rattle.packing.specs.Pack.{Blocks, clean, State, start, hit, next}
use Rattle.packing.specs.Promised.{Laws, slot_of}
use Rattle.packing.proofs.Slots.{Hit, Missed, hits}
use Rattle.packing.proofs.Next.{end_old, end_new, offset_at, offset_before, taken_at, taken_before}
use Rattle.packing.proofs.Run.{Ran, last}
use Rattle.packing.proofs.Success.{ran_none}
use Rattle.packing.proofs.Sound.{Kept, Sound, Ored, hit_slot, missed_table, missed_marks}

module _ (B : Blocks) (L : Laws B) where
  module _ (n : ℕ) (s : State) (x : Taken) (hn : n < 128) (w : Sound B n s) (ok : clean B n x.multiplier ≡ true) where
    abbrev now : State
    now = next B n s x

    abbrev slot : ℕ → ℕ
    slot = hit B n s x.multiplier

    next_within : (j : ℕ) → bit_and (now.table j) (now.marks j) ≡ now.table j
    next_within j = go (hits slot (B.size n) j)
      where
        go : Hit slot (B.size n) j ⊎ Missed slot (B.size n) j → bit_and (now.table j) (now.marks j) ≡ now.table j
        go (inl a) =
            let o = hit_slot B L n s x hn w ok j a in
            let t : ℕ = s.table j in
            let k : ℕ = s.marks j in
            let v : ℕ = B.walk n a.by in
            let r : ℕ = B.rays n in
            ap₂ bit_and o.table_now o.marks_now
            ∙ or_in t v (bit_or k r) (in_trans t k (bit_or k r) (w.within j) (in_or_l k r)) (in_trans v r (bit_or k r) o.walk_in (in_or_r k r))
            ∙ sym o.table_now
        go (inr f) = let t = missed_table B L n s x hn w ok j f in ap₂ bit_and t (missed_marks B L n s x hn w ok j f) ∙ w.within j ∙ sym t

    next_beyond : (j : ℕ) → now.end ≤ j → now.marks j ≡ 0
    unfolding hit
    next_beyond j h =
        missed_marks B L n s x hn w ok j (λ i l e. omega (arith, L.index_lt n x.multiplier i hn l, end_new B n s x))
        ∙ w.beyond j (omega (arith, end_old B n s x))

    -- what a slot keeps it still keeps
    still_kept : (b i j : ℕ) → Kept B s b i j → Kept B now b i j
    still_kept b i j k = go (hits slot (B.size n) j)
      where
        go : Hit slot (B.size n) j ⊎ Missed slot (B.size n) j → Kept B now b i j
        go (inl a) =
            let o = hit_slot B L n s x hn w ok j a in
            let m : ℕ = s.marks j in
            let v : ℕ = B.walk n a.by in
            let r : ℕ = B.rays b in
            record {
              marked = ap (bit_and r) o.marks_now ∙ in_trans r m (bit_or m (B.rays n)) k.marked (in_or_l m (B.rays n));
              reads =
                  ap (λ (y : ℕ). bit_and y r) o.table_now ∙ bit_and_or (s.table j) v r
                  ∙ ap₂ bit_or k.reads (and_comm v r ∙ apart r v m (B.rays n) k.marked o.walk_in o.was_free) ∙ or_zero_r (B.walk b i);
            }
        go (inr f) =
            record {
              marked = ap (bit_and (B.rays b)) (missed_marks B L n s x hn w ok j f) ∙ k.marked;
              reads = ap (λ (y : ℕ). bit_and y (B.rays b)) (missed_table B L n s x hn w ok j f) ∙ k.reads;
            }

    kept_old : (b i : ℕ) → b < n → Kept B s b i (slot_of B s b i) → Kept B now b i (slot_of B now b i)
    kept_old b i h k = subst (Kept B now b i) (sym e) (still_kept b i (slot_of B s b i) k)
      where
        e : slot_of B now b i ≡ slot_of B s b i
        e = ap₂ (λ (o : ℕ) (y : Taken). o + B.index b y.multiplier i) (offset_before B n s x b h) (taken_before B n s x b h)

    -- the new block's slots keep its subsets
    kept_new : (i : ℕ) → i < B.size n → Kept B now n i (slot_of B now n i)
    unfolding hit
    kept_new i h = subst (Kept B now n i) (sym e) (record { marked = marked; reads = reads })
      where
        o : Ored B L n s x hn w ok (slot i) i
        o = hit_slot B L n s x hn w ok (slot i) (record { by = i; low = h; at = refl })

        e : slot_of B now n i ≡ slot i
        e = ap₂ (λ (o : ℕ) (y : Taken). o + B.index n y.multiplier i) (offset_at B n s x n refl) (taken_at B n s x n refl)

        marked : bit_and (B.rays n) (now.marks (slot i)) ≡ B.rays n
        marked = ap (bit_and (B.rays n)) o.marks_now ∙ in_or_r (s.marks (slot i)) (B.rays n)

        reads : bit_and (now.table (slot i)) (B.rays n) ≡ B.walk n i
        reads =
            ap (λ (y : ℕ). bit_and y (B.rays n)) o.table_now ∙ bit_and_or (s.table (slot i)) (B.walk n i) (B.rays n)
            ∙ ap₂ bit_or (apart (s.table (slot i)) (B.rays n) (s.marks (slot i)) (B.rays n) (w.within (slot i)) (and_self (B.rays n)) o.was_free) o.walk_in
            ∙ or_zero_l (B.walk n i)

    next_sound : Sound B (suc n) now
    next_sound = record { within = next_within; beyond = next_beyond; kept = λ b i h l. kept b i l (eq-or-lt_of_le (le_of_suc-le-suc h)) }
      where
        kept : (b i : ℕ) → i < B.size b → (b ≡ n) ⊎ (b < n) → Kept B now b i (slot_of B now b i)
        kept b i l (inl e) = subst (λ (c : ℕ). i < B.size c → Kept B now c i (slot_of B now c i)) (sym e) (kept_new i) l
        kept b i l (inr h) = kept_old b i h (w.kept b i h l)

  start_sound : Sound B 0 start
  start_sound = record { within = λ j. and_zero_l 0; beyond = λ j h. refl; kept = λ b i h l. absurd (not-suc-le-zero h) }

  pub sound : (len why : ℕ) (choice : ℕ → Option Taken) → ((b : ℕ) (x : Taken) → choice b ≡ Some x → clean B b x.multiplier ≡ true) → (n : ℕ) (s : State) → n ≤ 128 → Ran B len why choice n s → Sound B n s
  sound len why choice good zero s h e = subst (Sound B 0) (sym (ran_none B len why choice s e)) start_sound
  sound len why choice good (suc n) s h e =
      let l = last B len why choice n s e in
      subst (Sound B (suc n)) (sym l.now) (next_sound n l.before l.taken h (sound len why choice good n l.before (omega arith) l.ran) (good n l.taken l.chose))
