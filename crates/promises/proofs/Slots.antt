-- What a build that succeeds leaves in each slot, its used length and its blocks' ends.
-- Assumes nothing.
use Prim.Native.Nat.{ℕ, ◌+◌, ◌*◌, ◌/◌, ◌%◌, ◌^◌, ◌≤◌, ◌<◌}
use mathlib.Core.Path.{◌≡◌, sym, ap, ◌∙◌, subst}
use mathlib.Core.Bool.{true, true≢false}
use mathlib.Core.List.{List}
use mathlib.Core.Logic.{◌↔◌}
use native.Mathlib.Nat.{le_trans}
use native.Mathlib.Omega.{arith}
use native.Mathlib.Decide.{dec_lt}
use lib.ListN.{length, get_or-eq_default}
use Rattle.bits.specs.Set.{has}
use Rattle.bits.specs.Shown.{shown}
use Rattle.bits.proofs.Sets.{has_zero}
use Rattle.bits.proofs.Shown.{length_shown, get_or_shown}
use Rattle.board.specs.Board.{attack}
use Rattle.board.specs.Blocks.{kind_of, square_of, shift_of, subset}
use Rattle.board.proofs.Subsets.{subset_in_mask}
use Rattle.splitmix.specs.SplitMix.{candidate}
use Rattle.packing.specs.declared.Taken.{Taken}
use Rattle.packing.specs.Pack.{State, done}
use Rattle.packing.specs.Promised.{slot_of, after, taken_by, lent_at, Right, largest}
use Rattle.packing.proofs.Exactly.{exactly_when, lent_exactly_when}
use Rattle.packing.proofs.Largest.{largest_cong, largest_le}
use Rattle.packing.proofs.Right.{seed_right, lent_right}
use Rattle.blocks.specs.Real.{real, magic_index}
use Rattle.blocks.proofs.Real.{laws, all_sizes, index_lt}
use Rattle.gen_magic.specs.declared.Record.{Record}
use Rattle.gen_magic.specs.Builds.{slots, no_record, Left, ended, record_in, record_of}
use Rattle.gen_magic.proofs.Came.{seed_success, lent_success}
use Rattle.magic.specs.LookUp.{slot_in}
use Rattle.promises.specs.Slots.{Lands, EachSlot, Landed, HoldsWhatLanded, rays_of, end_in, Leaves, Slots}
use Rattle.promises.proofs.EachSlot.{each_slot}

module _ (len : ℕ) (s : State) (r : Right real len s) (e : EachSlot real s 128) where
  abbrev records : List Record
  records = shown 128 (record_of s)

  record_is : (b : ℕ) → b < 128 → record_in records b ≡ record_of s b
  record_is b low = get_or_shown 128 b (record_of s) no_record low

  -- the slot by the record is the one that the packing filled
  looked_up : (b i : ℕ) → b < 128 → slot_in (record_in records b) (subset (kind_of b) (square_of b) i) ≡ slot_of real s b i
  unfolding slot_in magic_index
  looked_up b i low =
      ap (λ (x : Record). slot_in x (subset (kind_of b) (square_of b) i)) (record_is b low)
      ∙ ap (λ (x : ℕ). s.offset b + (s.taken b).multiplier * x % 2 ^ 64 / 2 ^ shift_of (kind_of b) (square_of b)) (subset_in_mask (kind_of b) (square_of b) i)

  slot_within : (b i : ℕ) → b < 128 → slot_of real s b i < len
  slot_within b i low = plain (s.offset b) (real.index b (s.taken b).multiplier i) (real.size b) (index_lt b (s.taken b).multiplier _) (le_trans (r.inside b low) r.fits)
    where
      plain : (a x z : ℕ) → x < z → a + z ≤ len → a + x < len
      plain a x z p q = omega arith

  module _ (value : ℕ → ℕ → ℕ → ℕ) (f : ℕ → ℕ) where
    abbrev by : ℕ → ℕ → ℕ
    by b i = value (kind_of b) (square_of b) (subset (kind_of b) (square_of b) i)

    holds : ((j t : ℕ) → (has (f j) t ≡ true) ↔ Lands real s by 128 j t) → HoldsWhatLanded records value (slots (shown len f))
    holds q j t = (λ h. to (dec_lt j len) h, from)
      where
        to : Dec (j < len) → has (slots (shown len f) j) t ≡ true → Landed records value j t
        to (yes k) h =
            let l = (q j t).0 (sym (ap (λ (n : ℕ). has n t) (get_or_shown len j f 0 k)) ∙ h) in
            record { block = l.block; number = l.subset; a_block = l.a_block; a_subset = l.a_subset; there = looked_up l.block l.subset l.a_block ∙ l.there; has_it = l.has_it }
        to (no k) h = absurd (true≢false (sym h ∙ ap (λ (n : ℕ). has n t) (get_or-eq_default (shown len f) 0 {n = j} (omega (arith, length_shown len f, k))) ∙ has_zero t))

        from : Landed records value j t → has (slots (shown len f) j) t ≡ true
        from l =
            let p : slot_of real s l.block l.number ≡ j = sym (looked_up l.block l.number l.a_block) ∙ l.there in
            ap (λ (n : ℕ). has n t) (get_or_shown len j f 0 (subst (λ (n : ℕ). n < len) p (slot_within l.block l.number l.a_block)))
            ∙ (q j t).1 (record { block = l.block; subset = l.number; a_block = l.a_block; a_subset = l.a_subset; there = p; has_it = l.has_it })

  used_largest : s.end ≡ largest 128 (λ b. (record_in records b).offset + real.size b)
  used_largest = e.end_is ∙ sym (largest_cong 128 _ _ (λ b h. ap (λ (x : Record). x.offset + real.size b) (record_is b h)))

  leaves : Leaves (ended len (done s)) len
  leaves =
      record {
        table_length = length_shown len s.table;
        marks_length = length_shown len s.marks;
        in_table = holds attack s.table e.in_table;
        in_marks = holds rays_of s.marks e.in_marks;
        used_is = used_largest;
        inside = inside;
        used_fits = r.fits;
        used_most = most;
        offsets = λ k l. low (record_in records k).offset _ s.end (inside k l) most;
      }
    where
      most : s.end ≤ 107648
      most = omega (arith, r.used, all_sizes)

      inside : (k : ℕ) → k < 128 → end_in (ended len (done s)) k ≤ s.end
      inside k l = subst (λ (n : ℕ). end_in (ended len (done s)) k ≤ n) (sym used_largest) (largest_le 128 (end_in (ended len (done s))) k l)

      low : (o z e : ℕ) → o + z ≤ e → e ≤ 107648 → o < 2 ^ 32
      low o z e p q = omega arith

of_build : (left : Left) (len : ℕ) (s : State) (taken : ℕ → Taken) → left ≡ ended len (done s) → Right real len s → s ≡ after real taken 128 → Leaves left len
of_build left len s taken q r p =
    subst (λ (l : Left). Leaves l len) (sym q) (leaves len s r (subst (λ (x : State). EachSlot real x 128) (sym p) (each_slot real taken 128)))

pub slot_by_slot : Slots
slot_by_slot =
    record {
      any_blocks = each_slot;
      of_seed = λ seed budget table marks e.
          let d = seed_success seed budget table marks e in
          let w = (exactly_when real (candidate seed) budget (length table) d.state).0 d.is in
          of_build _ (length table) d.state (taken_by (candidate seed) w.0) d.left (seed_right real laws (candidate seed) budget (length table) d.state d.is) w.2;
      of_lent = λ multipliers table marks e.
          let d = lent_success multipliers table marks e in
          let w = (lent_exactly_when real (slots multipliers) (length table) d.state).0 d.is in
          of_build _ (length table) d.state (lent_at (slots multipliers)) d.left (lent_right real laws _ (length table) d.state d.is) w.1;
    }
