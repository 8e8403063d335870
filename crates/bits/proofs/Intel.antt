-- Intel's loops give `packed` and `spread`, with k the count of mask squares passed.
-- Assumes nothing.
use Rattle.std.proofs.Common.{◌≡◌, ℕ, zero, suc, ◌+◌, ◌-◌, ◌*◌, ◌^◌, ◌<◌, min, Bool, true, false, eqb, sym, refl, ap, ◌∙◌, ap₂, le_refl, le_of_suc-le-suc, add-zero, add_comm, zero-add, zero-mul}
use native.Mathlib.Nat.{sub-zero, zero-min, min_comm, min-eq_left}
use Rattle.bits.specs.Set.{bit, has, from_bits, count_below}
use Rattle.bits.specs.Intel.{Turn, set_bit, pext_turn, pdep_turn, pext_turns, pdep_turns, pext, pdep}
use Rattle.bits.proofs.Digit.{bit_lt, over, bit_past}
use Rattle.bits.proofs.Forms.{packed, spread, packed_lt, spread_lt}

-- a digit at or past the end of DEST, where it is 0 still
set_fresh : (d at v : ℕ) → d < 2 ^ at → set_bit d at v ≡ v * 2 ^ at + d
unfolding set_bit
set_fresh d at v h =
    ap (λ (x : ℕ). (d - x * 2 ^ at) + v * 2 ^ at) (bit_past d at at h (le_refl at))
    ∙ ap (λ (x : ℕ). (d - x) + v * 2 ^ at) (zero-mul (2 ^ at))
    ∙ ap (λ (x : ℕ). x + v * 2 ^ at) (sub-zero d) ∙ add_comm d (v * 2 ^ at)

abbrev turn : ℕ → ℕ → Turn
turn dest k = record { dest = dest; k = k }

-- both turns at the mask's digit b: digit v goes to place `at`
module _ (at v d k : ℕ) (digit : v < 2) (fresh : d < 2 ^ at) where
  abbrev set : Bool → Turn
  set true = turn (set_bit d at v) (k + 1)
  set false = turn d k

  turn_is : (b : ℕ) → b < 2 → set (eqb b 1) ≡ turn (min b v * 2 ^ at + d) (k + b)
  turn_is zero h =
      ap₂ turn (sym (ap (λ (x : ℕ). x * 2 ^ at + d) (zero-min v) ∙ ap (λ (x : ℕ). x + d) (zero-mul (2 ^ at)) ∙ zero-add d)) (sym (add-zero k))
  turn_is (suc zero) h =
      ap (λ (x : ℕ). turn x (k + 1))
      (set_fresh d at v fresh ∙ ap (λ (z : ℕ). z * 2 ^ at + d) (sym (min_comm 1 v ∙ min-eq_left (le_of_suc-le-suc digit))))
  turn_is (suc (suc b)) h = over h

pext_turns_lem : (n x m : ℕ) → pext_turns n x m ≡ turn (packed n x m) (count_below m n)
unfolding pext_turns packed count_below has
pext_turns_lem zero x m = refl
pext_turns_lem (suc n) x m =
    ap (pext_turn (has m n) x n) (pext_turns_lem n x m)
    ∙ at_digit (has m n)
    ∙ turn_is (count_below m n) (bit x n) (packed n x m) (count_below m n) (bit_lt x n) (packed_lt n x m) (bit m n) (bit_lt m n)
  where
    at_digit : (b : Bool) → pext_turn b x n (turn (packed n x m) (count_below m n)) ≡ set (count_below m n) (bit x n) (packed n x m) (count_below m n) (bit_lt x n) (packed_lt n x m) b
    at_digit true = refl
    at_digit false = refl

pdep_turns_lem : (n x m : ℕ) → pdep_turns n x m ≡ turn (spread n x m) (count_below m n)
unfolding pdep_turns spread from_bits count_below has
pdep_turns_lem zero x m = refl
pdep_turns_lem (suc n) x m =
    ap (pdep_turn (has m n) x n) (pdep_turns_lem n x m)
    ∙ at_digit (has m n)
    ∙ turn_is n (bit x (count_below m n)) (spread n x m) (count_below m n) (bit_lt x (count_below m n)) (spread_lt n x m) (bit m n) (bit_lt m n)
  where
    at_digit : (b : Bool) → pdep_turn b x n (turn (spread n x m) (count_below m n)) ≡ set n (bit x (count_below m n)) (spread n x m) (count_below m n) (bit_lt x (count_below m n)) (spread_lt n x m) b
    at_digit true = refl
    at_digit false = refl

pub pext_is : (x m : ℕ) → pext x m ≡ packed 64 x m
unfolding pext
pext_is x m = ap (λ (s : Turn). s.dest) (pext_turns_lem 64 x m)

pub pdep_is : (x m : ℕ) → pdep x m ≡ spread 64 x m
unfolding pdep
pdep_is x m = ap (λ (s : Turn). s.dest) (pdep_turns_lem 64 x m)

-- before the first turn and after the last
pub pext_start : (x m : ℕ) → 0 ≡ packed 0 x m
unfolding packed
pext_start x m = refl

pub pext_done : (n x m : ℕ) → n ≡ 64 → packed n x m ≡ pext x m
pext_done n x m e = ap (λ (i : ℕ). packed i x m) e ∙ sym (pext_is x m)

pub pdep_done : (n x m : ℕ) → n ≡ 64 → spread n x m ≡ pdep x m
pdep_done n x m e = ap (λ (i : ℕ). spread i x m) e ∙ sym (pdep_is x m)
