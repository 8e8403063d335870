-- One turn of the loops of `extract` and `deposit`, as the code has it.
-- Assumes nothing.
use Rattle.std.proofs.Common.{◌≡◌, ℕ, zero, suc, ◌+◌, ◌*◌, ◌/◌, ◌%◌, ◌^◌, ◌<◌, min, sym, ap, ◌∙◌, ap₂, subst, subst₂, add-one, arith, shl_exact}
use native.Mathlib.Nat.{zero-min}
use lib.Bits.{bit_and, bit_or, and_mask, or_shifted_r}
use Rattle.std.proofs.lemmas.Nat.{and_comm}
use Rattle.bits.specs.Set.{bit, count_below, from_bits}
use Rattle.bits.proofs.Digit.{bit_lt, over}
use Rattle.bits.proofs.Forms.{packed, packed_lt, spread, spread_lt, taken_lt}

digit_and : (b y : ℕ) → b < 2 → bit_and b y ≡ min b (y % 2)
digit_and zero y h = sym (zero-min (y % 2))
digit_and (suc zero) y h = and_comm 1 y ∙ and_mask y 1 ∙ omega arith
digit_and (suc (suc b)) y h = over h

-- `dest | ((((mask >> m) & 1) & y) << at)`, with dest below 2 ^ at
turn_code : (dest mask m y at : ℕ) → dest < 2 ^ at → at < 64 → bit_or dest (bit_and (bit_and (mask / 2 ^ m) 1) y * 2 ^ at % 2 ^ 64) ≡ min (bit mask m) (y % 2) * 2 ^ at + dest
turn_code dest mask m y at h l =
    ap (λ (z : ℕ). bit_or dest (bit_and z y * 2 ^ at % 2 ^ 64)) (and_mask (mask / 2 ^ m) 1)
    ∙ ap (λ (z : ℕ). bit_or dest (z * 2 ^ at % 2 ^ 64)) (digit_and (bit mask m) y (bit_lt mask m))
    ∙ ap (bit_or dest) (shl_exact 1 at 64 (taken_lt mask m (y % 2)) (omega arith))
    ∙ or_shifted_r (min (bit mask m) (y % 2)) at dest h

-- `k + ((mask >> m) & 1)`
pub turn_count : (k mask m : ℕ) → k ≡ count_below mask m → k + bit_and (mask / 2 ^ m) 1 ≡ count_below mask (m + 1)
unfolding count_below
turn_count k mask m e = ap₂ (λ (x y : ℕ). x + y) e (and_mask (mask / 2 ^ m) 1) ∙ ap (count_below mask) (sym (add-one m))

-- where k counts the mask squares below m, and dest is what they take, or hold
module _ (dest mask m x k : ℕ) (e : k ≡ count_below mask m) where
  pub packed_turn : dest ≡ packed m x mask → k < 64 → bit_or dest (bit_and (bit_and (mask / 2 ^ m) 1) (x / 2 ^ m) * 2 ^ k % 2 ^ 64) ≡ packed (m + 1) x mask
  unfolding packed
  packed_turn q l =
      turn_code dest mask m (x / 2 ^ m) k (subst₂ (λ (u v : ℕ). u < 2 ^ v) (sym q) (sym e) (packed_lt m x mask)) l
      ∙ ap₂ (λ (u v : ℕ). min (bit mask m) (bit x m) * 2 ^ u + v) e q
      ∙ ap (λ (z : ℕ). packed z x mask) (sym (add-one m))

  pub spread_turn : dest ≡ spread m x mask → m < 64 → bit_or dest (bit_and (bit_and (mask / 2 ^ m) 1) (x / 2 ^ k) * 2 ^ m % 2 ^ 64) ≡ spread (m + 1) x mask
  unfolding spread from_bits
  spread_turn q l =
      turn_code dest mask m (x / 2 ^ k) m (subst (λ (u : ℕ). u < 2 ^ m) (sym q) (spread_lt m x mask)) l
      ∙ ap₂ (λ (u v : ℕ). min (bit mask m) (bit x u) * 2 ^ m + v) e q
      ∙ ap (λ (z : ℕ). spread z x mask) (sym (add-one m))
