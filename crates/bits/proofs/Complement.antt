-- The complement of a set of k squares, as `!` gives it.
-- Assumes nothing.
use Rattle.std.proofs.Common.{◌≡◌, ℕ, zero, suc, ◌+◌, ◌-◌, ◌*◌, ◌%◌, ◌^◌, ◌<◌, true, not, eqb, sym, refl, ap, ◌∙◌, mod-lt, mod-eq_of_lt, pow-suc, zero-add, arith, lit<, pow_pos}
use native.Mathlib.Nat.{sub-zero}
use lib.Arith.{lt-one}
use Rattle.bits.specs.Set.{bit, has, from_bits}
use Rattle.bits.proofs.Digit.{bit_lt, over, mod_more, bit_from_bits}
use Rattle.bits.proofs.Sets.{two, has_zero}

comp_sum : (b p u v : ℕ) → b < 2 → zero < p → u + v ≡ p - 1 → ((1 - b) * p + u) + (b * p + v) ≡ p * 2 - 1
comp_sum zero p u v h l e = omega arith
comp_sum (suc zero) p u v h l e = omega arith
comp_sum (suc (suc b)) p u v h l e = over h

comp_bits : (a k : ℕ) → from_bits k (λ t. 1 - bit a t) + a % 2 ^ k ≡ 2 ^ k - 1
unfolding from_bits
comp_bits a zero = zero-add (a % 1) ∙ lt-one (mod-lt a (lit< tt))
comp_bits a (suc k) =
    ap (λ (x : ℕ). ((1 - bit a k) * 2 ^ k + from_bits k (λ t. 1 - bit a t)) + x) (mod_more a k)
    ∙ comp_sum (bit a k) (2 ^ k) (from_bits k (λ t. 1 - bit a t)) (a % 2 ^ k) (bit_lt a k) (pow_pos k) (comp_bits a k)
    ∙ ap (λ (x : ℕ). x - 1) (sym (pow-suc 2 k))

pub has_not : (k a t : ℕ) → a < 2 ^ k → t < k → has ((2 ^ k - 1) - a) t ≡ not (has a t)
unfolding has
has_not k a t h l =
    let e : from_bits k (λ t. 1 - bit a t) ≡ (2 ^ k - 1) - a = omega (arith, comp_bits a k, mod-eq_of_lt h) in
    ap (λ (x : ℕ). eqb (bit x t) 1) (sym e)
    ∙ ap (λ (x : ℕ). eqb x 1) (bit_from_bits (λ t. 1 - bit a t) (λ t. omega arith) k t l)
    ∙ two (λ x y. eqb (1 - x) 1) (λ x y. not (eqb x 1)) refl refl refl refl a a t

-- the k low squares
pub has_ones : (k t : ℕ) → t < k → has (2 ^ k - 1) t ≡ true
has_ones k t h = ap (λ (x : ℕ). has x t) (sym (sub-zero (2 ^ k - 1))) ∙ has_not k 0 t (pow_pos k) h ∙ ap not (has_zero t)
