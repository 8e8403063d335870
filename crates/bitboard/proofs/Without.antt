-- XOR with a square that is in the set takes it out.
-- Assumes nothing.
use Prim.Native.Nat.{ℕ, ◌*◌, ◌%◌, ◌^◌, ◌<◌}
use mathlib.Core.Path.{◌≡◌, refl, sym, ap, ap₂, ◌∙◌}
use mathlib.Core.Bool.{Bool, true, false, not, xor, ◌&&◌}
use borrow.Author.Tests.{eqb-true, eq-eqb, eqb-false, ne_eqb}
use lib.Bits.{bit_xor, xor_lt}
use lib.Dec.{eqb}
use lib.Pow.{pow-lt}
use Rattle.bits.specs.Set.{has}
use Rattle.bits.proofs.Digit.{shl_one}
use Rattle.bits.proofs.Sets.{has_xor, has_pow, is_set_of}
use Rattle.bitboard.specs.Bitboard.{without}

pub xor_square : (a s : ℕ) → a < 2 ^ 64 → s < 64 → has a s ≡ true → bit_xor a (1 * 2 ^ s % 2 ^ 64) ≡ without a s
unfolding without xor
xor_square a s h l e =
    ap (bit_xor a) (shl_one s l)
    ∙ is_set_of (bit_xor a (2 ^ s)) _ (xor_lt 64 a (2 ^ s) h (pow-lt l))
    (λ t k. has_xor a (2 ^ s) t ∙ ap (xor (has a t)) (has_pow s t) ∙ taken t (eqb s t) refl)
  where
    taken : (t : ℕ) (q : Bool) → eqb s t ≡ q → xor (has a t) q ≡ (has a t && not (eqb t s))
    taken t true r =
        let f : s ≡ t = eqb-true s t r in
        ap (λ (x : Bool). xor x true) (ap (has a) (sym f) ∙ e)
        ∙ sym (ap₂ (λ (x y : Bool). x && not y) (ap (has a) (sym f) ∙ e) (eq-eqb t s (sym f)))
    taken t false r =
        kept (has a t) ∙ ap (λ (x : Bool). has a t && not x) (sym (ne_eqb t s (λ f. eqb-false s t r (sym f))))
      where
        kept : (x : Bool) → xor x false ≡ (x && true)
        kept true = refl
        kept false = refl
