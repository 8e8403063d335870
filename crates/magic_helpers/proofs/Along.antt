-- The loop along one direction: what is gathered, and the walk from where it stands, make the whole.
-- Assumes nothing.
use Prim.Native.Nat.{ℕ, zero, suc, ◌+◌, ◌-◌, ◌*◌, ◌%◌, ◌^◌, ◌≤◌, ◌<◌}
use mathlib.Core.Path.{◌≡◌, refl, sym, ap, ◌∙◌}
use mathlib.Core.Bool.{Bool}
use mathlib.Core.List.{List, [], ◌∷◌}
use Rattle.std.specs.Prelude.{Option, Some, None}
use native.Mathlib.Omega.{arith}
use borrow.Author.Tests.{le-ltb}
use lib.Bits.{bit_and, bit_or, or_zero_r}
use Rattle.refusal.specs.Paper.{Said, gives, refuse_if}
use Rattle.bits.specs.Set.{pick, has}
use Rattle.bits.proofs.Digit.{shl_one}
use Rattle.bits.proofs.Algebra.{bit_or_assoc, test_has, test_not}
use Rattle.square.specs.Square.{on_square}
use Rattle.board.specs.Walk.{step, onward, up_to}

-- a step from a square of the board is given
pub given_step : (k d s : ℕ) (x : Said (Option ℕ)) → s < 64 → x ≡ on_square s (gives (step k d s)) → x ≡ gives (step k d s)
given_step k d s x h e = e ∙ ap (λ (c : Bool). refuse_if c 2 (gives (step k d s))) (le-ltb 63 s (omega arith))

-- with 7 - n steps to go
unfoldable pub to_go : ℕ → ℕ → ℕ → ℕ → ℕ → ℕ
to_go b n k d s = up_to b (onward (7 - n) k d (step k d s))

nowhere : (m k d : ℕ) → onward m k d None ≡ []
unfolding onward
nowhere zero k d = refl
nowhere (suc m) k d = refl

onward_some : (n k d t : ℕ) → n < 7 → onward (7 - n) k d (Some t) ≡ t ∷ onward (7 - (n + 1)) k d (step k d t)
unfolding onward
onward_some n k d t h =
    let q : 7 - n ≡ suc (7 - (n + 1)) = omega arith in
    ap (λ (m : ℕ). onward m k d (Some t)) q

module _ (b n k d s set w : ℕ) (inv : bit_or set (to_go b n k d s) ≡ w) where
  -- no step: what is gathered is the whole
  pub along_off : step k d s ≡ None → set ≡ w
  unfolding to_go up_to
  along_off e = sym (or_zero_r set) ∙ ap (λ (l : List ℕ). bit_or set (up_to b l)) (sym (ap (onward (7 - n) k d) e ∙ nowhere (7 - n) k d)) ∙ inv

  -- seven steps: the same
  pub along_end : 7 ≤ n → set ≡ w
  unfolding to_go up_to onward
  along_end h =
      let z : 7 - n ≡ 0 = omega arith in
      sym (or_zero_r set) ∙ ap (λ (m : ℕ). bit_or set (up_to b (onward m k d (step k d s)))) (sym z) ∙ inv

  module _ (t : ℕ) (e : step k d s ≡ Some t) (h : n < 7) (low : t < 64) where
    next : bit_or (bit_or set (2 ^ t)) (pick (has b t) 0 (to_go b (n + 1) k d t)) ≡ w
    unfolding to_go up_to
    next =
        bit_or_assoc set (2 ^ t) (pick (has b t) 0 (to_go b (n + 1) k d t))
        ∙ ap (λ (l : List ℕ). bit_or set (up_to b l)) (sym (ap (onward (7 - n) k d) e ∙ onward_some n k d t h)) ∙ inv

    -- a step onto a blocker, or onto a free square: `one` is `1 << t`
    module _ (one : ℕ) (is_one : one ≡ 1 * 2 ^ t % 2 ^ 64) where
      square_of : one ≡ 2 ^ t
      square_of = is_one ∙ shl_one t low

      pub along_stop : (bit_and b one ≡ 0 → ⊥) → bit_or set one ≡ w
      along_stop q =
          ap (bit_or set) square_of ∙ sym (or_zero_r (bit_or set (2 ^ t)))
          ∙ ap (λ (c : Bool). bit_or (bit_or set (2 ^ t)) (pick c 0 (to_go b (n + 1) k d t))) (sym (test_has b t (λ z. q (ap (bit_and b) square_of ∙ z)))) ∙ next

      pub along_on : bit_and b one ≡ 0 → bit_or (bit_or set one) (to_go b (n + 1) k d t) ≡ w
      along_on q =
          ap (λ (x : ℕ). bit_or (bit_or set x) (to_go b (n + 1) k d t)) square_of
          ∙ ap (λ (c : Bool). bit_or (bit_or set (2 ^ t)) (pick c 0 (to_go b (n + 1) k d t))) (sym (test_not b t (ap (bit_and b) (sym square_of) ∙ q))) ∙ next
