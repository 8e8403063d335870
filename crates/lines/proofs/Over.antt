-- Laws of bytes laid over the start of a buffer: one more byte, and the bytes that a call lays over the rest.
-- Assumes nothing.
use Prim.Native.Nat.{ℕ, suc, ◌+◌, ◌-◌, ◌≤◌, ◌<◌}
use mathlib.Core.Path.{◌≡◌, refl, sym, ap, ◌∙◌}
use mathlib.Core.List.{List, [], ◌∷◌, ◌++◌, append_assoc, append-nil}
use native.Mathlib.Omega.{arith}
use native.Mathlib.Numerals.{add-one}
use lib.ListN.{length, get_or, drop, set, length-append, length-take, length-drop, drop_of_length-le}
use lib.Seq.{drop-cons, drop-drop, drop_at, take_at, set_at, take_all, append_snoc}
use borrow.Author.Tests.{le-leb}
use borrow.Rule.Slice.PartMut.{mid_of, post_of, put_mid}
use Rattle.hex_digits.specs.Hex.{digits, write_word}
use Rattle.hex_digits.proofs.Laws.{digits_length}
use Rattle.lines.specs.Calls.{over}

pub over_none : (out : List ℕ) → over [] out ≡ out
unfolding over
over_none out = refl

-- what a call gives and leaves that lays bytes over the start of a buffer: their count, and the buffer with them
abbrev pub Laid : ℕ → List ℕ → List ℕ → List ℕ → Type 0
Laid r o out l = record { value : r ≡ length l; out_after : o ≡ over l out }

-- the same, where the bytes have another name
pub over_as : (r : ℕ) (o out : List ℕ) {l k : List ℕ} → l ≡ k → Laid r o out l → Laid r o out k
over_as r o out e h = record {
  value = h.value ∙ ap length e;
  out_after = h.out_after ∙ ap (λ (x : List ℕ). over x out) e;
}

-- what a copy to the first n bytes leaves
pub over_copy : (w out part : List ℕ) (n : ℕ) → part ≡ w → length w ≡ n → part ++ post_of 0 n out ≡ over w out
unfolding over
over_copy w out part n e h = rw (e, ← h)

pub over_length : (w out : List ℕ) → length w ≤ length out → length (over w out) ≡ length out
unfolding over
over_length w out h = rw (length-append, length-drop) (omega arith)

-- the byte after those that stand
pub over_one : (w out : List ℕ) (n b : ℕ) → length w ≡ n → n < length out → set (over w out) n b ≡ over (w ++ (b ∷ [])) out
unfolding over
over_one w out n b e h =
    ap (λ (r : List ℕ). set (w ++ r) n b) (drop-cons out (length w) 0 (omega arith))
    ∙ set_at w (get_or out (length w) 0) (drop (suc (length w)) out) b n e
    ∙ sym (append_snoc w b (drop (suc (length w)) out))
    ∙ ap (λ (k : ℕ). (w ++ (b ∷ [])) ++ drop k out) (sym (length-append w (b ∷ []) ∙ add-one (length w)))

-- the part of the buffer after those that stand, with bytes over its start
pub over_rest : (w v out : List ℕ) (n k : ℕ) → length w ≡ n → length w ≤ length out → length out - n ≤ k → put_mid n k (over w out) (over v (mid_of n k (over w out))) ≡ over (w ++ v) out
unfolding over
over_rest w v out n k e h l =
    let rest : length (drop (length w) out) ≤ k = rw length-drop (omega arith) in
    simp (take_at w (drop (length w) out) n e, drop_at w (drop (length w) out) n e, take_all k (drop (length w) out) rest, drop_of_length-le (drop (length w) out) rest, append-nil, drop-drop, append_assoc, length-append)

-- the same where the call is `hex_digits::write`
write_fits : (walk : ℕ) (out : List ℕ) → 16 ≤ length out → write_word walk out ≡ over (digits 16 walk) out
unfolding write_word over
write_fits walk out h = simp (le-leb _ _ h, digits_length)

pub over_digits : (w out o o₁ : List ℕ) (n walk : ℕ) → length w ≡ n → n + 16 ≤ length out → o ≡ over w out → o₁ ≡ write_word walk (mid_of n (length o - n) o) → put_mid n (length o - n) o o₁ ≡ over (w ++ digits 16 walk) out
over_digits w out o o₁ n walk e h f g =
    let k = length o - n in
    let same : length o ≡ length out = ap length f ∙ over_length w out (omega arith) in
    let room : 16 ≤ length (mid_of n k o) = rw (length-take, length-drop) (omega arith) in
    ap (put_mid n k o) (g ∙ write_fits walk (mid_of n k o) room)
    ∙ ap (λ (x : List ℕ). put_mid n k x (over (digits 16 walk) (mid_of n k x))) f
    ∙ over_rest w (digits 16 walk) out n k e (omega arith) (omega arith)
