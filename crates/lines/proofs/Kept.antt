-- Keeping 22 bytes of a line loses nothing: a longer line is answered as its first 22 bytes are, and the state holds them whatever follows.
-- Assumes nothing.
use Prim.Native.Nat.{ℕ, suc, ◌+◌, ◌≤◌, ◌<◌, min}
use mathlib.Core.Path.{◌≡◌, refl, sym, ap, ◌∙◌}
use mathlib.Core.Bool.{Bool, true, false}
use mathlib.Core.List.{List, [], ◌∷◌, ◌++◌}
use native.Mathlib.Omega.{arith}
use lib.Dec.{ltb}
use lib.ListN.{length, take, set, length-append, length-take, length-set}
use lib.Seq.{take_all, take-append-le, take-suc-set}
use borrow.Author.Tests.{ltb-true, ltb-false, ne_eqb}
use Rattle.lines.specs.declared.Pending.{Pending}
use Rattle.lines.specs.Line.{query_of, walk_of, mark, answer_to, answer_line}
use Rattle.lines.specs.Calls.{fresh, line_of, pushed}
use Rattle.lines.proofs.Calls.{pushed_in, pushed_full}

other_length : (line : List ℕ) → (length line ≡ 21 → ⊥) → answer_line line ≡ mark
unfolding answer_line query_of walk_of answer_to
other_length line h = simp (ne_eqb _ _ h)

pub answer_kept : (line : List ℕ) → answer_line (take 22 line) ≡ answer_line line
answer_kept line = go (ltb (length line) 22) refl
  where
    go : (t : Bool) → ltb (length line) 22 ≡ t → answer_line (take 22 line) ≡ answer_line line
    go true h =
        let short : length line ≤ 22 = omega (arith, ltb-true) in
        ap answer_line (take_all 22 line short)
    go false h =
        let long : 22 ≤ length line = ltb-false (length line) 22 h in
        other_length (take 22 line) (λ e. omega (arith, length-take 22 line))
        ∙ sym (other_length line (λ e. omega arith))

-- the state holds a line: its first 22 bytes, and how many they are
pub record Holds (p : Pending) (line : List ℕ) : Type 0 where
  pub size : length p.bytes ≡ 22
  pub len_is : p.len ≡ min (length line) 22
  pub line_is : line_of p ≡ take 22 line

pub holds_fresh : Holds fresh []
holds_fresh = record { size = refl; len_is = refl; line_is = refl }

-- a byte more, while it is kept and after that
kept : (p : Pending) (line : List ℕ) (b : ℕ) → Holds p line → p.len < 22 → Holds (record { bytes = set p.bytes p.len b; len = p.len + 1 }) (line ++ (b ∷ []))
kept p line b h low =
    let len : p.len ≡ length line = omega (arith, h.len_is) in
    let one : min (p.len + 1) 22 ≡ suc p.len = omega arith in
    let same : p.len ≡ min p.len 22 = omega arith in
    let more : length (line ++ (b ∷ [])) ≤ 22 = rw length-append (omega arith) in
    record {
      size = length-set p.bytes p.len b ∙ h.size;
      len_is = omega (arith, length-append line (b ∷ []));
      line_is =
          ap (λ (n : ℕ). take n (set p.bytes p.len b)) one
          ∙ take-suc-set p.bytes p.len b (omega (arith, h.size))
          ∙ ap (λ (l : List ℕ). l ++ (b ∷ [])) (ap (λ (n : ℕ). take n p.bytes) same ∙ h.line_is ∙ take_all 22 line (omega arith))
          ∙ sym (take_all 22 (line ++ (b ∷ [])) more);
    }

left_out : (p : Pending) (line : List ℕ) (b : ℕ) → Holds p line → 22 ≤ p.len → Holds p (line ++ (b ∷ []))
left_out p line b h full =
    let long : 22 ≤ length line = omega (arith, h.len_is) in
    record {
      size = h.size;
      len_is = omega (arith, h.len_is, length-append line (b ∷ []));
      line_is = h.line_is ∙ sym (take-append-le 22 line (b ∷ []) long);
    }

pub holds_push : (p : Pending) (line : List ℕ) (b : ℕ) → Holds p line → Holds (pushed p b) (line ++ (b ∷ []))
holds_push p line b h = go (ltb p.len 22) refl
  where
    go : (t : Bool) → ltb p.len 22 ≡ t → Holds (pushed p b) (line ++ (b ∷ []))
    go true e =
        let low : p.len < 22 = ltb-true p.len 22 e in
        rw (pushed_in p b low) (kept p line b h low)
    go false e =
        let full : 22 ≤ p.len = ltb-false p.len 22 e in
        rw (pushed_full p b full) (left_out p line b h full)
