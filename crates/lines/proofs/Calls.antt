-- Laws of what the calls hand back: each way through a definition's tests, chunks one after the other, and how much a chunk makes written.
-- Assumes nothing.
use Prim.Native.Nat.{ℕ, ◌+◌, ◌*◌, ◌≤◌, ◌<◌, min}
use mathlib.Core.Path.{◌≡◌, refl, sym, ap, ◌∙◌}
use mathlib.Core.Logic.{⊎_elim}
use mathlib.Core.Bool.{Bool, true, false, cond}
use mathlib.Core.List.{List, [], ◌∷◌, ◌++◌, append_assoc}
use native.Mathlib.Omega.{arith}
use lib.Dec.{ltb, leb, eqb}
use lib.ListN.{length, set, length-append, length-take}
use borrow.Author.Tests.{lt-ltb, le-ltb, ltb-true, ltb-false, le-leb, lt-leb, leb-true, eq-eqb, ne_eqb, eqb-true, eqb-false}
use Rattle.std.specs.Prelude.{Option, Some, None}
use Rattle.lines.specs.declared.Pending.{Pending}
use Rattle.lines.specs.Line.{query_of, walk_of, mark, answer_to, answer_line}
use Rattle.lines.specs.Calls.{fitting, answered, fresh, line_of, pushed, next_of, says_of, after, written, ending}
use Rattle.lines.proofs.Line.{walk_long, walk_length, answer_length}

-- ---- what fits

pub fitting_not : (l : List ℕ) (room : ℕ) → room < length l → fitting l room ≡ []
unfolding fitting
fitting_not l room h = simp (lt-leb _ _ h)

pub fitting_is : (l : List ℕ) (room : ℕ) → length l ≤ room → fitting l room ≡ l
unfolding fitting
fitting_is l room h = simp (le-leb _ _ h)

fitting_fits : (l : List ℕ) (room : ℕ) → length (fitting l room) ≤ room
unfolding fitting
fitting_fits l room = go (leb (length l) room) refl
  where
    go : (t : Bool) → leb (length l) room ≡ t → length (cond t l []) ≤ room
    go true h = leb-true (length l) room h
    go false h = omega arith

pub ending_fits : (p : Pending) (room : ℕ) → length (ending p room) ≤ room
unfolding ending answered
ending_fits p room = go (eqb p.len 0)
  where
    go : (t : Bool) → length (cond t [] (answered (line_of p) room)) ≤ room
    go true = omega arith
    go false = fitting_fits (answer_line (line_of p)) room

pub ending_none : (p : Pending) (room : ℕ) → p.len ≡ 0 → ending p room ≡ []
unfolding ending
ending_none p room h = simp (eq-eqb _ _ h)

pub ending_some : (p : Pending) (room : ℕ) → (p.len ≡ 0 → ⊥) → ending p room ≡ answered (line_of p) room
unfolding ending
ending_some p room h = simp (ne_eqb _ _ h)

answered_by : (line : List ℕ) (room : ℕ) (v : Option ℕ) → walk_of (query_of line) ≡ v → answered line room ≡ fitting (answer_to line v) room
unfolding answered answer_line
answered_by line room v e = ap (λ (x : Option ℕ). fitting (answer_to line x) room) e

pub answered_mark : (line : List ℕ) (room : ℕ) → walk_of (query_of line) ≡ None → answered line room ≡ fitting mark room
unfolding answer_to
answered_mark line room e = answered_by line room None e

-- where a walk was found
pub answered_walk : (line : List ℕ) (room walk : ℕ) → walk_of (query_of line) ≡ Some walk → 39 ≤ room → answered line room ≡ answer_to line (Some walk)
answered_walk line room walk e h =
    answered_by line room (Some walk) e ∙ fitting_is (answer_to line (Some walk)) room (omega (arith, walk_length line walk (walk_long line walk e)))

pub answered_not : (line : List ℕ) (room walk : ℕ) → walk_of (query_of line) ≡ Some walk → room < 39 → answered line room ≡ []
answered_not line room walk e h =
    answered_by line room (Some walk) e ∙ fitting_not (answer_to line (Some walk)) room (omega (arith, walk_length line walk (walk_long line walk e)))

-- ---- one byte

pub pushed_in : (p : Pending) (b : ℕ) → p.len < 22 → pushed p b ≡ record { bytes = set p.bytes p.len b; len = p.len + 1 }
unfolding pushed
pushed_in p b h = simp (lt-ltb _ _ h)

pub pushed_full : (p : Pending) (b : ℕ) → 22 ≤ p.len → pushed p b ≡ p
unfolding pushed
pushed_full p b h = simp (le-ltb _ _ h)

pub next_in : (p : Pending) (b : ℕ) → (b ≡ 10 → ⊥) → next_of p b ≡ pushed p b
unfolding next_of
next_in p b h = simp (ne_eqb _ _ h)

pub says_in : (p : Pending) (b : ℕ) → (b ≡ 10 → ⊥) → says_of p b ≡ []
unfolding says_of
says_in p b h = simp (ne_eqb _ _ h)

pub next_end : (p : Pending) (b : ℕ) → b ≡ 10 → next_of p b ≡ fresh
unfolding next_of
next_end p b h = simp (eq-eqb _ _ h)

pub says_end : (p : Pending) (b : ℕ) → b ≡ 10 → says_of p b ≡ answer_line (line_of p)
unfolding says_of
says_end p b h = simp (eq-eqb _ _ h)

pub answered_end : (p : Pending) (b room : ℕ) → b ≡ 10 → length (says_of p b) ≤ room → answered (line_of p) room ≡ says_of p b
unfolding answered
answered_end p b room h k = fitting_is (answer_line (line_of p)) room (rw (says_end p b h) at k) ∙ sym (says_end p b h)

-- ---- chunks one after the other

pub after_append : (p : Pending) (s t : List ℕ) → after p (s ++ t) ≡ after (after p s) t
unfolding after
after_append p [] t = refl
after_append p (b ∷ s) t = after_append (next_of p b) s t

pub written_append : (p : Pending) (s t : List ℕ) → written p (s ++ t) ≡ written p s ++ written (after p s) t
unfolding written after
written_append p [] t = refl
written_append p (b ∷ s) t =
    ap (λ (l : List ℕ). says_of p b ++ l) (written_append (next_of p b) s t)
    ∙ sym (append_assoc (says_of p b) (written (next_of p b) s) (written (after (next_of p b) s) t))

-- ---- how much is written: a byte makes room for 2, a line of 21 for its answer of 39

answer_bound : (line : List ℕ) → length (answer_line line) ≤ 2 * length line + 2
answer_bound line = ⊎_elim (λ h. omega arith) (λ h. omega arith) (answer_length line)

abbrev pub held : Pending → ℕ
held p = min p.len 22

pushed_held : (p : Pending) (b : ℕ) → held (pushed p b) ≤ held p + 1
pushed_held p b = go (ltb p.len 22) refl
  where
    go : (t : Bool) → ltb p.len 22 ≡ t → held (pushed p b) ≤ held p + 1
    go true h = rw (pushed_in p b (ltb-true p.len 22 h)) (omega arith)
    go false h = rw (pushed_full p b (ltb-false p.len 22 h)) (omega arith)

line_held : (p : Pending) → length (line_of p) ≤ held p
line_held p = rw length-take (omega arith)

pub says_bound : (p : Pending) (b : ℕ) → length (says_of p b) + 2 * held (next_of p b) ≤ 2 * held p + 2
says_bound p b = go (eqb b 10) refl
  where
    go : (t : Bool) → eqb b 10 ≡ t → length (says_of p b) + 2 * held (next_of p b) ≤ 2 * held p + 2
    go true h =
        let e : b ≡ 10 = eqb-true b 10 h in
        rw (says_end p b e, next_end p b e) (omega (arith, answer_bound (line_of p), line_held p))
    go false h =
        let e : b ≡ 10 → ⊥ = eqb-false b 10 h in
        rw (says_in p b e, next_in p b e) (omega (arith, pushed_held p b))

pub written_bound : (p : Pending) (s : List ℕ) → length (written p s) + 2 * held (after p s) ≤ 2 * held p + 2 * length s
unfolding written after
written_bound p [] = omega arith
written_bound p (b ∷ s) = rw length-append (omega (arith, says_bound p b, written_bound (next_of p b) s))
