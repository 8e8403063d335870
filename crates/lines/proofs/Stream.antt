-- However a stream is cut into chunks, the header and what the calls write are what the program is to write for the stream.
-- Assumes nothing.
use Prim.Native.Nat.{ℕ, ◌≤◌}
use mathlib.Core.Path.{◌≡◌, refl, sym, ap, ap₂, ◌∙◌}
use mathlib.Core.Logic.{⊎_elim}
use mathlib.Core.Bool.{Bool, true, false, cond}
use mathlib.Core.List.{List, [], ◌∷◌, ◌++◌, append_assoc, append-nil}
use native.Mathlib.Omega.{arith}
use lib.Dec.{eqb}
use lib.ListN.{length, take, drop}
use lib.Seq.{take_at}
use borrow.Author.Tests.{eq-eqb, ne_eqb, eqb-true, eqb-false}
use Rattle.lines.specs.declared.Pending.{Pending}
use Rattle.lines.specs.Line.{answer_line}
use Rattle.lines.specs.Stream.{head_line, last_line, lines_from, answers_to, output_of}
use Rattle.lines.specs.Calls.{over, answered, fresh, line_of, pushed, next_of, says_of, after, written, taken, fed_of, ending}
use Rattle.lines.specs.Run.{Call, run_of, HasRoom, room_size, Sized, stream_of}
use Rattle.lines.proofs.Calls.{fitting_is, next_in, says_in, next_end, says_end, after_append, written_append}
use Rattle.lines.proofs.Line.{answer_length}
use Rattle.lines.proofs.Chunk.{all_taken}
use Rattle.lines.proofs.Kept.{answer_kept, Holds, holds_fresh, holds_push}

-- ---- the end of the stream

held_answer : (p : Pending) (line : List ℕ) → Holds p line → answer_line (line_of p) ≡ answer_line line
held_answer p line h = ap answer_line h.line_is ∙ answer_kept line

end_is : (p : Pending) (line : List ℕ) (room : ℕ) → Holds p line → 39 ≤ room → ending p room ≡ answers_to (last_line line)
unfolding ending last_line answers_to answered
end_is p [] room h k = simp (eq-eqb _ _ h.len_is)
end_is p (b ∷ line) room h k =
    let held : p.len ≡ 0 → ⊥ = λ e. omega (arith, h.len_is) in
    let fits : length (answer_line (line_of p)) ≤ room = ⊎_elim (λ l. omega arith) (λ l. omega arith) (answer_length (line_of p)) in
    simp (ne_eqb _ _ held)
    (fitting_is (answer_line (line_of p)) room fits ∙ held_answer p (b ∷ line) h ∙ sym (append-nil (answer_line (b ∷ line))))

-- ---- byte by byte

cut : (p : Pending) (line s : List ℕ) (room : ℕ) → Holds p line → 39 ≤ room → written p s ++ ending (after p s) room ≡ answers_to (lines_from line s)
unfolding written after lines_from answers_to
cut p line [] room h k = end_is p line room h k
cut p line (b ∷ s) room h k =
    go (eqb b 10) refl (cut fresh [] s room holds_fresh k) (cut (pushed p b) (line ++ (b ∷ [])) s room (holds_push p line b h) k)
  where
    go : (t : Bool) → eqb b 10 ≡ t → written fresh s ++ ending (after fresh s) room ≡ answers_to (lines_from [] s) → written (pushed p b) s ++ ending (after (pushed p b) s) room ≡ answers_to (lines_from (line ++ (b ∷ [])) s) → (says_of p b ++ written (next_of p b) s) ++ ending (after (next_of p b) s) room ≡ answers_to (cond t (line ∷ lines_from [] s) (lines_from (line ++ (b ∷ [])) s))
    go true e ended more =
        let q : b ≡ 10 = eqb-true b 10 e in
        rw (says_end p b q, next_end p b q, append_assoc) (ap₂ ◌++◌ (held_answer p line h) ended)
    go false e ended more =
        let q : b ≡ 10 → ⊥ = eqb-false b 10 e in
        rw (says_in p b q, next_in p b q) more

-- ---- call by call

-- what a buffer holds to be written
wrote : (w out : List ℕ) → take (length w) (over w out) ≡ w
unfolding over
wrote w out = take_at w (drop (length w) out) (length w) refl

run_is : (p : Pending) (calls : List Call) (last : List ℕ) → HasRoom calls → run_of p calls last ≡ written p (stream_of calls) ++ ending (after p (stream_of calls)) (length last)
unfolding run_of HasRoom stream_of written after fed_of
run_is p [] last h = wrote (ending p (length last)) last
run_is p (c ∷ more) last h =
    let s = c.chunk in
    let rest = stream_of more in
    rw (wrote (written p (taken s (length c.out))) c.out, all_taken s (length c.out) h.0, run_is (after p s) more last h.1, written_append p s rest, after_append p s rest)
    (sym (append_assoc (written p s) (written (after p s) rest) (ending (after (after p s) rest) (length last))))

-- However a stream is cut into chunks, what is written is the header and what its lines answer
pub stream_is : (calls : List Call) (last : List ℕ) → HasRoom calls → 39 ≤ length last → head_line ++ run_of fresh calls last ≡ output_of (stream_of calls)
unfolding output_of
stream_is calls last h k =
    ap (λ (l : List ℕ). head_line ++ l) (run_is fresh calls last h ∙ cut fresh [] (stream_of calls) (length last) holds_fresh k)

-- ---- the query program's buffers

sized_room : (calls : List Call) → Sized calls → HasRoom calls
unfolding Sized HasRoom
sized_room [] h = tt
sized_room (c ∷ more) h = (rw h.1 h.0, sized_room more h.2)

pub program_is : (calls : List Call) (last : List ℕ) → Sized calls → length last ≡ room_size → head_line ++ run_of fresh calls last ≡ output_of (stream_of calls)
program_is calls last h k = stream_is calls last (sized_room calls h) (omega arith)
