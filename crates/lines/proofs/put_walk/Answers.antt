-- `lines::put_walk` meets its contract: the line, the space, the digits and the line feed are laid over the buffer's start one after the other.
use Prim.Native.Nat.{ℕ, ◌-◌}
use mathlib.Core.Path.{◌≡◌, ap, ◌∙◌}
use mathlib.Core.List.{List, [], ◌∷◌, ◌++◌, append_assoc}
use native.Mathlib.Omega.{arith}
use lib.ListN.{length, set, length-append}
use borrow.Rule.Slice.PartMut.{post_of, put_mid}
use Rattle.hex_digits.specs.Hex.{digits}
use Rattle.hex_digits.proofs.Laws.{digits_length}
use Rattle.lines.specs.Line.{answer_to}
use Rattle.lines.specs.Calls.{over}
use Rattle.lines.proofs.Over.{over_copy, over_one, over_digits}
use Rattle.lines.proofs.put_walk.Goals as goal

pub returns : goal.returns
unfolding answer_to
returns c =
    let line = c.args.line.now in
    let out = c.args.out.now in
    let walk = c.args.walk in
    let part = c.copy_from_slice.new.self in
    let spaced = set (part ++ post_of 0 21 out) 21 32 in
    let spelt = put_mid 22 (length spaced - 22) spaced c.write.new.out in
    let first : spaced ≡ over (line ++ (32 ∷ [])) out =
    ap (λ (x : List ℕ). set x 21 32) (over_copy line out part 21 c.copy_from_slice.ensures.after c.requires.line_len)
    ∙ over_one line out 21 32 c.requires.line_len (omega arith) in
    let second : spelt ≡ over ((line ++ (32 ∷ [])) ++ digits 16 walk) out =
    over_digits (line ++ (32 ∷ [])) out spaced c.write.new.out 22 walk
    (rw length-append (omega arith)) (omega arith) first c.write.ensures in
    ap (λ (x : List ℕ). set x 38 10) second
    ∙ over_one ((line ++ (32 ∷ [])) ++ digits 16 walk) out 38 10 (simp (length-append, digits_length) (omega arith)) (omega arith)
    ∙ ap (λ (x : List ℕ). over x out) (simp append_assoc)
