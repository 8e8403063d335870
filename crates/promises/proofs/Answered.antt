-- What is not refused is answered.
-- Assumes nothing.
use Prim.Native.Nat.{ℕ, ◌≤◌}
use mathlib.Core.Path.{◌≡◌, sym, ap, ◌∙◌}
use mathlib.Core.Bool.{Bool, false}
use borrow.Author.Tests.{le-ltb, ne_eqb}
use Rattle.refusal.specs.Paper.{Said, refuse_if}
use Rattle.square.proofs.Names.{name_exactly, unreadable_exactly}
use Rattle.board.specs.Board.{rays, on_block}
use Rattle.magic.proofs.LookUps.{look_gives}
use Rattle.magic.proofs.Audits.{inside}
use Rattle.promises.specs.Answered.{Answered}

-- a test that is passed
passed_if : {A : Type 0} {c : Bool} (n : ℕ) (x : Said A) → c ≡ false → refuse_if c n x ≡ x
passed_if n x e = ap (λ (c : Bool). refuse_if c n x) e

on_the_board : {A : Type 0} (kind sq : ℕ) (x : Said A) → kind ≤ 1 → sq ≤ 63 → on_block kind sq x ≡ x
on_the_board kind sq x h g = passed_if 1 _ (le-ltb 1 kind h) ∙ passed_if 2 x (le-ltb 63 sq g)

pub answered : Answered
answered =
    record {
      on_the_board = on_the_board;
      a_square = λ sq x h. passed_if 2 x (le-ltb 63 sq h);
      rank_and_file = λ rank file h g. passed_if 2 _ (le-ltb 7 rank h) ∙ passed_if 2 _ (le-ltb 7 file g);
      some_least = λ a n. passed_if 2 _ (ne_eqb a 0 n);
      name_read = name_exactly;
      name_refused = unreadable_exactly;
      pext_looked_up = on_the_board;
      looked_up = λ kind sq blockers r table h g l m i. on_the_board kind sq _ h g ∙ sym (look_gives (rays kind sq) blockers r table (inside r.shift (l, m)) i);
    }
