-- Laws of a line: what can be read is 21 bytes long and asks for a block, and how long an answer is.
-- Assumes nothing.
use Prim.Native.Nat.{ℕ, ◌<◌}
use mathlib.Core.Path.{◌≡◌, refl, subst}
use mathlib.Core.Logic.{◌⊎◌, inl, inr}
use mathlib.Core.Bool.{Bool, true, false, cond}
use mathlib.Core.List.{List}
use native.Mathlib.Omega.{arith}
use lib.Dec.{eqb}
use lib.ListN.{length, get_or, take, drop, length-append}
use borrow.Author.Tests.{eqb-true}
use Rattle.refusal.specs.Paper.{Said, gives, refuses}
use Rattle.square.specs.Square.{read_name}
use Rattle.square.proofs.Names.{name_low}
use Rattle.board.specs.Board.{attack, on_block}
use Rattle.board.proofs.Blocks.{on_block_lem}
use Rattle.std.specs.Prelude.{Option, Some, None, option_map}
use Rattle.hex_digits.specs.Hex.{read_word}
use Rattle.hex_digits.proofs.Laws.{digits_length}
use Rattle.lines.specs.declared.Query.{Query}
use Rattle.lines.specs.Line.{only_if, on_name, query_after, query_of, walk_of, answer_to, answer_line}

-- ---- what a line that can be read is like

-- the block that a query asks for is one
abbrev Low : Option Query → Type 0
Low (Some q) = (q.kind < 2) × (q.square < 64)
Low None = Unit

only_low : (t : Bool) (q : Option Query) → Low q → Low (only_if t q)
only_low true q h = h
only_low false q h = tt

after_low : (kind : ℕ) (line : List ℕ) → kind < 2 → Low (query_after kind line)
unfolding query_after
after_low kind line h =
    only_low (eqb (get_or line 1 0) 32) (on_name (read_name (take 2 (drop 2 line))) after_name)
    (go (read_name (take 2 (drop 2 line))) (name_low (take 2 (drop 2 line))))
  where
    word : ℕ → Option ℕ → Option Query
    word square v = option_map (λ blockers. record { kind = kind; square = square; blockers = blockers }) v

    after_name : ℕ → Option Query
    after_name square = only_if (eqb (get_or line 4 0) 32) (word square (read_word (take 16 (drop 5 line))))

    word_low : (square : ℕ) (v : Option ℕ) → square < 64 → Low (word square v)
    word_low square (Some b) l = (h, l)
    word_low square None l = tt

    go : (n : Said ℕ) → ((s : ℕ) → n ≡ gives s → s < 64) → Low (on_name n after_name)
    go (gives s) l = only_low (eqb (get_or line 4 0) 32) (word s (read_word (take 16 (drop 5 line)))) (word_low s (read_word (take 16 (drop 5 line))) (l s refl))
    go (refuses n r) l = tt

query_low : (line : List ℕ) → Low (query_of line)
unfolding query_of
query_low line =
    only_low (eqb (length line) 21) (cond (eqb (get_or line 0 0) 82) (query_after 0 line) (cond (eqb (get_or line 0 0) 66) (query_after 1 line) None))
    (either (eqb (get_or line 0 0) 82) (query_after 0 line) (cond (eqb (get_or line 0 0) 66) (query_after 1 line) None) (after_low 0 line (omega arith))
    (either (eqb (get_or line 0 0) 66) (query_after 1 line) None (after_low 1 line (omega arith)) tt))
  where
    either : (t : Bool) (p q : Option Query) → Low p → Low q → Low (cond t p q)
    either true p q h k = h
    either false p q h k = k

-- so that nothing is refused
pub block_given : (line : List ℕ) (q : Query) → query_of line ≡ Some q → on_block q.kind q.square (gives (attack q.kind q.square q.blockers)) ≡ gives (attack q.kind q.square q.blockers)
block_given line q e =
    let low : Low (Some q) = subst Low e (query_low line) in
    on_block_lem q.kind q.square _ low.0 low.1

pub walk_long : (line : List ℕ) (walk : ℕ) → walk_of (query_of line) ≡ Some walk → length line ≡ 21
unfolding query_of walk_of
walk_long line walk = go (eqb (length line) 21) refl
  where
    go : (t : Bool) → eqb (length line) 21 ≡ t → walk_of (only_if t (cond (eqb (get_or line 0 0) 82) (query_after 0 line) (cond (eqb (get_or line 0 0) 66) (query_after 1 line) None))) ≡ Some walk → length line ≡ 21
    go true h e = eqb-true (length line) 21 h
    go false h e = cc

-- ---- how long an answer is

pub walk_length : (line : List ℕ) (walk : ℕ) → length line ≡ 21 → length (answer_to line (Some walk)) ≡ 39
unfolding answer_to
walk_length line walk h = simp (length-append, digits_length) (omega arith)

pub answer_length : (line : List ℕ) → ((length line ≡ 21) × (length (answer_line line) ≡ 39)) ⊎ (length (answer_line line) ≡ 2)
unfolding answer_line answer_to
answer_length line = go (walk_of (query_of line)) (walk_long line)
  where
    go : (v : Option ℕ) → ((w : ℕ) → v ≡ Some w → length line ≡ 21) → ((length line ≡ 21) × (length (answer_to line v) ≡ 39)) ⊎ (length (answer_to line v) ≡ 2)
    go (Some w) h = inl (h w refl, walk_length line w (h w refl))
    go None h = inr refl
