-- What `block` gives: a block of that kind and that square, of which nothing is refused.
-- Assumes nothing.
use Rattle.std.proofs.Common.{◌≡◌, ℕ, ◌≤◌, ◌<◌, Bool, true, false, refl, ap, ◌∙◌, arith}
use lib.Dec.{ltb}
use borrow.Author.Tests.{ltb-false}
use Rattle.refusal.specs.Paper.{Said, gives, refuse_if}
use Rattle.refusal.proofs.Said.{gives_same, gives_not}
use Rattle.board.specs.Board.{on_block}
use Rattle.board.specs.Blocks.{block_of, kind_of, square_of}
use Rattle.board.proofs.Blocks.{on_block_lem, kind_block, square_block}

-- it is on the board
pub record OnBoard (k s b : ℕ) : Type 0 where
  pub a_kind : k < 2
  pub a_square : s < 64
  pub is : b ≡ block_of k s

on_board : (k s b : ℕ) → gives b ≡ on_block k s (gives (block_of k s)) → OnBoard k s b
on_board k s b = go (ltb 1 k) refl (ltb 63 s) refl
  where
    go : (p : Bool) → ltb 1 k ≡ p → (q : Bool) → ltb 63 s ≡ q → gives b ≡ refuse_if p 1 (refuse_if q 2 (gives (block_of k s))) → OnBoard k s b
    go true p q r e = absurd (gives_not e)
    go false p true r e = absurd (gives_not e)
    go false p false r e =
        let k1 : k ≤ 1 = ltb-false 1 k p in
        let s63 : s ≤ 63 = ltb-false 63 s r in
        record { a_kind = omega arith; a_square = omega arith; is = gives_same e }

pub found_kind : (k s b : ℕ) → gives b ≡ on_block k s (gives (block_of k s)) → kind_of b ≡ k
found_kind k s b e = let o = on_board k s b e in ap kind_of o.is ∙ kind_block k s o.a_kind o.a_square

pub found_square : (k s b : ℕ) → gives b ≡ on_block k s (gives (block_of k s)) → square_of b ≡ s
found_square k s b e = let o = on_board k s b e in ap square_of o.is ∙ square_block k s o.a_square

pub found_on : {A : Type 0} (k s b : ℕ) (x : Said A) → gives b ≡ on_block k s (gives (block_of k s)) → on_block k s x ≡ x
found_on k s b x e = let o = on_board k s b e in on_block_lem k s x o.a_kind o.a_square
