-- Answers by the block of a kind and a square in a table of the right length.
-- Assumes nothing.
use Prim.Native.Nat.{ℕ, ◌+◌, ◌≤◌, ◌<◌}
use mathlib.Core.Path.{◌≡◌, refl, ap, ◌∙◌}
use mathlib.Core.Bool.{Bool, true, false, not}
use mathlib.Core.List.{List, []}
use native.Mathlib.Omega.{arith}
use borrow.Author.Tests.{eqb-true, eq-eqb, ltb-false}
use lib.Dec.{ltb, eqb}
use lib.ListN.{length, get_or, drop, length-take, length-drop}
use Rattle.refusal.specs.Paper.{Said, gives, refuses, refuse_if}
use Rattle.refusal.proofs.Said.{gives_same, gives_not}
use Rattle.bits.specs.Intel.{pext, pdep}
use Rattle.bits.proofs.Parts.{get_or_part}
use Rattle.board.specs.Board.{rays, mask}
use Rattle.board.specs.Blocks.{block_of, kind_of, square_of, size_of}
use Rattle.board.proofs.Blocks.{on_block_lem, kind_block, square_block, kind_lt, square_lt}
use Rattle.board.proofs.Sizes.{size_low}
use Rattle.board.proofs.Subsets.{index_lt}
use Rattle.bmis.specs.Bmis.{of_length, in_table, offset_of, look_up, part_of}
use Rattle.bmis.proofs.Sums.{offset_within}

-- "Order: 1, 2, 9": each where the later ones hold too
pub kind_first : in_table {A = ℕ} 2 64 0 (gives 0) ≡ refuses 1 []
kind_first = refl

pub square_second : in_table {A = ℕ} 0 64 0 (gives 0) ≡ refuses 2 []
square_second = refl

pub length_last : in_table {A = ℕ} 0 63 0 (gives 0) ≡ refuses 9 []
length_last = refl

-- what is given is a block of that kind and that square, in a table of the right length, of which nothing is refused
pub record Within (k s n b : ℕ) : Type 0 where
  pub a_kind : k < 2
  pub a_square : s < 64
  pub long : n ≡ 107648
  pub is : b ≡ block_of k s

within_table : (k s n b : ℕ) → gives b ≡ in_table k s n (gives (block_of k s)) → Within k s n b
within_table k s n b = go (ltb 1 k) refl (ltb 63 s) refl (eqb n 107648) refl
  where
    go : (p : Bool) → ltb 1 k ≡ p → (q : Bool) → ltb 63 s ≡ q → (d : Bool) → eqb n 107648 ≡ d → gives b ≡ refuse_if p 1 (refuse_if q 2 (refuse_if (not d) 9 (gives (block_of k s)))) → Within k s n b
    go true p q r d h e = absurd (gives_not e)
    go false p true r d h e = absurd (gives_not e)
    go false p false r false h e = absurd (gives_not e)
    go false p false r true h e =
        let k1 : k ≤ 1 = ltb-false 1 k p in
        let s63 : s ≤ 63 = ltb-false 63 s r in
        record { a_kind = omega arith; a_square = omega arith; long = eqb-true n 107648 h; is = gives_same e }

pub table_kind : (k s n b : ℕ) → gives b ≡ in_table k s n (gives (block_of k s)) → kind_of b ≡ k
table_kind k s n b e = let w = within_table k s n b e in ap kind_of w.is ∙ kind_block k s w.a_kind w.a_square

pub table_square : (k s n b : ℕ) → gives b ≡ in_table k s n (gives (block_of k s)) → square_of b ≡ s
table_square k s n b e = let w = within_table k s n b e in ap square_of w.is ∙ square_block k s w.a_square

pub table_long : (k s n b : ℕ) → gives b ≡ in_table k s n (gives (block_of k s)) → n ≡ 107648
table_long k s n b e = (within_table k s n b e).long

pub table_on : {A : Type 0} (k s n b : ℕ) (x : Said A) → gives b ≡ in_table k s n (gives (block_of k s)) → in_table k s n x ≡ x
table_on k s n b x e =
    let w = within_table k s n b e in
    on_block_lem k s (of_length n x) w.a_kind w.a_square ∙ ap (λ (c : Bool). refuse_if (not c) 9 x) (eq-eqb n 107648 w.long)

-- ---- the part of a block

pub part_ends : (b : ℕ) → offset_of (kind_of b) (square_of b) + size_of (kind_of b) (square_of b) ≤ 107648
part_ends b = offset_within (kind_of b) (square_of b) (kind_lt b) (square_lt b)

pub block_ends : (b offset size : ℕ) → offset ≡ offset_of (kind_of b) (square_of b) → size ≡ size_of (kind_of b) (square_of b) → offset + size ≤ 107648
block_ends b offset size eo es = omega (arith, part_ends b)

-- a block's part is as long as the block; so "the empty part, which no block is"
pub part_long : (k s : ℕ) (table : List ℕ) → k < 2 → s < 64 → length table ≡ 107648 → length (part_of k s table) ≡ size_of k s
unfolding part_of
part_long k s table hk hs e = omega (arith, length-take (size_of k s) (drop (offset_of k s) table), length-drop (offset_of k s) table, offset_within k s hk hs)

pub part_some : (k s : ℕ) (table : List ℕ) → k < 2 → s < 64 → length table ≡ 107648 → part_of k s table ≡ [] → ⊥
part_some k s table hk hs e q = let l : length (part_of k s table) ≡ 0 = ap length q in omega (arith, part_long k s table hk hs e, size_low k s hk hs)

-- the look-up in the part is the look-up in the whole
pub look_part : (b blockers : ℕ) (table part : List ℕ) → part ≡ part_of (kind_of b) (square_of b) table → pdep (get_or part (pext blockers (mask (kind_of b) (square_of b))) 0) (rays (kind_of b) (square_of b)) ≡ look_up (kind_of b) (square_of b) blockers table
unfolding look_up part_of
look_part b blockers table part e =
    ap (λ (x : ℕ). pdep x (rays (kind_of b) (square_of b)))
    (ap (λ (l : List ℕ). get_or l (pext blockers (mask (kind_of b) (square_of b))) 0) e
    ∙ get_or_part (offset_of (kind_of b) (square_of b)) (size_of (kind_of b) (square_of b)) (pext blockers (mask (kind_of b) (square_of b))) table 0 (index_lt (kind_of b) (square_of b) blockers))
