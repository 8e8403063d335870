-- Demand 1, the other half: what is not refused is answered, and with what. 01, "Numbers handed back", with every argument allowed;
-- and of a name exactly which bytes are read, and which are refused.
use Rattle.std.specs.Prelude.{ℕ, ◌+◌, ◌*◌, ◌≤◌, ◌<◌, ◌≡◌, List, [], ◌↔◌, length}
use Rattle.std.specs.Int.Bits.{bit_and}
use Rattle.refusal.specs.Paper.{Said, gives, refuses}
use Rattle.bits.specs.Set.{has, least}
use Rattle.square.specs.Square.{on_square, make_square, read_name, Reads}
use Rattle.bitboard.specs.Bitboard.{least_square}
use Rattle.board.specs.Board.{rays, on_block}
use Rattle.bmis.specs.Bmis as Bmis
use Rattle.gen_magic.specs.declared.Record.{Record}
use Rattle.gen_magic.specs.Builds.{slots}
use Rattle.magic.specs.LookUp.{slot_in, look_up}

pub record Answered : Type 1 where
  -- all that is asked by kind and square, where neither 1 nor 2 refuses it
  pub on_the_board : {A : Type 0} (kind sq : ℕ) (x : Said A) → kind ≤ 1 → sq ≤ 63 → on_block kind sq x ≡ x
  -- where 2 does not: a square alone, a rank and a file, a least square
  pub a_square : {A : Type 0} (sq : ℕ) (x : Said A) → sq ≤ 63 → on_square sq x ≡ x
  pub rank_and_file : (rank file : ℕ) → rank ≤ 7 → file ≤ 7 → make_square rank file ≡ gives (8 * rank + file)
  pub some_least : (a : ℕ) → (a ≡ 0 → ⊥) → least_square a ≡ gives (least 64 (has a))
  -- "A square name is read from at least two bytes: a letter a to h, then a digit 1 to 8; what follows is ignored"
  pub name_read : (bytes : List ℕ) (s : ℕ) → (read_name bytes ≡ gives s) ↔ Reads bytes s
  -- 2: "name unreadable", exactly when it is read as no square
  pub name_refused : (bytes : List ℕ) → (read_name bytes ≡ refuses 2 []) ↔ ((s : ℕ) → Reads bytes s → ⊥)
  -- where 9 does not: a look-up "for any 107,648 entries"
  pub pext_looked_up : {A : Type 0} (kind sq : ℕ) (x : Said A) → kind ≤ 1 → sq ≤ 63 → Bmis.in_table kind sq 107648 x ≡ x
  -- where neither 8 nor 7 does: the slot, "ANDed with the rays. It answers by this formula for any record."
  pub looked_up : (kind sq blockers : ℕ) (r : Record) (table : List ℕ) → kind ≤ 1 → sq ≤ 63 → 52 ≤ r.shift → r.shift ≤ 59 → slot_in r blockers < length table → on_block kind sq (look_up kind sq blockers r table) ≡ gives (bit_and (slots table (slot_in r blockers)) (rays kind sq))
