-- PEXT and PDEP as Intel's Software Developer's Manual, volume 2, gives them under "Operation", with OperandSize 64:
--     TEMP := SRC1; MASK := SRC2; DEST := 0; m := 0; k := 0;
--     DO WHILE m < OperandSize:  IF MASK[m] = 1 THEN .. k := k + 1; FI;  m := m + 1;  OD
-- where `..` is DEST[k] := TEMP[m] in PEXT, and DEST[m] := TEMP[k] in PDEP.
use Rattle.std.specs.Prelude.{ℕ, zero, suc, ◌+◌, ◌-◌, ◌*◌, ◌^◌, Bool, true, false}
use Rattle.bits.specs.Set.{bit, has}

-- DEST and k
pub record Turn : Type 0 where
  pub dest : ℕ
  pub k : ℕ

-- the number d with its digit at set to v: DEST[at] := v
unfoldable pub set_bit : ℕ → ℕ → ℕ → ℕ
set_bit d at v = (d - bit d at * 2 ^ at) + v * 2 ^ at

abbrev pub pext_turn : Bool → ℕ → ℕ → Turn → Turn
pext_turn true temp m s = record { dest = set_bit s.dest s.k (bit temp m); k = s.k + 1 }
pext_turn false temp m s = s

abbrev pub pdep_turn : Bool → ℕ → ℕ → Turn → Turn
pdep_turn true temp m s = record { dest = set_bit s.dest m (bit temp s.k); k = s.k + 1 }
pdep_turn false temp m s = s

-- after the turns at m = 0 .. n - 1
unfoldable pub pext_turns : ℕ → ℕ → ℕ → Turn
unfolding set_bit has
pext_turns zero temp mask = record { dest = 0; k = 0 }
pext_turns (suc m) temp mask = pext_turn (has mask m) temp m (pext_turns m temp mask)

unfoldable pub pdep_turns : ℕ → ℕ → ℕ → Turn
unfolding set_bit has
pdep_turns zero temp mask = record { dest = 0; k = 0 }
pdep_turns (suc m) temp mask = pdep_turn (has mask m) temp m (pdep_turns m temp mask)

unfoldable pub pext : ℕ → ℕ → ℕ
unfolding pext_turns
pext temp mask = (pext_turns 64 temp mask).dest

unfoldable pub pdep : ℕ → ℕ → ℕ
unfolding pdep_turns
pdep temp mask = (pdep_turns 64 temp mask).dest
