-- The two builds: what each hands back and leaves. 01, "Packing" and "Numbers handed back".
use Rattle.std.specs.Prelude.{ℕ, Bool, true, false, not, List, [], ◌∷◌, eqb, ltb, length, get_or, replicate, Result, Ok, Err}
use Rattle.refusal.specs.declared.Refusal.{Refusal}
use Rattle.refusal.specs.Paper.{Said, gives, refuses, number_of, values_of}
use Rattle.bits.specs.Shown.{shown}
use Rattle.board.specs.Board.{mask}
use Rattle.board.specs.Blocks.{kind_of, square_of, shift_of}
use Rattle.splitmix.specs.SplitMix.{candidate}
use Rattle.packing.specs.Pack as Pack
use Rattle.packing.specs.Pack.{seed_build, lent_build}
use Rattle.blocks.specs.Real.{real}
use Rattle.gen_magic.specs.declared.Record.{Record}
use Rattle.gen_magic.specs.declared.Build.{Build}

-- the slots of a list: what each holds, 0 past the length
abbrev pub slots : List ℕ → ℕ → ℕ
slots l j = get_or l j 0

-- "A record is multiplier, mask, offset (32 bits), shift."
abbrev pub record_at : ℕ → ℕ → ℕ → Record
record_at b multiplier offset =
    record { multiplier = multiplier; mask = mask (kind_of b) (square_of b); offset = offset; shift = shift_of (kind_of b) (square_of b) }

abbrev pub no_record : Record
no_record = record { multiplier = 0; mask = 0; offset = 0; shift = 0 }

-- the record of block b among 128
abbrev pub record_in : List Record → ℕ → Record
record_in records b = get_or records b no_record

-- the record of a block that is placed
abbrev pub record_of : Pack.State → ℕ → Record
record_of s b = record_at b (s.taken b).multiplier (s.offset b)

-- all that a build hands back, and what it leaves of its loans
pub record Left : Type 0 where
  pub says : Said Unit
  pub records : List Record
  pub counts : List ℕ
  pub used : ℕ
  pub table : List ℕ
  pub marks : List ℕ

-- a refusal's number and values beside zeros: "records, counts all 0, used 0"
abbrev pub empty : ℕ → List ℕ → List ℕ → List ℕ → Left
empty number values table marks =
    record {
      says = refuses number values;
      records = replicate 128 no_record;
      counts = replicate 128 0;
      used = 0;
      table = table;
      marks = marks;
    }

-- what was built; a refusal stands beside zeros
abbrev pub leaves : Result Build Refusal → List ℕ → List ℕ → Left
leaves (Ok b) table marks =
    record { says = gives tt; records = b.records; counts = b.counts; used = b.used; table = table; marks = marks }
leaves (Err r) table marks = empty (number_of r) (values_of r) table marks

-- a build in `len` slots of table and marks. 4, 5 and 6: "block; table, marks, records, counts all 0, used 0"
abbrev pub ended : ℕ → Pack.Outcome → Left
ended len (Pack.done s) =
    record {
      says = gives tt;
      records = shown 128 (record_of s);
      counts = shown 128 (λ b. (s.taken b).count);
      used = s.end;
      table = shown len s.table;
      marks = shown len s.marks;
    }
ended len (Pack.refused number b) = empty number (b ∷ []) (replicate len 0) (replicate len 0)

-- an argument is refused: "number; nothing changed"; "whatever a build hands back by value is zero"
abbrev pub kept_if : Bool → ℕ → List ℕ → List ℕ → Left → Left
kept_if true number table marks x = empty number [] table marks
kept_if false number table marks x = x

-- 3: "table and marks differ in length"
abbrev pub of_one_length : List ℕ → List ℕ → Left → Left
of_one_length table marks x = kept_if (not (eqb (length table) (length marks))) 3 table marks x

-- 10, "budget above 16,777,216", then 3
unfoldable pub from_seed : ℕ → ℕ → List ℕ → List ℕ → Left
from_seed seed budget table marks =
    kept_if (ltb 16777216 budget) 10 table marks
    (of_one_length table marks (ended (length table) (seed_build real (candidate seed) budget (length table))))

-- 9, "multiplier list not 128 long", then 3
unfoldable pub from_lent : List ℕ → List ℕ → List ℕ → Left
from_lent multipliers table marks =
    kept_if (not (eqb (length multipliers) 128)) 9 table marks
    (of_one_length table marks (ended (length table) (lent_build real (slots multipliers) (length table))))
