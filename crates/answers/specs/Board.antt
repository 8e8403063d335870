-- Answers of `tables`, `rays`, `magic_helpers`, `bmis`, `candidates` and `magic`.
use Rattle.std.specs.Prelude.{ℕ, ◌-◌, ◌^◌, List, [], ◌∷◌, ◌++◌, length, get_or, replicate, Option, Some, None}
use Rattle.refusal.specs.Paper.{Said, gives, refuses}
use Rattle.bits.specs.Set.{digit}
use Rattle.tables.specs.Rays as Listed
use Rattle.tables.specs.Starts.{starts}
use Rattle.board.specs.Board.{rays, mask, attack, on_block}
use Rattle.board.specs.Blocks.{block_of, kind_of, square_of, bits_of, size_of, shift_of, subset}
use Rattle.bmis.specs.Bmis as Bmis
use Rattle.bmis.specs.declared.Extent.{Extent}
use Rattle.bmis.specs.Bmis.{offset_of, of_length, in_table, filled, given, part_of, extent_of}
use Rattle.packing.specs.declared.Taken.{Taken}
use Rattle.packing.specs.Pack.{by_search}
use Rattle.splitmix.specs.SplitMix.{candidate}
use Rattle.blocks.specs.Real.{skips, real}
use Rattle.candidates.specs.OneBlock.{search_of}
use Rattle.gen_magic.specs.declared.Record.{Record}
use Rattle.gen_magic.specs.Builds.{record_at, no_record}
use Rattle.magic.specs.LookUp.{look_with, look_up}
use Rattle.magic.specs.Audit.{audit_says}
use Rattle.slider.specs.Flat.{verdict_of, found_of, place_of}
use Rattle.answers.specs.Tried.{Tried, ◌is◌not◌, one, said}

-- number, offset, size
abbrev pub place : Said Extent → List ℕ
place x = (place_of x).number ∷ (place_of x).offset ∷ (place_of x).size ∷ []

abbrev pub choice : Option Taken → List ℕ
choice None = []
choice (Some x) = x.multiplier ∷ x.count ∷ []

-- number, block, multiplier, count
abbrev pub search : Said Taken → List ℕ
search x = (found_of x).number ∷ (found_of x).block ∷ (found_of x).multiplier ∷ (found_of x).count ∷ []

-- number, block, subset, reach
abbrev pub verdict : Said ℕ → List ℕ
verdict x = (verdict_of x).number ∷ (verdict_of x).block ∷ (verdict_of x).subset ∷ (verdict_of x).reach ∷ []

-- a record of rook or bishop A1 that reads slot 0
abbrev pub first : ℕ → Record
first shift = record { multiplier = 1; mask = 0; offset = 0; shift = shift }

-- a record whose slot for blockers 0x82 is 1 + (2^51 * 2 >> 52), the third
abbrev pub third : Record
third = record { multiplier = 2 ^ 51; mask = 2; offset = 1; shift = 52 }

-- bishop A1's record with multiplier 0, and no other
abbrev pub records : List Record
records = record_at 0 0 0 ∷ replicate 127 no_record

abbrev pub table : List Tried
table =
    -- rays_listed: block 128 is block 0, rooks first
    (one (get_or Listed.rays 128 0) is one 0 not one (get_or Listed.rays 0 0))
    ∷ (one (get_or Listed.rays 0 0) is one 0x8040201008040200 not one 0x01010101010101FE)
    -- start_listed: bishops first, all entries at the end
    ∷ (one (get_or starts 1 0) is one 4096 not one 64)
    ∷ (one (get_or starts 128 0) is one 0 not one 107648)
    -- block: rooks first, kind 2 is a bishop
    ∷ (said (on_block 0 0 (gives (block_of 0 0))) is (0 ∷ 64 ∷ []) not (0 ∷ 0 ∷ []))
    ∷ (said (on_block 2 0 (gives (block_of 2 0))) is (1 ∷ 0 ∷ []) not (0 ∷ 0 ∷ []))
    -- rays_at: the square itself, nothing past block 127
    ∷ (one (rays (kind_of 64) (square_of 64)) is one 0x01010101010101FE not one 0x01010101010101FF)
    ∷ (one (rays (kind_of 128) (square_of 128)) is one 0x8040201008040200 not one 0)
    -- get_rays, slider_rays: the other piece, 2 before 1
    ∷ (said (on_block 0 0 (gives (rays 0 0))) is (0 ∷ 0x01010101010101FE ∷ []) not (0 ∷ 0x8040201008040200 ∷ []))
    ∷ (said (on_block 2 64 (gives (rays 2 64))) is (1 ∷ 0 ∷ []) not (2 ∷ 0 ∷ []))
    -- mask_at: the whole edge off, the rays
    ∷ (one (mask (kind_of 64) (square_of 64)) is one 0x000101010101017E not one 0)
    ∷ (one (mask (kind_of 64) (square_of 64)) is one 0x000101010101017E not one 0x01010101010101FE)
    -- magic_mask, slider_mask: the rays, no refusal
    ∷ (said (on_block 1 0 (gives (mask 1 0))) is (0 ∷ 0x0040201008040200 ∷ []) not (0 ∷ 0x8040201008040200 ∷ []))
    ∷ (said (on_block 1 64 (gives (mask 1 64))) is (2 ∷ 0 ∷ []) not (0 ∷ 0 ∷ []))
    -- bits_at: of the rays, of the other piece
    ∷ (one (bits_of (kind_of 64) (square_of 64)) is one 12 not one 14)
    ∷ (one (bits_of (kind_of 64) (square_of 64)) is one 12 not one 6)
    -- size_at: the bits, of the rays
    ∷ (one (size_of (kind_of 64) (square_of 64)) is one 4096 not one 12)
    ∷ (one (size_of (kind_of 64) (square_of 64)) is one 4096 not one 16384)
    -- size, slider_size
    ∷ (said (on_block 0 0 (gives (size_of 0 0))) is (0 ∷ 4096 ∷ []) not (0 ∷ 64 ∷ []))
    ∷ (said (on_block 0 64 (gives (size_of 0 64))) is (2 ∷ 0 ∷ []) not (0 ∷ 4096 ∷ []))
    -- shift_at: the bits, of 63
    ∷ (one (shift_of (kind_of 64) (square_of 64)) is one 52 not one 12)
    ∷ (one (shift_of (kind_of 64) (square_of 64)) is one 52 not one 51)
    -- rightshift, slider_shift
    ∷ (said (on_block 0 0 (gives (shift_of 0 0))) is (0 ∷ 52 ∷ []) not (0 ∷ 58 ∷ []))
    ∷ (said (on_block 2 0 (gives (shift_of 2 0))) is (1 ∷ 0 ∷ []) not (0 ∷ 58 ∷ []))
    -- subset_at: the number itself, the largest square first
    ∷ (one (subset (kind_of 64) (square_of 64) 1) is one 2 not one 1)
    ∷ (one (subset (kind_of 64) (square_of 64) 1) is one 2 not one 0x0001000000000000)
    -- subset, slider_subset: bits past the mask's count, the number itself
    ∷ (said (on_block 0 0 (gives (subset 0 0 4096))) is (0 ∷ 0 ∷ []) not (0 ∷ 0x0100000000000000 ∷ []))
    ∷ (said (on_block 0 0 (gives (subset 0 0 3))) is (0 ∷ 6 ∷ []) not (0 ∷ 3 ∷ []))
    -- walk_at: through the blockers, without the first blocker
    ∷ (one (attack (kind_of 64) (square_of 64) (2 ^ 64 - 1)) is one 0x102 not one 0x01010101010101FE)
    ∷ (one (attack (kind_of 64) (square_of 64) (2 ^ 64 - 1)) is one 0x102 not one 0)
    -- walk, slider_walk: stopped by its own square, the other piece
    ∷ (said (on_block 0 0 (gives (attack 0 0 1))) is (0 ∷ 0x01010101010101FE ∷ []) not (0 ∷ 0 ∷ []))
    ∷ (said (on_block 1 7 (gives (attack 1 7 0))) is (0 ∷ 0x0102040810204000 ∷ []) not (0 ∷ 0x808080808080807F ∷ []))
    -- offset_at: bishops first, by squares
    ∷ (one (offset_of (kind_of 0) (square_of 0)) is one 4096 not one 0)
    ∷ (one (offset_of (kind_of 65) (square_of 65)) is one 4160 not one 4096)
    -- gen_all_bmis, slider_pext_fill: a loan of none is filled, a loan of one is cleared
    ∷ (said (of_length 0 (gives 107648)) is (9 ∷ 0 ∷ []) not (0 ∷ 107648 ∷ []))
    ∷ (filled (7 ∷ []) is one 7 not one 0)
    -- get_moves_bmi, get_rook_moves_bmi, slider_pext_moves: a table of none is read, 9 before 1
    ∷ (said (in_table 0 0 0 (gives (Bmis.look_up 0 0 0 []))) is (9 ∷ 0 ∷ []) not (0 ∷ 0 ∷ []))
    ∷ (said (in_table 2 0 0 (gives (Bmis.look_up 2 0 0 []))) is (1 ∷ 0 ∷ []) not (9 ∷ 0 ∷ []))
    -- get_bishop_moves_bmi: 9 before 2, a table of one entry is read
    ∷ (said (in_table 1 64 1 (gives (Bmis.look_up 1 64 0 (7 ∷ [])))) is (2 ∷ 0 ∷ []) not (9 ∷ 0 ∷ []))
    ∷ (said (in_table 1 0 1 (gives (Bmis.look_up 1 0 0 (7 ∷ [])))) is (9 ∷ 0 ∷ []) not (0 ∷ 0 ∷ []))
    -- the look-up's formula, for any entries: the entry as it is, the rook's block for a bishop
    ∷ (one (Bmis.look_up 0 0 0 (2 ∷ [])) is one 4 not one 2)
    ∷ (one (Bmis.look_up 1 0 0 (2 ∷ [])) is one 0 not one 0x40000)
    -- a part: from the table's beginning, and no longer than its block
    ∷ (part_of 1 0 (replicate 4096 0 ++ (7 ∷ [])) is one 7 not replicate 64 0)
    ∷ (one (length (part_of 0 0 (replicate 4097 0))) is one 4096 not one 4097)
    -- bmi_part: a part for kind 2, a part of a table of one entry
    ∷ (given (in_table 2 0 1 (gives (part_of 2 0 (7 ∷ [])))) is [] not one 7)
    ∷ (given (in_table 0 0 1 (gives (part_of 0 0 (7 ∷ [])))) is [] not one 7)
    -- bmi_place, slider_pext_place: another size, a place in a table of another length
    ∷ (place (in_table 1 0 107648 (gives (extent_of 1 0))) is (0 ∷ 4096 ∷ 64 ∷ []) not (0 ∷ 4096 ∷ 4096 ∷ []))
    ∷ (place (in_table 0 0 107648 (gives (extent_of 0 0))) is (0 ∷ 0 ∷ 4096 ∷ []) not (0 ∷ 0 ∷ 64 ∷ []))
    ∷ (place (in_table 0 0 0 (gives (extent_of 0 0))) is (9 ∷ 0 ∷ 0 ∷ []) not (0 ∷ 0 ∷ 4096 ∷ []))
    -- the skip rule: five ones pass, six do not
    ∷ (one (digit (skips 1 1 1)) is one 1 not one 0)
    ∷ (one (digit (skips 1 0 1)) is one 0 not one 1)
    ∷ (one (digit (skips 0 0 1)) is one 0 not one 1)
    -- search_at: the first candidate with no budget, a zero with no budget
    ∷ (choice (by_search real (candidate 0) 0 0) is [] not (candidate 0 0 ∷ 1 ∷ []))
    ∷ (choice (by_search real (candidate 0) 0 0) is [] not (0 ∷ 0 ∷ []))
    -- search, slider_search: block 0 for rook A1's, 5 for 10
    ∷ (search (on_block 0 0 (search_of (block_of 0 0) 0 0)) is (5 ∷ 64 ∷ 0 ∷ 0 ∷ []) not (5 ∷ 0 ∷ 0 ∷ 0 ∷ []))
    ∷ (search (on_block 0 0 (search_of (block_of 0 0) 0 16777217)) is (10 ∷ 0 ∷ 0 ∷ 0 ∷ []) not (5 ∷ 64 ∷ 0 ∷ 0 ∷ []))
    ∷ (search (gives (record { multiplier = 7; count = 3 })) is (0 ∷ 0 ∷ 7 ∷ 3 ∷ []) not (0 ∷ 0 ∷ 3 ∷ 7 ∷ []))
    -- look_with: the slot without the rays, the attack set whatever the slot holds
    ∷ (said (look_with 0x102 0 (first 52) (0x1FF ∷ [])) is (0 ∷ 0x102 ∷ []) not (0 ∷ 0x1FF ∷ []))
    ∷ (said (look_with 0x01010101010101FE 0 (first 52) (0x102 ∷ [])) is (0 ∷ 0x102 ∷ []) not (0 ∷ 0x01010101010101FE ∷ []))
    -- the slot: offset left out, all blockers in the product, the product not shifted
    ∷ (said (on_block 0 0 (look_up 0 0 0x82 third (2 ∷ 4 ∷ 8 ∷ []))) is (0 ∷ 8 ∷ []) not (0 ∷ 4 ∷ []))
    ∷ (said (on_block 0 0 (look_up 0 0 0x82 third (2 ∷ 4 ∷ 8 ∷ []))) is (0 ∷ 8 ∷ []) not (7 ∷ 0 ∷ []))
    -- get_moves, get_rook_moves, slider_moves: the slot without the rays, 7 before 8, a slot past the end is empty
    ∷ (said (on_block 0 0 (look_up 0 0 0 (first 52) ((2 ^ 64 - 1) ∷ []))) is (0 ∷ 0x01010101010101FE ∷ []) not (0 ∷ 0xFFFFFFFFFFFFFFFF ∷ []))
    ∷ (said (on_block 0 0 (look_up 0 0 0 (first 51) [])) is (8 ∷ 0 ∷ []) not (7 ∷ 0 ∷ []))
    ∷ (said (on_block 0 0 (look_up 0 0 0 (first 52) [])) is (7 ∷ 0 ∷ []) not (0 ∷ 0 ∷ []))
    -- get_bishop_moves: the rook's rays, a shift of 60
    ∷ (said (on_block 1 0 (look_up 1 0 0 (first 59) ((2 ^ 64 - 1) ∷ []))) is (0 ∷ 0x8040201008040200 ∷ []) not (0 ∷ 0x01010101010101FE ∷ []))
    ∷ (said (on_block 1 0 (look_up 1 0 0 (first 60) ((2 ^ 64 - 1) ∷ []))) is (8 ∷ 0 ∷ []) not (0 ∷ 0x8040201008040200 ∷ []))
    -- audit, slider_audit: zeros are accepted, 7 before 8; block and subset swapped, a refused look-up is no 11; the reach is lost
    ∷ (verdict (audit_says (replicate 128 no_record) []) is (8 ∷ 0 ∷ 0 ∷ 0 ∷ []) not (0 ∷ 0 ∷ 0 ∷ 4096 ∷ []))
    ∷ (verdict (audit_says (replicate 128 no_record) []) is (8 ∷ 0 ∷ 0 ∷ 0 ∷ []) not (7 ∷ 0 ∷ 0 ∷ 0 ∷ []))
    ∷ (verdict (audit_says records (0x8040201008040200 ∷ [])) is (11 ∷ 0 ∷ 1 ∷ 0 ∷ []) not (11 ∷ 1 ∷ 0 ∷ 0 ∷ []))
    ∷ (verdict (audit_says records []) is (7 ∷ 0 ∷ 0 ∷ 0 ∷ []) not (11 ∷ 0 ∷ 0 ∷ 0 ∷ []))
    ∷ (verdict (gives 5) is (0 ∷ 0 ∷ 0 ∷ 5 ∷ []) not (0 ∷ 0 ∷ 0 ∷ 0 ∷ []))
    ∷ (verdict (refuses 11 (3 ∷ 9 ∷ [])) is (11 ∷ 3 ∷ 9 ∷ 0 ∷ []) not (11 ∷ 9 ∷ 3 ∷ 0 ∷ []))
    ∷ []
