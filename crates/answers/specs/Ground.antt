-- Answers of `refusal`, `bits`, `bitboard`, `square`, the kinds of `rays`, `splitmix` and `hex_digits`.
use Rattle.std.specs.Prelude.{ℕ, ◌*◌, ◌/◌, ◌%◌, ◌^◌, List, [], ◌∷◌, ◌++◌, replicate, option_to_list, Option, Some, None, Ok, Err}
use Rattle.std.specs.Int.Count.{ones}
use Rattle.refusal.specs.declared.Refusal.TheVariants.{Kind, Spent, IndexAt}
use Rattle.refusal.specs.Paper.{Said, number_of}
use Rattle.bits.specs.Intel.{pext, pdep}
use Rattle.square.specs.Square.{make_square, rank_said, file_said, up_said, down_said, left_said, right_said, read_name, name_said}
use Rattle.bitboard.specs.Bitboard.{in_both, in_either, in_one, in_none, square_set, rank_file_set, least_square, next_of}
use Rattle.board.specs.Blocks.{kind_of, square_of}
use Rattle.rays.specs.declared.Kind.TheVariants.{Rook, Bishop}
use Rattle.rays.specs.Kind.{read}
use Rattle.splitmix.specs.declared.Generator.{Generator}
use Rattle.splitmix.specs.SplitMix.{candidate_of, moved, drawn, candidate}
use Rattle.hex_digits.specs.Hex.{read_word, write_word}
use Rattle.slider.specs.Flat.{step_of, name_of}
use Rattle.answers.specs.Tried.{Tried, ◌is◌not◌, one, said}

-- number, whether the step goes off the board, square
abbrev pub step : Said (Option ℕ) → List ℕ
step x = (step_of x).number ∷ (step_of x).off ∷ (step_of x).square ∷ []

-- number, letter, digit
abbrev pub name : Said (List ℕ) → List ℕ
name x = (name_of x).number ∷ (name_of x).letter ∷ (name_of x).digit ∷ []

abbrev pub found : Option (ℕ × ℕ) → List ℕ
found (Some x) = x.0 ∷ x.1 ∷ []
found None = []

abbrev pub zero_state : Generator
zero_state = record { state = 0 }

abbrev pub table : List Tried
table =
    -- number: a spent budget is told as no room, an index in the audit as a bad record
    (one (number_of (Spent 0)) is one 5 not one 4)
    ∷ (one (number_of (IndexAt 0 0)) is one 7 not one 8)
    -- wrapping_mul, mul: the largest number where the product is too large, the factor
    ∷ (one (2 ^ 63 * 2 % 2 ^ 64) is one 0 not one 0xFFFFFFFFFFFFFFFF)
    ∷ (one (3 * 5 % 2 ^ 64) is one 15 not one 5)
    -- shift_right, to_size: a shift by 64 is none, a shift by 63 leaves nothing
    ∷ (one (2 ^ 63 / 2 ^ 64) is one 0 not one 0x8000000000000000)
    ∷ (one (2 ^ 63 / 2 ^ 63) is one 1 not one 0)
    -- extract: left in place, in reverse
    ∷ (one (pext 0x50 0xF0) is one 0x05 not one 0x50)
    ∷ (one (pext 0x50 0xF0) is one 0x05 not one 0x0A)
    -- deposit: left in place, in reverse
    ∷ (one (pdep 0x05 0xF0) is one 0x50 not one 0x05)
    ∷ (one (pdep 0x05 0xF0) is one 0x50 not one 0xA0)
    -- bitand: OR, XOR
    ∷ (one (in_both 3 6) is one 2 not one 7)
    ∷ (one (in_both 3 6) is one 2 not one 5)
    -- bitor: AND, XOR
    ∷ (one (in_either 3 6) is one 7 not one 2)
    ∷ (one (in_either 3 6) is one 7 not one 5)
    -- bitxor: AND, OR
    ∷ (one (in_one 3 6) is one 5 not one 2)
    ∷ (one (in_one 3 6) is one 5 not one 7)
    -- not: the set itself, and the negative number's low bits
    ∷ (one (in_none 0) is one 0xFFFFFFFFFFFFFFFF not one 0)
    ∷ (one (in_none 1) is one 0xFFFFFFFFFFFFFFFE not one 0xFFFFFFFFFFFFFFFF)
    -- popcnt: the length in digits, whether there is one
    ∷ (one (ones 5) is one 2 not one 3)
    ∷ (one (ones 5) is one 2 not one 1)
    -- from_square: 64 wraps to A1, the square for its set
    ∷ (said (square_set 64) is (2 ∷ 0 ∷ []) not (0 ∷ 1 ∷ []))
    ∷ (said (square_set 3) is (0 ∷ 8 ∷ []) not (0 ∷ 3 ∷ []))
    -- set: rank and file swapped, file 8 is on the next rank
    ∷ (said (rank_file_set 1 0) is (0 ∷ 256 ∷ []) not (0 ∷ 2 ∷ []))
    ∷ (said (rank_file_set 0 8) is (2 ∷ 0 ∷ []) not (0 ∷ 256 ∷ []))
    -- to_square: 64 for the empty set as in the original, the greatest square, the second
    ∷ (said (least_square 0) is (2 ∷ 0 ∷ []) not (0 ∷ 64 ∷ []))
    ∷ (said (least_square 6) is (0 ∷ 1 ∷ []) not (0 ∷ 2 ∷ []))
    ∷ (said (least_square 12) is (0 ∷ 2 ∷ []) not (0 ∷ 3 ∷ []))
    -- next: the square left in, the greatest first
    ∷ (found (next_of 6) is (1 ∷ 4 ∷ []) not (1 ∷ 6 ∷ []))
    ∷ (found (next_of 6) is (1 ∷ 4 ∷ []) not (2 ∷ 2 ∷ []))
    -- make_square: rank and file swapped, file 8 is on the next rank
    ∷ (said (make_square 1 0) is (0 ∷ 8 ∷ []) not (0 ∷ 1 ∷ []))
    ∷ (said (make_square 0 8) is (2 ∷ 0 ∷ []) not (0 ∷ 8 ∷ []))
    -- get_rank: the file, no square but those of the first rank, rank 8 of square 64
    ∷ (said (rank_said 8) is (0 ∷ 1 ∷ []) not (0 ∷ 0 ∷ []))
    ∷ (said (rank_said 62) is (0 ∷ 7 ∷ []) not (2 ∷ 0 ∷ []))
    ∷ (said (rank_said 64) is (2 ∷ 0 ∷ []) not (0 ∷ 8 ∷ []))
    -- get_file: the rank, file A of square 64
    ∷ (said (file_said 8) is (0 ∷ 0 ∷ []) not (0 ∷ 1 ∷ []))
    ∷ (said (file_said 64) is (2 ∷ 0 ∷ []) not (0 ∷ 0 ∷ []))
    -- up, slider_up: along the rank, past the last rank
    ∷ (step (up_said 0) is (0 ∷ 0 ∷ 8 ∷ []) not (0 ∷ 0 ∷ 1 ∷ []))
    ∷ (step (up_said 63) is (0 ∷ 1 ∷ 0 ∷ []) not (0 ∷ 0 ∷ 71 ∷ []))
    -- down, slider_down: up, wrapped to the last rank
    ∷ (step (down_said 8) is (0 ∷ 0 ∷ 0 ∷ []) not (0 ∷ 0 ∷ 16 ∷ []))
    ∷ (step (down_said 0) is (0 ∷ 1 ∷ 0 ∷ []) not (0 ∷ 0 ∷ 56 ∷ []))
    -- left, slider_left: right, wrapped to the rank below, square 64 is on the board
    ∷ (step (left_said 1) is (0 ∷ 0 ∷ 0 ∷ []) not (0 ∷ 0 ∷ 2 ∷ []))
    ∷ (step (left_said 8) is (0 ∷ 1 ∷ 0 ∷ []) not (0 ∷ 0 ∷ 7 ∷ []))
    ∷ (step (left_said 64) is (2 ∷ 0 ∷ 0 ∷ []) not (0 ∷ 1 ∷ 0 ∷ []))
    -- right, slider_right: wrapped to the next rank, off the board for 2, up
    ∷ (step (right_said 7) is (0 ∷ 1 ∷ 0 ∷ []) not (0 ∷ 0 ∷ 8 ∷ []))
    ∷ (step (right_said 7) is (0 ∷ 1 ∷ 0 ∷ []) not (2 ∷ 0 ∷ 0 ∷ []))
    ∷ (step (right_said 0) is (0 ∷ 0 ∷ 1 ∷ []) not (0 ∷ 0 ∷ 8 ∷ []))
    -- from_str, slider_square: rank and file swapped, i1 is A2, a9 is above the board, a0 below it, A1 is a name, what follows is read
    ∷ (said (read_name (98 ∷ 49 ∷ [])) is (0 ∷ 1 ∷ []) not (0 ∷ 8 ∷ []))
    ∷ (said (read_name (105 ∷ 49 ∷ [])) is (2 ∷ 0 ∷ []) not (0 ∷ 8 ∷ []))
    ∷ (said (read_name (97 ∷ 57 ∷ [])) is (2 ∷ 0 ∷ []) not (0 ∷ 64 ∷ []))
    ∷ (said (read_name (97 ∷ 48 ∷ [])) is (2 ∷ 0 ∷ []) not (0 ∷ 56 ∷ []))
    ∷ (said (read_name (65 ∷ 49 ∷ [])) is (2 ∷ 0 ∷ []) not (0 ∷ 0 ∷ []))
    ∷ (said (read_name (104 ∷ 56 ∷ 33 ∷ [])) is (0 ∷ 63 ∷ []) not (2 ∷ 0 ∷ []))
    -- to_name, slider_name: the digit first, rank and file swapped, a9 as in the original
    ∷ (name (name_said 1) is (0 ∷ 98 ∷ 49 ∷ []) not (0 ∷ 49 ∷ 98 ∷ []))
    ∷ (name (name_said 1) is (0 ∷ 98 ∷ 49 ∷ []) not (0 ∷ 97 ∷ 50 ∷ []))
    ∷ (name (name_said 64) is (2 ∷ 0 ∷ 0 ∷ []) not (0 ∷ 97 ∷ 57 ∷ []))
    -- TryFrom of a kind: the kinds swapped, a kind above 1 as a square above 63
    ∷ (said (read (Ok Rook)) is (0 ∷ 0 ∷ []) not (0 ∷ 1 ∷ []))
    ∷ (said (read (Ok Bishop)) is (0 ∷ 1 ∷ []) not (0 ∷ 0 ∷ []))
    ∷ (said (read (Err Kind)) is (1 ∷ 0 ∷ []) not (2 ∷ 0 ∷ []))
    -- kind_at: rooks first, nothing past block 127
    ∷ (one (kind_of 0) is one 1 not one 0)
    ∷ (one (kind_of 192) is one 0 not one 1)
    -- square_at: the block's number, the rank
    ∷ (one (square_of 73) is one 9 not one 73)
    ∷ (one (square_of 73) is one 9 not one 1)
    -- draw: the generator stays, one output for the AND of three
    ∷ (((drawn zero_state).candidate ∷ (drawn zero_state).next.state ∷ []) is (0x200080800094504 ∷ 0xdaa66d2c7ddf743f ∷ []) not (0x200080800094504 ∷ 0 ∷ []))
    ∷ (((drawn zero_state).candidate ∷ (drawn zero_state).next.state ∷ []) is (0x200080800094504 ∷ 0xdaa66d2c7ddf743f ∷ []) not (0xe220a8397b1dcdaf ∷ 0xdaa66d2c7ddf743f ∷ []))
    -- draw_in_place: the generator stays, the candidate of the moved generator
    ∷ ((candidate_of 0 ∷ (moved zero_state).state ∷ []) is (0x200080800094504 ∷ 0xdaa66d2c7ddf743f ∷ []) not (0x200080800094504 ∷ 0 ∷ []))
    ∷ ((candidate_of 0 ∷ (moved zero_state).state ∷ []) is (0x200080800094504 ∷ 0xdaa66d2c7ddf743f ∷ []) not (0x1009880850080088 ∷ 0xdaa66d2c7ddf743f ∷ []))
    -- the second candidate of a seed: it begins one output on, it begins again
    ∷ (one (candidate 0 1) is one 0x1009880850080088 not one 0x180800080144)
    ∷ (one (candidate 0 1) is one 0x1009880850080088 not one 0x200080800094504)
    -- read: upper case is not read, lower case is, 15 digits are, the last digit first
    ∷ (option_to_list (read_word (replicate 15 48 ++ (65 ∷ []))) is one 10 not [])
    ∷ (option_to_list (read_word (replicate 15 48 ++ (97 ∷ []))) is [] not one 10)
    ∷ (option_to_list (read_word (replicate 15 48)) is [] not one 0)
    ∷ (option_to_list (read_word (48 ∷ 49 ∷ 50 ∷ 51 ∷ 52 ∷ 53 ∷ 54 ∷ 55 ∷ 56 ∷ 57 ∷ 65 ∷ 66 ∷ 67 ∷ 68 ∷ 69 ∷ 70 ∷ [])) is one 0x0123456789ABCDEF not one 0xFEDCBA9876543210)
    -- write: the last digit first, lower case, digits in a buffer that is too short
    ∷ (write_word 0x0123456789ABCDEF (replicate 16 0) is (48 ∷ 49 ∷ 50 ∷ 51 ∷ 52 ∷ 53 ∷ 54 ∷ 55 ∷ 56 ∷ 57 ∷ 65 ∷ 66 ∷ 67 ∷ 68 ∷ 69 ∷ 70 ∷ []) not (70 ∷ 69 ∷ 68 ∷ 67 ∷ 66 ∷ 65 ∷ 57 ∷ 56 ∷ 55 ∷ 54 ∷ 53 ∷ 52 ∷ 51 ∷ 50 ∷ 49 ∷ 48 ∷ []))
    ∷ (write_word 10 (replicate 16 0) is (replicate 15 48 ++ (65 ∷ [])) not (replicate 15 48 ++ (97 ∷ [])))
    ∷ (write_word 0 (replicate 15 7) is replicate 15 7 not replicate 15 48)
    ∷ []
