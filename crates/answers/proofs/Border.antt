-- Each statement gives the right answer and not the wrong one: computed from the definitions.
-- Assumes nothing.
use Rattle.bits.specs.Shown.{shown}
use Rattle.board.specs.Board.{rays, attack}
use Rattle.board.specs.Blocks.{block_of, kind_of, square_of}
use Rattle.magic.specs.LookUp.{slot_in, look_with}
use Rattle.hex_digits.specs.Hex.{figure_of, digits, digit_of, read_after, read_word}
use Rattle.lines.specs.Line.{query_after, query_of, walk_of, answer_to, answer_line}
use Rattle.lines.specs.Calls.{fitting, answered, next_of, says_of, after, written, taken, fed_of, ending}
use Rattle.answers.specs.Tried.{Each}
use Rattle.answers.specs.Border.{table}
use Rattle.bits.proofs.SameList.{same_list}
use Rattle.answers.proofs.Tests.{tested, each}

pub holds : Each table
unfolding same_list tested shown rays attack block_of kind_of square_of slot_in look_with figure_of digits digit_of read_after read_word query_after query_of walk_of answer_to answer_line fitting answered next_of says_of after written taken fed_of ending
holds = each table tt
