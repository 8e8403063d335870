-- Each statement gives the right answer and not the wrong one: computed from the definitions.
-- Assumes nothing.
use lib.Count.{ones}
use Rattle.bits.specs.Intel.{pext, pdep}
use Rattle.bits.specs.Set.{set_of, has, least}
use Rattle.bitboard.specs.Bitboard.{in_both, in_either, in_one, in_none, without}
use Rattle.board.specs.Blocks.{kind_of, square_of}
use Rattle.splitmix.specs.SplitMix.{advanced, mixed, after, output, candidate_of, state_at, candidate}
use Rattle.hex_digits.specs.Hex.{digit_of, read_after, read_word, figure_of, digits, write_word}
use Rattle.answers.specs.Tried.{Each}
use Rattle.answers.specs.Ground.{table}
use Rattle.bits.proofs.SameList.{same_list}
use Rattle.answers.proofs.Tests.{tested, each}

pub holds : Each table
unfolding same_list tested ones pext pdep set_of has least in_both in_either in_one in_none without kind_of square_of advanced mixed after output candidate_of state_at candidate digit_of read_after read_word figure_of digits write_word
holds = each table tt
