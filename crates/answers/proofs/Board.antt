-- Each statement gives the right answer and not the wrong one: computed from the definitions.
-- Assumes nothing.
use Rattle.bits.specs.Intel.{pext, pdep}
use Rattle.bits.specs.Set.{count, least}
use Rattle.bits.specs.Shown.{sum}
use Rattle.board.specs.Board.{rays, mask, attack}
use Rattle.board.specs.Blocks.{block_of, kind_of, square_of, bits_of, size_of, shift_of, subset}
use Rattle.bmis.specs.Bmis as Bmis
use Rattle.bmis.specs.Bmis.{size_at, offset_of, part_of}
use Rattle.packing.specs.Pack.{first_passing, taken_at, by_search}
use Rattle.splitmix.specs.SplitMix.{advanced, mixed, after, output, candidate_of, state_at, candidate}
use Rattle.blocks.specs.Real.{skips}
use Rattle.candidates.specs.OneBlock.{search_of}
use Rattle.magic.specs.LookUp.{slot_in, look_with}
use Rattle.magic.specs.Audit.{in_turn, exact, subset_says, block_says, blocks_say, audit_says}
use Rattle.answers.specs.Tried.{Each}
use Rattle.answers.specs.Board.{table}
use Rattle.bits.proofs.SameList.{same_list}
use Rattle.answers.proofs.Tests.{tested, each}

pub holds : Each table
unfolding same_list tested pext pdep least sum rays mask attack block_of kind_of square_of bits_of size_of shift_of subset size_at offset_of part_of Bmis.look_up first_passing taken_at by_search advanced mixed after output candidate_of state_at candidate search_of slot_in look_with in_turn exact subset_says block_says blocks_say audit_says skips count
holds = each table tt
