-- Each statement gives the right answer and not the wrong one: computed from the definitions.
-- Assumes nothing.
use Rattle.bits.specs.Set.{every, least, count}
use Rattle.bits.specs.Shown.{shown}
use Rattle.board.specs.Board.{rays, mask}
use Rattle.board.specs.Blocks.{kind_of, square_of, bits_of, size_of}
use Rattle.packing.specs.Pack.{free, first_free, place, hit, or_into, put, next, tried, step, run, seed_build, lent_build}
use Rattle.gen_magic.specs.Builds.{from_seed, from_lent}
use Rattle.answers.specs.Tried.{Each}
use Rattle.answers.specs.Packing.{table}
use Rattle.bits.proofs.SameList.{same_list}
use Rattle.answers.proofs.Tests.{tested, each}

pub holds : Each table
unfolding same_list tested every least count shown rays mask kind_of square_of bits_of size_of free first_free place hit or_into put next tried step run seed_build lent_build from_seed from_lent
holds = each table tt
