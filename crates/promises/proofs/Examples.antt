-- The examples hold: computed from the definitions.
-- Assumes nothing.
use mathlib.Core.Path.{◌≡◌, refl, ◌∙◌}
use lib.Dec.{lit<}
use Rattle.bits.specs.Intel.{pext}
use Rattle.bits.specs.Shown.{sum}
use Rattle.board.specs.Board.{rays, mask, attack}
use Rattle.board.specs.Blocks.{size_of, subset}
use Rattle.bmis.specs.Bmis.{size_at, offset_of, entry}
use Rattle.bmis.proofs.Entries.{entry_is}
use Rattle.promises.specs.Examples.{All, table}
use Rattle.promises.proofs.BuildExamples.{in_63, in_64, in_0, on_top, taken_at_the_limit, refused_above}

-- entry 65 stands in the first block, rook A1's
first_size : size_of 0 0 ≡ 4096
unfolding size_of
first_size = refl

entry_65 : entry 0 0 65 ≡ 129
unfolding entry pext attack subset rays
entry_65 = refl

pub examples : All table
unfolding rays mask attack pext offset_of sum size_at size_of
examples = (refl, (refl, (refl, (refl, (refl, (refl, (refl, (refl, (refl, (entry_is 0 0 65 (lit< tt) (lit< tt) (lit< tt) ∙ entry_65, (refl, (refl, (refl, (refl, (refl, (refl, (in_63, (in_64, (in_0, (on_top, (taken_at_the_limit, (refused_above, tt))))))))))))))))))))))
