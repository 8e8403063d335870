-- `bmis::generate_bmis` meets its contract: before turn i, the part begins with the first i entries.
use Rattle.std.proofs.Common.{◌≡◌, take}
use Rattle.bits.specs.Shown.{shown}
use Rattle.board.specs.Blocks.{kind_of, square_of}
use Rattle.bmis.specs.Bmis.{entry}
use Rattle.bmis.proofs.generate_bmis.Given as goal

abbrev pub invariant-loop-i : goal.invariant-loop-i
invariant-loop-i l = take l.i l.part ≡ shown l.i (entry (kind_of l.block) (square_of l.block))
