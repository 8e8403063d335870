-- `magic_helpers::ray` meets its contract: what is gathered, and the walk from where the loop stands, make the whole.
use Rattle.std.proofs.Common.{◌≡◌, ◌<◌, bit_or}
use Rattle.board.specs.Walk.{line, up_to}
use Rattle.magic_helpers.proofs.Along.{to_go}
use Rattle.magic_helpers.proofs.ray.Given as goal

abbrev pub invariant-loop-n : goal.invariant-loop-n
invariant-loop-n g l =
    record {
      on_board : l.at < 64;
      whole : bit_or l.set (to_go l.blockers l.n (g.way).0 (g.way).1 l.at) ≡ up_to l.blockers (line (g.way).0 (g.way).1 l.sq);
    }
