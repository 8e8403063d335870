-- Before each byte of `lines::feed`, the state, the length and the buffer are what the bytes so far make them.
use lib.ListN.{take}
use Rattle.lines.proofs.Chunk.{Feeding}
use Rattle.lines.proofs.feed.Given as goal

abbrev pub invariant-loop-byte : goal.invariant-loop-byte
invariant-loop-byte l = Feeding l.initial.state (take l.n l.chunk) l.initial.out l.byte-index l.state l.at l.out
