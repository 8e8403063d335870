-- `lines::feed` meets its contract: before each byte, the state, the length and the buffer are what the bytes so far make them.
use native.Mathlib.Omega.{arith}
use lib.ListN.{length-take}
use Rattle.lines.proofs.Chunk.{feeding_none, feeding_more, fed_all}
use Rattle.lines.proofs.feed.Goals as goal

pub loop-byte-init : goal.loop-byte-init
loop-byte-init c = feeding_none _ _ _ (omega (arith, length-take c.min-n.result c.args.chunk.now))

pub loop-byte-preserved : goal.loop-byte-preserved
loop-byte-preserved c =
    let s = c.take_byte-at in
    feeding_more _ _ _ _ _ _ _ c.loop-byte.invariant (omega arith)
    _ _ _ s.ensures.pending_value s.ensures.len_value s.ensures.out_after

pub returns : goal.returns
returns c = fed_all _ _ _ _ _ _ _ _ c.loop-byte.invariant.fed (omega arith) (omega arith)
