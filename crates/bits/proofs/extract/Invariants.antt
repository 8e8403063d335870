-- `bits::extract` meets its contract: before turn m, k is how many mask squares are below m, and dest is what they take.
use Rattle.std.proofs.Common.{◌≡◌}
use Rattle.bits.specs.Set.{count_below}
use Rattle.bits.proofs.Forms.{packed}
use Rattle.bits.proofs.extract.Given as goal

abbrev pub invariant-loop-m : goal.invariant-loop-m
invariant-loop-m l = (l.k ≡ count_below l.mask l.m) × (l.dest ≡ packed l.m l.x l.mask)
