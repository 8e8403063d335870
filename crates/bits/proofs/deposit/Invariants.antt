-- `bits::deposit` meets its contract: before turn m, k is how many mask squares are below m, and dest is what they hold.
use Rattle.std.proofs.Common.{◌≡◌}
use Rattle.bits.specs.Set.{count_below}
use Rattle.bits.proofs.Forms.{spread}
use Rattle.bits.proofs.deposit.Given as goal

abbrev pub invariant-loop-m : goal.invariant-loop-m
invariant-loop-m l = (l.k ≡ count_below l.mask l.m) × (l.dest ≡ spread l.m l.x l.mask)
