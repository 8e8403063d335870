-- `hex_digits::write` meets its contract: with k digits left to write, those of the rest stand before the ones that were written.
use mathlib.Core.Path.{◌≡◌}
use mathlib.Core.List.{◌++◌}
use lib.ListN.{drop}
use Rattle.hex_digits.specs.Hex.{digits}
use Rattle.hex_digits.proofs.write.Given as goal

abbrev pub invariant-loop-k : goal.invariant-loop-k
invariant-loop-k l =
    digits l.k l.rest ++ drop l.k l.out ≡ digits 16 l.n ++ drop 16 l.initial.out
