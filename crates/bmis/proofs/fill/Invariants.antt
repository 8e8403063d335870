-- `bmis::fill` meets its contract: before turn p, the table begins with the entries of the first p blocks.
use Rattle.std.proofs.Common.{◌≡◌, length, take}
use Rattle.bits.specs.Shown.{sum}
use Rattle.bmis.specs.Bmis.{size_at, entries_to}
use Rattle.bmis.proofs.fill.Given as goal

abbrev pub invariant-loop-p : goal.invariant-loop-p
invariant-loop-p l =
    record { at_is : l.at ≡ sum l.p size_at; long : length l.table ≡ 107648; first : take l.at l.table ≡ entries_to l.p }
