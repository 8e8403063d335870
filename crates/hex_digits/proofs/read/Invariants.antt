-- `hex_digits::read` meets its contract: before each byte, the number is what the digits so far spell, and so below that power of 16.
use Prim.Native.Nat.{◌^◌, ◌<◌}
use mathlib.Core.Path.{◌≡◌}
use lib.ListN.{drop}
use Rattle.hex_digits.specs.Hex.{read_after}
use Rattle.hex_digits.proofs.read.Given as goal

abbrev pub invariant-loop-byte : goal.invariant-loop-byte
invariant-loop-byte l = record {
  low : l.number < 16 ^ l.byte-index;
  same : read_after 0 l.bytes ≡ read_after l.number (drop l.byte-index l.bytes);
}
