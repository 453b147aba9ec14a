-- The loop's invariant: what is left is the test of the pairs of slots that are to come, for the bits and the total so far.
use Prim.Native.Nat.{◌+◌, ◌*◌, ◌^◌, ◌≤◌, ◌<◌}
use Rattle.record_prices.specs.Left.{Left}
use Rattle.record_prices.proofs.prices.prices_stand.Given as goal

abbrev pub invariant-loop-pair : goal.invariant-loop-pair
invariant-loop-pair l = record {
  bits_few : l.bits < 2 ^ 32;
  total_few : l.total + 2 ^ 65 * l.pair ≤ 2 ^ 69;
  left : Left l.bytes (2 * l.pair) l.bits l.total;
}
