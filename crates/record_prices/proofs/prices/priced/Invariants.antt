-- The loop's invariant: the slots passed have no price.
use Prim.Native.Nat.{◌*◌}
use Rattle.record_prices.specs.Left.{Left}
use Rattle.record_prices.proofs.prices.priced.Given as goal

abbrev pub invariant-loop-pair : goal.invariant-loop-pair
invariant-loop-pair l = Left l.bytes (2 * l.pair) 0 0
