use Prim.Native.Nat.{◌+◌, ◌*◌, ◌-◌, ◌^◌, ◌<◌}
use native.Mathlib.Omega.{arith}
use lib.Bits.{bit_or}
use borrow.Author.Tests.{lt-ltb}
use Rattle.record_prices.specs.Left.{Left}
use Rattle.record_prices.proofs.Left.{left_small, pair_fits, pair_next, bit_is}
use Rattle.record_prices.proofs.prices.prices_stand.Goals as goal

pub loop-pair-preserved : goal.loop-pair-preserved
loop-pair-preserved c =
    let bs = c.args.bytes.now in
    let l = c.loop-pair in
    let lower = c.read-lower in
    let upper = c.read-upper in
    let bits = 4 * l.bits + (2 * c.from.result + c.from-in-loop-pair.result) in
    let total = l.total + c.from-both.result in
    let low : bit_or lower.result upper.result < 2 ^ 63 = omega arith in
    let next : Left bs (2 * (l.pair - 1)) bits total =
    pair_next bs l.pair (l.pair - 1) l.bits l.total lower.result upper.result l.invariant.left (omega arith) lower.ensures upper.ensures c.from.result c.from-in-loop-pair.result bits total
    (lt-ltb (bit_or lower.result upper.result) (2 ^ 63) low) (bit_is upper.result c.from.ensures) (bit_is lower.result c.from-in-loop-pair.ensures) (omega arith) (omega (arith, pair_fits lower.result upper.result low)) in
    record {
      bits_few = left_small bs (2 * (l.pair - 1)) bits total next;
      total_few = omega arith;
      left = next;
    }
