use Prim.Native.Nat.{◌^◌, ◌<◌}
use native.Mathlib.Omega.{arith}
use borrow.Author.Rules.{rules}
use lib.ListN.{get_or}
use Rattle.core_decide.proofs.Chains.{added_none, added_past, added_kept, added_carried, added_few, added_all, word_fits}
use Rattle.core_decide.proofs.decide.add_prices.Goals as goal
use Rattle.core_decide.proofs.decide.add_prices.Goals.{then-i-len+then-low-room, then-i-len+else-low-room, else-i-len}

pub loop-i-init : goal.loop-i-init
loop-i-init c = added_none c.args.prices c.args.len

pub overflow_add-high : goal.overflow_add-high
overflow_add-high c =
    omega (arith, added_few c.args.prices c.args.len c.loop-i.i c.loop-i.high c.loop-i.low c.loop-i.invariant (omega arith))

pub loop-i-preserved : goal.loop-i-preserved
loop-i-preserved c =
    let l = c.loop-i in
    let j = c.if-i-len in
    let f : get_or c.args.prices l.i 0 < 2 ^ 64 = word_fits 5 c.args.prices _ c.well_formed.0 l.i in
    elim j.branch [
      | then-i-len+then-low-room w ↦ added_kept c.args.prices c.args.len l.i l.high l.low j.high j.low l.invariant w.if-i-len.true f w.if-low-room.true w.high-is w.low-is
      | then-i-len+else-low-room w ↦ added_carried c.args.prices c.args.len l.i l.high l.low j.high j.low l.invariant w.if-i-len.true f w.if-low-room.false w.high-is w.low-is
      | else-i-len w ↦ added_past c.args.prices c.args.len l.i l.high l.low j.high j.low l.invariant w.if-i-len.false w.high-is w.low-is
    ]

pub returns : goal.returns
returns c =
    added_all c.args.prices c.args.len c.loop-i.i c.loop-i.high c.loop-i.low (search rules) (omega arith) c.loop-i.invariant
