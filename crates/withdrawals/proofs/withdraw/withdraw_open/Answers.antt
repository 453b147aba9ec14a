use mathlib.Core.Path.{◌∙◌}
use native.Mathlib.Omega.{arith}
use mir.Facts.{to_z-of_z}
use Rattle.core_parts.specs.States.{stored_of}
use Rattle.withdrawals.proofs.Withdraws.{not_passed, no_slot_lem, no_print, held, can_free, print_freed}
use Rattle.withdrawals.proofs.withdraw.withdraw_open.Goals as goal

pub returns-in-Err : goal.returns-in-Err
returns-in-Err c =
    let a = c.args in
    not_passed a.book.now a.series c.requires c.look.ensures c.read_contents-c.ensures a.now a.slot c.in-Err.ensures c.from.ensures

pub returns-then-slots-slot : goal.returns-then-slots-slot
returns-then-slots-slot c =
    let a = c.args in
    no_slot_lem a.book.now a.series c.requires c.look.ensures c.read_contents-c.ensures a.now a.slot c.in_default.ensures (omega arith)

pub returns-then-not-is_filled : goal.returns-then-not-is_filled
unfolding stored_of
returns-then-not-is_filled c =
    let a = c.args in
    no_print a.book.now a.series c.requires c.look.ensures c.read_contents-c.ensures a.now a.slot c.in_default.ensures (omega arith) cc

pub store_freed-requires-clause-contents : goal.store_freed-requires-clause-contents
store_freed-requires-clause-contents c =
    let a = c.args in
    held a.book.now a.series c.requires c.look.ensures c.read_contents-c.ensures a.now a.slot

pub store_freed-requires-clause-can_free : goal.store_freed-requires-clause-can_free
unfolding stored_of
store_freed-requires-clause-can_free c =
    let a = c.args in
    can_free a.book.now a.series c.requires c.look.ensures c.read_contents-c.ensures a.now a.slot c.in_default.ensures (omega arith) cc

pub returns : goal.returns
unfolding stored_of
returns c =
    let a = c.args in
    let f = c.ranges.now in
    let (done, put) = print_freed a.book.now a.series c.requires c.look.ensures c.read_contents-c.ensures a.now a.slot c.in_default.ensures (omega arith) cc in
    (done, simp to_z-of_z at c.store_freed.ensures ∙ put)
