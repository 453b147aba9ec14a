use mathlib.Core.Path.{sym, ◌∙◌}
use Rattle.fixings.proofs.Fixes.{fix_turned, fix_pending, fix_made}
use Rattle.fixings.proofs.fix.fix_open.Goals as goal

pub returns-in-Ok : goal.returns-in-Ok
returns-in-Ok c =
    let a = c.args in
    fix_made a.book.now a.series c.requires a.now c.ranges.now c.look.ensures c.in-Ok.d c.in-Ok.ensures (sym c.is_final.ensures ∙ c.if-is_final.true) c.from.ensures c.store_fixed.ensures

pub returns-in-Ok-2 : goal.returns-in-Ok-2
returns-in-Ok-2 c =
    let a = c.args in
    fix_pending a.book.now a.series c.requires a.now c.ranges.now c.look.ensures c.in-Ok.d c.in-Ok.ensures (sym c.is_final.ensures ∙ c.if-is_final.false)

pub returns-in-Err : goal.returns-in-Err
returns-in-Err c =
    let a = c.args in
    fix_turned a.book.now a.series c.requires a.now c.ranges.now c.look.ensures c.in-Err.ensures c.from-in-Err.ensures
