use mathlib.Core.Path.{ap}
use mir.Syntax.{w64}
use mir.Val.{SFits, to_z, of_z}
use mir.Facts.{to_z-of_z}
use Rattle.rules.proofs.Integers.{le_true, le_false}
use Rattle.core_uses.specs.Uses.{later_link}
use Rattle.core_uses.proofs.Links.{eq_eq_z, ne_eq_z}
use borrow.Author.Rules.{rules}
use Rattle.core_uses.proofs.uses.later_link.Goals as goal

pub returns-then-x-last : goal.returns-then-x-last
unfolding later_link
returns-then-x-last c =
    let a = c.args in
    rw (ne_eq_z a.x.prev_publish_time a.last (λ q. c.if-x-last.true (ap (of_z w64) q)))

pub returns-then-x-last-2 : goal.returns-then-x-last-2
unfolding later_link
returns-then-x-last-2 c =
    let a = c.args in
    let f-last = c.ranges.last in
    let f-prev : SFits w64 c.args.x.prev_publish_time = search rules in
    let f-publish : SFits w64 c.args.x.publish_time = search rules in
    let g1 = simp to_z-of_z at (ap (to_z w64) c.if-x-last.false) in
    let g2 = simp to_z-of_z at c.if-x-last-2.true in
    rw (eq_eq_z a.x.prev_publish_time a.last g1, le_true a.x.publish_time a.last g2)

pub returns : goal.returns
unfolding later_link
returns c =
    let a = c.args in
    let f-last = c.ranges.last in
    let f-prev : SFits w64 c.args.x.prev_publish_time = search rules in
    let f-publish : SFits w64 c.args.x.publish_time = search rules in
    let g1 = simp to_z-of_z at (ap (to_z w64) c.if-x-last.false) in
    let g2 = simp to_z-of_z at c.if-x-last-2.false in
    rw (eq_eq_z a.x.prev_publish_time a.last g1, le_false a.x.publish_time a.last g2)
