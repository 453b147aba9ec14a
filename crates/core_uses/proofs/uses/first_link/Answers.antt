use mir.Syntax.{w64}
use mir.Val.{SFits}
use mir.Facts.{to_z-of_z}
use Rattle.rules.proofs.Integers.{lt_true, lt_false, le_true, le_false}
use Rattle.core_uses.specs.Uses.{first_link}
use borrow.Author.Rules.{rules}
use Rattle.core_uses.proofs.uses.first_link.Goals as goal

pub returns-then-expiry-x : goal.returns-then-expiry-x
unfolding first_link
returns-then-expiry-x c =
    let a = c.args in
    let f-expiry = c.ranges.expiry in
    let f-prev : SFits w64 c.args.x.prev_publish_time = search rules in
    let g1 = simp to_z-of_z at c.if-expiry-x.true in
    rw (lt_true a.expiry a.x.prev_publish_time g1)

pub returns-then-x-expiry : goal.returns-then-x-expiry
unfolding first_link
returns-then-x-expiry c =
    let a = c.args in
    let f-expiry = c.ranges.expiry in
    let f-prev : SFits w64 c.args.x.prev_publish_time = search rules in
    let f-publish : SFits w64 c.args.x.publish_time = search rules in
    let g1 = simp to_z-of_z at c.if-expiry-x.false in
    let g2 = simp to_z-of_z at c.if-x-expiry.true in
    rw (lt_false a.expiry a.x.prev_publish_time g1, le_true a.x.publish_time a.expiry g2)

pub returns : goal.returns
unfolding first_link
returns c =
    let a = c.args in
    let f-expiry = c.ranges.expiry in
    let f-prev : SFits w64 c.args.x.prev_publish_time = search rules in
    let f-publish : SFits w64 c.args.x.publish_time = search rules in
    let g1 = simp to_z-of_z at c.if-expiry-x.false in
    let g2 = simp to_z-of_z at c.if-x-expiry.false in
    rw (lt_false a.expiry a.x.prev_publish_time g1, le_false a.x.publish_time a.expiry g2)
