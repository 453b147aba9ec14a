use mir.Syntax.{w64}
use mir.Val.{SFits}
use mir.Facts.{to_z-of_z}
use lib.IntN.{ℤ, pos, ◌-ℤ◌}
use borrow.Author.Rules.{rules}
use Rattle.rules.proofs.Integers.{lt_true, lt_false, le_true, le_false}
use Rattle.core_terms.specs.declared.params.OracleParams.{OracleParams}
use Rattle.core_uses.specs.Uses.{fallback_in}
use Rattle.numbers.proofs.Times.{at_is, at_fits, over_is}
use Rattle.core_uses.proofs.uses.fallback_in.Goals as goal

-- the lookback's start
abbrev begin : OracleParams → ℤ → ℤ
begin p expiry = expiry -ℤ pos p.fallback_lookback_s

pub returns-in_default : goal.returns-in_default
unfolding fallback_in
returns-in_default c =
    let a = c.args in
    let f-expiry = c.ranges.expiry in
    rw (over_is (begin a.p a.expiry) (simp to_z-of_z at c.in_default.ensures))

pub returns-then-x-earliest : goal.returns-then-x-earliest
unfolding fallback_in
returns-then-x-earliest c =
    let a = c.args in
    let f-expiry = c.ranges.expiry in
    let told = simp to_z-of_z at c.in-Some.ensures in
    let f-earliest = at_fits c.in-Some.earliest (begin a.p a.expiry) told in
    let f-publish : SFits w64 a.x.publish_time = search rules in
    let (f, e) = at_is c.in-Some.earliest (begin a.p a.expiry) told in
    let g1 = rw e at (simp to_z-of_z at c.if-x-earliest.true) in
    rw (f, lt_true a.x.publish_time (begin a.p a.expiry) g1)

pub returns-then-expiry-x : goal.returns-then-expiry-x
unfolding fallback_in
returns-then-expiry-x c =
    let a = c.args in
    let f-expiry = c.ranges.expiry in
    let told = simp to_z-of_z at c.in-Some.ensures in
    let f-earliest = at_fits c.in-Some.earliest (begin a.p a.expiry) told in
    let f-publish : SFits w64 a.x.publish_time = search rules in
    let (f, e) = at_is c.in-Some.earliest (begin a.p a.expiry) told in
    let g1 = rw e at (simp to_z-of_z at c.if-x-earliest.false) in
    let g2 = simp to_z-of_z at c.if-expiry-x.true in
    rw (f, lt_false a.x.publish_time (begin a.p a.expiry) g1, lt_true a.expiry a.x.publish_time g2)

pub returns-then-x : goal.returns-then-x
unfolding fallback_in
returns-then-x c =
    let a = c.args in
    let f-expiry = c.ranges.expiry in
    let told = simp to_z-of_z at c.in-Some.ensures in
    let f-earliest = at_fits c.in-Some.earliest (begin a.p a.expiry) told in
    let f-publish : SFits w64 a.x.publish_time = search rules in
    let f-prev : SFits w64 a.x.prev_publish_time = search rules in
    let (f, e) = at_is c.in-Some.earliest (begin a.p a.expiry) told in
    let g1 = rw e at (simp to_z-of_z at c.if-x-earliest.false) in
    let g2 = simp to_z-of_z at c.if-expiry-x.false in
    let g3 = simp to_z-of_z at c.if-x.true in
    rw (
      f,
      lt_false a.x.publish_time (begin a.p a.expiry) g1,
      lt_false a.expiry a.x.publish_time g2,
      le_true a.x.publish_time a.x.prev_publish_time g3,
    )

pub returns : goal.returns
unfolding fallback_in
returns c =
    let a = c.args in
    let f-expiry = c.ranges.expiry in
    let told = simp to_z-of_z at c.in-Some.ensures in
    let f-earliest = at_fits c.in-Some.earliest (begin a.p a.expiry) told in
    let f-publish : SFits w64 a.x.publish_time = search rules in
    let f-prev : SFits w64 a.x.prev_publish_time = search rules in
    let f-stored = c.ranges.stored in
    let (f, e) = at_is c.in-Some.earliest (begin a.p a.expiry) told in
    let g1 = rw e at (simp to_z-of_z at c.if-x-earliest.false) in
    let g2 = simp to_z-of_z at c.if-expiry-x.false in
    let g3 = simp to_z-of_z at c.if-x.false in
    simp (
      to_z-of_z,
      f,
      lt_false a.x.publish_time (begin a.p a.expiry) g1,
      lt_false a.expiry a.x.publish_time g2,
      le_false a.x.publish_time a.x.prev_publish_time g3,
    )
