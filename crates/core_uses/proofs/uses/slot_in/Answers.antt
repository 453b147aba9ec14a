use Rattle.std.specs.Prelude.{None}
use mathlib.Core.Path.{refl, sym, ◌∙◌}
use lib.IntN.{ℤ, pos, ◌-ℤ◌}
use mir.Syntax.{w64}
use mir.Val.{SFits}
use mir.Facts.{to_z-of_z}
use borrow.Author.Rules.{rules}
use Rattle.core_terms.specs.declared.params.OracleParams.{OracleParams}
use Rattle.numbers.specs.Times.{gap_of}
use Rattle.numbers.proofs.Times.{at_fits}
use Rattle.core_uses.proofs.Slots.{no_start, ahead, too_late, no_new, at_slot}
use Rattle.core_uses.proofs.uses.slot_in.Goals as goal

-- the window's start
abbrev begin : OracleParams → ℤ → ℤ
begin p expiry = expiry -ℤ pos p.window_s

pub returns-in_default : goal.returns-in_default
returns-in_default c =
    let a = c.args in
    let f-expiry = c.ranges.expiry in
    no_start a.expiry a.p.window_s a.p.slot_s a.p.slot_tolerance_s a.bits a.x.publish_time a.x.prev_publish_time (simp to_z-of_z at c.in_default.ensures)

pub returns-in_default-span : goal.returns-in_default-span
returns-in_default-span c =
    let a = c.args in
    let f-expiry = c.ranges.expiry in
    let told = simp to_z-of_z at c.in-Some.ensures in
    let f-start = at_fits c.in-Some.start (begin a.p a.expiry) told in
    let f-publish : SFits w64 a.x.publish_time = search rules in
    let e = simp to_z-of_z at c.in_default-span.ensures in
    ahead a.expiry a.p.window_s a.p.slot_s a.p.slot_tolerance_s a.bits a.x.publish_time a.x.prev_publish_time c.in-Some.start told
    None (gap_of a.x.prev_publish_time a.x.publish_time) e refl

pub returns-then-p-offset : goal.returns-then-p-offset
returns-then-p-offset c =
    let a = c.args in
    let f-expiry = c.ranges.expiry in
    let told = simp to_z-of_z at c.in-Some.ensures in
    let f-start = at_fits c.in-Some.start (begin a.p a.expiry) told in
    let f-publish : SFits w64 a.x.publish_time = search rules in
    let gap = simp to_z-of_z at (sym c.in-Some-span.is ∙ c.span.ensures) in
    too_late a.expiry a.p.window_s a.p.slot_s a.p.slot_tolerance_s a.bits a.x.publish_time a.x.prev_publish_time c.in-Some.start told
    c.in-Some-span.offset gap c.if-p-offset.true

pub returns-in_default-span-2 : goal.returns-in_default-span-2
returns-in_default-span-2 c =
    let a = c.args in
    let f-expiry = c.ranges.expiry in
    let told = simp to_z-of_z at c.in-Some.ensures in
    let f-start = at_fits c.in-Some.start (begin a.p a.expiry) told in
    let f-publish : SFits w64 a.x.publish_time = search rules in
    let f-prev : SFits w64 a.x.prev_publish_time = search rules in
    let gap = simp to_z-of_z at (sym c.in-Some-span.is ∙ c.span.ensures) in
    let e = simp to_z-of_z at c.in_default-span-2.ensures in
    no_new a.expiry a.p.window_s a.p.slot_s a.p.slot_tolerance_s a.bits a.x.publish_time a.x.prev_publish_time c.in-Some.start told
    c.in-Some-span.offset gap c.if-p-offset.false e

pub returns : goal.returns
returns c =
    let a = c.args in
    let f-expiry = c.ranges.expiry in
    let told = simp to_z-of_z at c.in-Some.ensures in
    let f-start = at_fits c.in-Some.start (begin a.p a.expiry) told in
    let f-publish : SFits w64 a.x.publish_time = search rules in
    let f-prev : SFits w64 a.x.prev_publish_time = search rules in
    let gap = simp to_z-of_z at (sym c.in-Some-span.is ∙ c.span.ensures) in
    let e = simp to_z-of_z at (sym c.in-Some-span-2.is ∙ c.span-2.ensures) in
    at_slot a.expiry a.p.window_s a.p.slot_s a.p.slot_tolerance_s a.bits a.x.publish_time a.x.prev_publish_time c.in-Some.start told
    c.in-Some-span.offset gap c.if-p-offset.false c.in-Some-span-2.back e c.slot_at.result c.slot_at.ensures
