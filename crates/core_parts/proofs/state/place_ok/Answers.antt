use Prim.Native.Nat.{◌-◌, ◌≤◌, ◌<◌}
use mathlib.Core.Path.{sym, ◌∙◌}
use native.Mathlib.Omega.{arith}
use borrow.Author.Rules.{rules}
use borrow.Author.Tests.{lt-ltb, le-ltb, eq-eqb, ne_eqb}
use lib.ListN.{get_or}
use lib.IntN.{pos}
use mir.Syntax.{w64}
use mir.Val.{SFits, of_z}
use mir.Facts.{to_z-of_z}
use Rattle.core_parts.specs.States.{link_place}
use Rattle.numbers.proofs.Ranges.{zero_64}
use Rattle.core_parts.proofs.state.place_ok.Goals as goal

pub returns-then-price-eq0 : goal.returns-then-price-eq0
unfolding link_place
returns-then-price-eq0 c =
    let a = c.args in
    let g : get_or a.prices a.i 0 ≤ 0 = omega (arith, c.if-price-eq0.true) in
    simp (lt-ltb a.i a.len c.if-i-len.true, le-ltb 0 (get_or a.prices a.i 0) g)

pub returns-then-i-eq0 : goal.returns-then-i-eq0
unfolding link_place
returns-then-i-eq0 c =
    let a = c.args in
    let g : 0 < get_or a.prices a.i 0 = omega (arith, c.if-price-eq0.false) in
    simp (lt-ltb a.i a.len c.if-i-len.true, lt-ltb 0 (get_or a.prices a.i 0) g, eq-eqb a.i 0 c.if-i-eq0.true)

pub returns-then-i-len : goal.returns-then-i-len
unfolding link_place
returns-then-i-len c =
    let a = c.args in
    let g : 0 < get_or a.prices a.i 0 = omega (arith, c.if-price-eq0.false) in
    let f = (let h : SFits w64 (get_or c.args.times c.args.i (pos 0)) = search rules in h) in
    let l = (let h : SFits w64 (get_or c.args.times (c.args.i - 1) (pos 0)) = search rules in h) in
    simp (lt-ltb a.i a.len c.if-i-len.true, lt-ltb 0 (get_or a.prices a.i 0) g, ne_eqb a.i 0 c.if-i-eq0.false, to_z-of_z)

pub returns-then-time-ne0 : goal.returns-then-time-ne0
unfolding link_place
returns-then-time-ne0 c =
    let a = c.args in
    let z = get_or a.times a.i (pos 0) in
    let f = (let h : SFits w64 (get_or c.args.times c.args.i (pos 0)) = search rules in h) in
    simp (le-ltb a.i a.len c.if-i-len.false, sym (zero_64 z f) ∙ ne_eqb (of_z w64 z) 0 c.if-time-ne0.true)

pub returns : goal.returns
unfolding link_place
returns c =
    let a = c.args in
    let z = get_or a.times a.i (pos 0) in
    let f = (let h : SFits w64 (get_or c.args.times c.args.i (pos 0)) = search rules in h) in
    simp (le-ltb a.i a.len c.if-i-len.false, sym (zero_64 z f) ∙ eq-eqb (of_z w64 z) 0 c.if-time-ne0.false)
