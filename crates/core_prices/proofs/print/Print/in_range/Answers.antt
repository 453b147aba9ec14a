use mir.Syntax.{w64}
use mir.Val.{SFits}
use mir.Facts.{to_z-of_z}
use borrow.Author.Rules.{rules}
use borrow.Author.Tests.{eq-eqb, ne_eqb}
use Rattle.rules.proofs.Integers.{le_not_lt}
use Rattle.core_prices.specs.Prints.{print_of}
use Rattle.core_prices.proofs.print.Print.in_range.Goals as goal

pub returns-then-self-eq0 : goal.returns-then-self-eq0
unfolding print_of
returns-then-self-eq0 c = simp (eq-eqb c.args.self.price 0 c.if-self-eq0.true)

pub returns-then-prev-le0 : goal.returns-then-prev-le0
unfolding print_of
returns-then-prev-le0 c =
    let p = c.args.self in
    let f : SFits w64 c.args.self.prev_publish_time = search rules in
    let g = simp to_z-of_z at c.if-prev-le0.true in
    simp (ne_eqb p.price 0 c.if-self-eq0.false, g)

pub returns : goal.returns
unfolding print_of
returns c =
    let p = c.args.self in
    let f : SFits w64 c.args.self.prev_publish_time = search rules in
    let h : SFits w64 c.args.self.publish_time = search rules in
    let g = simp to_z-of_z at c.if-prev-le0.false in
    simp (to_z-of_z, ne_eqb p.price 0 c.if-self-eq0.false, g) (le_not_lt p.prev_publish_time p.publish_time)
