use mathlib.Core.Path.{sym, ◌∙◌}
use mir.Facts.{to_z-of_z}
use borrow.Author.Tests.{not-true, not-false}
use Rattle.rules.specs.Prints.{new_print}
use Rattle.core_prices.specs.Prints.{print_of}
use Rattle.core_prices.proofs.print.Print.try_new.Goals as goal

pub returns-then-not-in_range : goal.returns-then-not-in_range
unfolding new_print print_of
returns-then-not-in_range c =
    let f = c.ranges.publish_time in
    let g = c.ranges.prev_publish_time in
    let e = simp to_z-of_z at c.in_range.ensures in
    simp (sym e ∙ not-true c.in_range.result c.if-not-in_range.true-raw)

pub returns : goal.returns
unfolding new_print print_of
returns c =
    let f = c.ranges.publish_time in
    let g = c.ranges.prev_publish_time in
    let e = simp to_z-of_z at c.in_range.ensures in
    simp (to_z-of_z, sym e ∙ not-false c.in_range.result c.if-not-in_range.false-raw)
