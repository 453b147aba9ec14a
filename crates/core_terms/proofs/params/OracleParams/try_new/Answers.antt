use mathlib.Core.Path.{sym, ◌∙◌}
use mir.Facts.{to_z-of_z}
use borrow.Author.Tests.{not-true, not-false}
use Rattle.rules.specs.Terms.{new_terms}
use Rattle.core_terms.specs.Params.{terms_of}
use Rattle.core_terms.proofs.params.OracleParams.try_new.Goals as goal

pub returns-then-not-in_range : goal.returns-then-not-in_range
unfolding new_terms terms_of
returns-then-not-in_range c =
    let f = c.ranges.expo in
    let e = simp to_z-of_z at c.in_range.ensures in
    rw (sym e ∙ not-true c.in_range.result c.if-not-in_range.true-raw)

pub returns : goal.returns
unfolding new_terms terms_of
returns c =
    let f = c.ranges.expo in
    let e = simp to_z-of_z at c.in_range.ensures in
    simp (to_z-of_z, sym e ∙ not-false c.in_range.result c.if-not-in_range.false-raw)
