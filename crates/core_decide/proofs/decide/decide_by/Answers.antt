use mathlib.Core.Path.{◌≡◌, ap, ◌∙◌}
use lib.IntN.{ℤ}
use mir.Syntax.{w64}
use mir.Val.{SFits}
use mir.Facts.{to_z-of_z}
use borrow.Author.Rules.{rules}
use Rattle.rules.specs.Answers.{Refused}
use Rattle.rules.specs.Decision.{decide_by}
use Rattle.rules.specs.State.{candidates_of, decide_call}
use Rattle.core_terms.specs.Params.{terms_of}
use Rattle.core_terms.specs.Errors.{number_of}
use Rattle.core_parts.specs.States.{stored_of}
use Rattle.core_parts.proofs.Checks.{checks, not_checked}
use Rattle.core_decide.specs.Decisions.{decision_of, order_of}
use Rattle.core_decide.proofs.decide.decide_by.Goals as goal

pub returns-in_err-check : goal.returns-in_err-check
unfolding decide_call
returns-in_err-check c =
    let a = c.args in
    let e : decision_of c.from_residual.result ≡ Refused (number_of c.in_err-check.field-0.0) = search rules in
    e ∙ not_checked (terms_of a.params) (stored_of a.state) (number_of c.in_err-check.field-0.0) (decide_by (terms_of a.params) a.expiry.0 (candidates_of (stored_of a.state)) a.now (order_of a.order)) c.in_err-check.ensures

pub returns : goal.returns
unfolding decide_call
returns c =
    let a = c.args in
    let f = c.ranges.now in
    let g : SFits w64 c.get.result = search rules in
    let q = simp to_z-of_z at c.cascade.ensures in
    let d = ap (λ (E : ℤ). decide_by (terms_of a.params) E (candidates_of (stored_of a.state)) a.now (order_of a.order)) c.get.ensures in
    let (t, s) = checks (terms_of a.params) (stored_of a.state) c.in_ok-check.ensures in
    simp (t, s) (q ∙ d)
