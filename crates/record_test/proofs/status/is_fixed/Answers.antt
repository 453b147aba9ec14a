use mathlib.Core.Path.{◌≡◌, sym, ap, ◌∙◌}
use mir.Syntax.{w64}
use Rattle.rules.specs.Log.{every}
use Rattle.rules.specs.Answers.{Answer}
use Rattle.rules.specs.Record.{fixing_time_in, standing}
use Rattle.core_decide.specs.Decisions.{decision_of}
use Rattle.endian.proofs.TwosComplement.{came}
use Rattle.record_test.specs.Statuses.{decision_in}
use Rattle.record_test.proofs.Statuses.{called, fixed_called, decision_of_lem}
use borrow.Author.Rules.{rules}
use Rattle.record_test.proofs.status.is_fixed.Goals as goal

pub returns-in_default : goal.returns-in_default
returns-in_default c =
    let bs = c.args.bytes.now in
    sym (sym (fixed_called bs) ∙ ap (λ (a : Answer). every (standing bs a)) (sym ((let h : decision_of c.decide_in.result ≡ called c.args.bytes.now = let bs = c.args.bytes.now in c.decide_in.ensures ∙ ap (decision_in bs) (came w64 c.read.type_inv c.read.ensures) ∙ decision_of_lem bs (fixing_time_in bs) (search rules) in h)) ∙ ap decision_of c.in_default.is))

pub returns : goal.returns
returns c =
    let bs = c.args.bytes.now in
    c.has_decision.ensures ∙ ap (λ (a : Answer). every (standing bs a)) (sym (ap decision_of c.in-Ok.is) ∙ (let h : decision_of c.decide_in.result ≡ called c.args.bytes.now = let bs = c.args.bytes.now in c.decide_in.ensures ∙ ap (decision_in bs) (came w64 c.read.type_inv c.read.ensures) ∙ decision_of_lem bs (fixing_time_in bs) (search rules) in h)) ∙ fixed_called bs
