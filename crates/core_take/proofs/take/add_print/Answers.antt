use mathlib.Core.Path.{refl, sym}
use mir.Syntax.{w64}
use mir.Val.{SFits}
use mir.Facts.{to_z-of_z}
use borrow.Author.Rules.{rules}
use Rattle.rules.specs.State.{add_print_call, add_print_state}
use Rattle.core_terms.specs.Params.{terms_of}
use Rattle.core_parts.specs.States.{stored_of}
use Rattle.core_parts.proofs.Checks.{checks, not_checked}
use Rattle.core_parts.proofs.Places.{passed, failed}
use Rattle.core_take.proofs.Placing.{unchanged}
use Rattle.core_take.proofs.take.add_print.Goals as goal

pub returns-in-Err : goal.returns-in-Err
unfolding add_print_call add_print_state
returns-in-Err c = unchanged _ _ _ _ (sym (not_checked (terms_of c.args.params) (stored_of c.args.state) _ _ c.in-Err.ensures))

pub returns-then-not-in_range : goal.returns-then-not-in_range
unfolding add_print_call add_print_state
returns-then-not-in_range c =
    let (t, s) = checks (terms_of c.args.params) (stored_of c.args.state) c.in_default.ensures in
    simp (t, s, failed c.in_range.ensures c.if-not-in_range.true-raw) (refl, refl)

pub invariant_of-posted : goal.invariant_of-posted
invariant_of-posted c = record { terms_in_range = (checks (terms_of c.args.params) (stored_of c.args.state) c.in_default.ensures).0 }

pub add-requires : goal.add-requires
add-requires c = (checks (terms_of c.args.params) (stored_of c.args.state) c.in_default.ensures).1

pub returns : goal.returns
unfolding add_print_call add_print_state
returns c =
    let f = c.ranges.now in
    let g : SFits w64 c.get.result = search rules in
    let q = simp to_z-of_z at c.add.ensures in
    let (t, s) = checks (terms_of c.args.params) (stored_of c.args.state) c.in_default.ensures in
    simp (t, s, passed c.in_range.ensures c.if-not-in_range.false-raw) (rw c.get.ensures at q)
