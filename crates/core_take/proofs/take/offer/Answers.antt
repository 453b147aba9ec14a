use mathlib.Core.Path.{◌≡◌, refl, sym}
use mir.Syntax.{w8, w32, w64}
use mir.Val.{SFits}
use mir.Facts.{to_z-of_z}
use borrow.Author.Rules.{rules}
use Rattle.rules.specs.Answers.{Refused}
use Rattle.core_terms.specs.Errors.{number_of}
use Rattle.core_take.specs.Uses.{used_of}
use Rattle.rules.specs.State.{offer_call, offer_state}
use Rattle.core_terms.specs.Params.{terms_of}
use Rattle.core_prices.specs.Prints.{quote_of}
use Rattle.core_parts.specs.States.{stored_of}
use Rattle.core_parts.proofs.Checks.{checks, not_checked}
use Rattle.core_take.proofs.Placing.{unchanged}
use Rattle.core_take.proofs.take.offer.Goals as goal

pub returns-in-Err : goal.returns-in-Err
unfolding offer_call offer_state
returns-in-Err c = unchanged _ _ _ _ (sym (not_checked (terms_of c.args.params) (stored_of c.args.state) _ _ c.in-Err.ensures))

pub invariant_of-posted : goal.invariant_of-posted
invariant_of-posted c = record { terms_in_range = (checks (terms_of c.args.params) (stored_of c.args.state) c.in_default.ensures).0 }

pub add-requires : goal.add-requires
add-requires c = (checks (terms_of c.args.params) (stored_of c.args.state) c.in_default.ensures).1

pub returns : goal.returns
unfolding offer_call offer_state quote_of terms_of
returns c =
    let q = c.args.quote in
    let fe : SFits w8 c.args.params.expo = search rules in
    let fp : SFits w64 q.price = search rules in
    let fx : SFits w32 q.exponent = search rules in
    let ft : SFits w64 q.publish_time = search rules in
    let fv : SFits w64 q.prev_publish_time = search rules in
    let g : SFits w64 c.get.result = search rules in
    let f = c.ranges.now in
    let e = simp to_z-of_z at c.in-Ok.ensures in
    let r = simp to_z-of_z at c.add.ensures in
    let (t, s) = checks (terms_of c.args.params) (stored_of c.args.state) c.in_default.ensures in
    simp (t, s, sym e) (rw c.get.ensures at r)

pub returns-in_default-accepted : goal.returns-in_default-accepted
unfolding offer_call offer_state quote_of terms_of
returns-in_default-accepted c =
    let q = c.args.quote in
    let fe : SFits w8 c.args.params.expo = search rules in
    let fp : SFits w64 q.price = search rules in
    let fx : SFits w32 q.exponent = search rules in
    let ft : SFits w64 q.publish_time = search rules in
    let fv : SFits w64 q.prev_publish_time = search rules in
    let e = simp to_z-of_z at c.in_default-accepted.ensures in
    let k : used_of c.and-result.result ≡ Refused (number_of c.in_default-accepted.field-0) = rw (c.and-result.ensures, c.in_default-accepted.is) in
    let (t, s) = checks (terms_of c.args.params) (stored_of c.args.state) c.in_default.ensures in
    simp (t, s, sym e) (k, refl)
