use mir.Facts.{to_z-of_z}
use mir.Syntax.{w64}
use mir.Val.{SFits}
use Rattle.rules.specs.State.{candidates_of}
use Rattle.core_terms.specs.Params.{terms_of}
use Rattle.core_prices.specs.Prints.{print_of}
use Rattle.core_parts.specs.States.{stored_of}
use Rattle.core_take.proofs.Slots.{by_division}
use borrow.Author.Rules.{rules}
use Rattle.core_take.proofs.take.try_slot.Goals as goal

pub returns : goal.returns
unfolding terms_of print_of stored_of candidates_of
returns c =
    let a = c.args in
    let f-expiry = let x : SFits w64 c.args.x.expiry = search rules in x in
    let f-publish = let x : SFits w64 c.args.x.print.publish_time = search rules in x in
    let f-prev = let x : SFits w64 c.args.x.print.prev_publish_time = search rules in x in
    by_division (terms_of a.x.params) a.x.expiry (candidates_of (stored_of a.s)) (print_of a.x.print) a.x.terms_in_range _ (simp to_z-of_z at c.slot_in.ensures)
