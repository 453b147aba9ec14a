use Prim.Native.Nat.{◌-◌}
use native.Mathlib.Omega.{arith}
use lib.ListN.{get_or}
use lib.IntN.{pos}
use mir.Syntax.{w64}
use mir.Val.{SFits}
use mir.Facts.{to_z-of_z}
use Rattle.core_terms.specs.Params.{terms_of}
use Rattle.core_prices.specs.Prints.{print_of}
use Rattle.core_parts.specs.States.{stored_of}
use Rattle.core_take.proofs.Links.{few_links, no_room, first_link_lem, later_link_lem}
use borrow.Author.Rules.{rules}
use Rattle.core_take.proofs.take.try_next_print.Goals as goal

pub returns-then-x-len : goal.returns-then-x-len
unfolding terms_of stored_of
returns-then-x-len c =
    let a = c.args in
    no_room (terms_of a.x.params) a.x.expiry (stored_of a.s) (print_of a.x.print) c.if-x-len.true

pub returns-then-len-eq0 : goal.returns-then-len-eq0
unfolding terms_of stored_of print_of
returns-then-len-eq0 c =
    let a = c.args in
    let f-expiry : SFits w64 a.x.expiry = search rules in
    let f-publish : SFits w64 a.x.print.publish_time = search rules in
    let f-prev : SFits w64 a.x.print.prev_publish_time = search rules in
    first_link_lem (terms_of a.x.params) a.x.expiry (stored_of a.s) (print_of a.x.print) c.if-len-eq0.true c.if-x-len.false _ (simp to_z-of_z at c.first_link.ensures)

pub bounds-s-end : goal.bounds-s-end
unfolding terms_of
bounds-s-end c =
    omega (arith, c.if-x-len.false, few_links (terms_of c.args.x.params) c.args.x.terms_in_range)

pub returns : goal.returns
unfolding terms_of stored_of print_of
returns c =
    let a = c.args in
    let n = a.s.next_len - 1 in
    let f-last : SFits w64 (get_or a.s.next_times n (pos 0)) = search rules in
    let f-publish : SFits w64 a.x.print.publish_time = search rules in
    let f-prev : SFits w64 a.x.print.prev_publish_time = search rules in
    later_link_lem (terms_of a.x.params) a.x.expiry (stored_of a.s) (print_of a.x.print) n (omega (arith, c.if-len-eq0.false)) c.if-x-len.false _ (simp to_z-of_z at c.later_link.ensures)
