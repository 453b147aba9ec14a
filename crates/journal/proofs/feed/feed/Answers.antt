use mathlib.Core.Path.{refl, ap, ◌∙◌}
use native.Mathlib.Omega.{arith}
use Rattle.std.proofs.lemmas.Bool.{not-true}
use Prim.Native.Nat.{◌+◌, ◌-◌}
use lib.ListN.{length, take, drop}
use lib.Seq.{length-sets}
use Rattle.rules.specs.Journal.{line_to}
use Rattle.journal.proofs.Series.{given_at}
use Rattle.journal.proofs.Given.{starts, first_of_lem, inside, entry_of, no_room, no_entry, goes_on}
use Rattle.journal.proofs.feed.feed.Goals as goal

pub loop-fed-init : goal.loop-fed-init
loop-fed-init c = (starts c.args.last c.args.part.now c.args.book.now c.args.out.now, refl, refl)

pub overflow_add-end : goal.overflow_add-end
overflow_add-end c = let e = inside c.args.last c.args.part.now c.loop-fed.fed.taken c.loop-fed.invariant.0.within c.first_width.ensures c.in-Some.is in omega arith

pub slice_bounds-give-end : goal.slice_bounds-give-end
slice_bounds-give-end c = (inside c.args.last c.args.part.now c.loop-fed.fed.taken c.loop-fed.invariant.0.within c.first_width.ensures c.in-Some.is).1

pub loop-fed-smaller : goal.loop-fed-smaller
loop-fed-smaller c = let e = inside c.args.last c.args.part.now c.loop-fed.fed.taken c.loop-fed.invariant.0.within c.first_width.ensures c.in-Some.is in omega arith

pub loop-fed-preserved : goal.loop-fed-preserved
loop-fed-preserved c =
    let l = c.loop-fed in
    let f = first_of_lem c.args.last c.args.part.now l.fed.taken c.first_width.ensures c.in-Some.is in
    let (n, booked, line, short) = c.give.ensures in
    let text = line_to l.book (take (l.fed.taken + c.in-Some.width - l.fed.taken) (drop l.fed.taken c.args.part.now)) in
    let gives = given_at l.out l.fed.written text (omega arith) (n, line, short) refl in
    (goes_on l.invariant.0 (not-true l.fed.ended c.loop-fed-test.true) f (entry_of c.args.part.now l.fed.taken c.in-Some.width) (omega arith) (gives.0, booked, gives.1, gives.2), c.give.auto.book ∙ l.invariant.1, ap length gives.1 ∙ length-sets l.out l.fed.written text ∙ l.invariant.2)

pub returns-else-out-fed-ge-LINE_MAX : goal.returns-else-out-fed-ge-LINE_MAX
returns-else-out-fed-ge-LINE_MAX c = no_room c.loop-fed.invariant.0 (omega arith)

pub returns-in_default : goal.returns-in_default
returns-in_default c =
    let f = first_of_lem c.args.last c.args.part.now c.loop-fed.fed.taken c.first_width.ensures c.in_default.is in
    no_entry c.loop-fed.invariant.0 (not-true c.loop-fed.fed.ended c.loop-fed-test.true) f
