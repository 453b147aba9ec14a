use mathlib.Core.Path.{◌≡◌}
use borrow.Author.Rules.{rules}
use lib.ListN.{length}
use mir.Facts.{to_z-of_z}
use Rattle.rules.specs.Taking.{print_answer, place}
use Rattle.rules.specs.State.{candidates_of, parts_of}
use Rattle.core_terms.specs.Errors.{number_of}
use Rattle.core_terms.specs.Params.{terms_of}
use Rattle.core_prices.specs.Prints.{print_of}
use Rattle.core_parts.specs.States.{stored_of}
use Rattle.core_take.proofs.Slots.{fills}
use Rattle.core_take.proofs.Links.{links_fit}
use Rattle.core_take.proofs.Placing.{unchanged, stored}
use Rattle.core_parts.specs.declared.state.SettlementParts.{SettlementParts}
use Rattle.core_take.proofs.take.add.Goals as goal

times_length : (s : SettlementParts) → length s.next_times ≡ 5 → length (stored_of s).times ≡ 5
unfolding stored_of
times_length s e = e

prices_length : (s : SettlementParts) → length s.next_prices ≡ 5 → length (stored_of s).prices ≡ 5
unfolding stored_of
prices_length s e = e

pub placed-requires-clause-slot_value : goal.placed-requires-clause-slot_value
unfolding stored_of candidates_of
placed-requires-clause-slot_value c =
    let x = c.args.x in
    let (slot, link, fallback, sum, answer) = c.in-Ok.ensures in
    rw slot (fills (terms_of x.params) x.expiry (candidates_of (stored_of c.args.s)) (print_of x.print) x.terms_in_range)

pub placed-requires-clause-next_print_value : goal.placed-requires-clause-next_print_value
placed-requires-clause-next_print_value c =
    let x = c.args.x in
    let (slot, link, fallback, sum, answer) = c.in-Ok.ensures in
    rw link (links_fit (terms_of x.params) x.expiry (stored_of c.args.s) (print_of x.print) x.terms_in_range)

pub returns-in-Ok : goal.returns-in-Ok
returns-in-Ok c =
    let x = c.args.x in
    let f-now = c.ranges.now in
    let (slot, link, fallback, sum, answer) = c.in-Ok.ensures in
    stored (terms_of x.params) x.expiry (stored_of c.args.s) (print_of x.print) c.args.now x.terms_in_range c.requires
    (times_length c.args.s (search rules)) (prices_length c.args.s (search rules)) _ _ _ _ _ slot link fallback sum answer (simp to_z-of_z at c.placed.ensures)

pub returns-in-Err : goal.returns-in-Err
returns-in-Err c =
    let x = c.args.x in
    let t = terms_of x.params in
    let k = candidates_of (stored_of c.args.s) in
    unchanged (print_answer t x.expiry k (print_of x.print)) (number_of c.in-Err.e) (parts_of (place t x.expiry k (print_of x.print) c.args.now)) (stored_of c.args.s) c.in-Err.ensures
