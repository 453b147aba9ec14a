use Prim.Native.Nat.{ℕ}
use mathlib.Core.Path.{◌≡◌, sym, ap, ◌∙◌}
use mir.Syntax.{w64}
use mir.Val.{SFits}
use mir.Facts.{to_z-of_z}
use Rattle.rules.specs.Bytes.{word}
use Rattle.rules.specs.Answers.{Result, Refused}
use Rattle.rules.specs.State.{Parts, offer_state}
use Rattle.rules.specs.Series.{Offer, Series}
use Rattle.rules.specs.Record.{prices_in, open_record}
use Rattle.rules.specs.Book.{record_at, replaced, stored_answer, written}
use Rattle.core_terms.specs.Errors.{number_of}
use Rattle.core_prices.specs.Prints.{quote_of}
use Rattle.core_parts.specs.States.{stored_of}
use Rattle.core_take.specs.Uses.{used_of}
use Rattle.record_read.specs.Records.{opening_of}
use Rattle.record_store.specs.Prices.{with_price}
use Rattle.answers.proofs.Commands.{may_look, held_found}
use Rattle.openings.proofs.Offers.{offer_refused, offer_used}
use Rattle.endian.proofs.TwosComplement.{word_is}
use borrow.Author.Rules.{rules}
use Rattle.openings.proofs.offer.offer_open.Goals as goal

pub store_open-requires : goal.store_open-requires
store_open-requires c = may_look c.args.book.now c.args.series c.requires

pub returns-in-Ok : goal.returns-in-Ok
unfolding quote_of
returns-in-Ok c =
    let a = c.args in
    let book = a.book.now in
    let c0 = c.read_contents.result in
    let o = opening_of c0.opening in
    let q = quote_of a.quote in
    let prices = prices_in (record_at a.series book) in
    let f = c.ranges.now in
    let u = c.in-Ok.u in
    let e = held_found book a.series c.requires c.look.ensures c.read_contents.ensures in
    let x = offer_used book a.series o (stored_of c0.state) prices q a.now u.slot u.next_print u.fallback
    (sym c.offer-added.ensures.0 ∙ ap used_of c.in-Ok.is) in (
      x.0 ∙ ap (λ (y : Result Series). stored_answer y (Offer q a.now)) e,
      c.store_open.ensures
          ∙ ap (λ (p : Parts). replaced a.series (open_record o p (with_price prices u.slot c.cast_unsigned-price.result)) book) (simp to_z-of_z at c.offer-added.ensures.1)
          ∙ ap (λ (v : ℕ). replaced a.series (open_record o (offer_state o.terms o.bps o.expiry (stored_of c0.state) q a.now) (with_price prices u.slot v)) book) ((let h : c.cast_unsigned-price.result ≡ word 64 (quote_of c.args.quote).price = let g : SFits w64 c.args.quote.price = search rules in c.cast_unsigned-price.ensures ∙ word_is w64 _ ∙ ap (word 64) (to_z-of_z g) in h))
          ∙ x.1 ∙ ap (λ (y : Result Series). written a.series book y (Offer q a.now)) e,
    )

pub returns-in-Err : goal.returns-in-Err
returns-in-Err c =
    let a = c.args in
    let book = a.book.now in
    let c0 = c.read_contents.result in
    let q = quote_of a.quote in
    let e = held_found book a.series c.requires c.look.ensures c.read_contents.ensures in
    let x = offer_refused book a.series (opening_of c0.opening) (stored_of c0.state) (prices_in (record_at a.series book)) q a.now (number_of c.in-Err.e) (sym c.offer-added.ensures.0 ∙ ap used_of c.in-Err.is) in (
      ap Refused c.from.ensures ∙ x.0 ∙ ap (λ (y : Result Series). stored_answer y (Offer q a.now)) e,
      x.1 ∙ ap (λ (y : Result Series). written a.series book y (Offer q a.now)) e,
    )
