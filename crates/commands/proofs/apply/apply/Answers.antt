use mathlib.Core.Path.{◌≡◌, sym, ap, ◌∙◌}
use native.Mathlib.Omega.{arith}
use lib.ListN.{length}
use mir.Syntax.{w64}
use mir.Val.{SFits}
use mir.Facts.{to_z-of_z}
use Rattle.rules.specs.Series.{Open, Offer, Ask, Fix, Withdraw}
use Rattle.rules.specs.Record.{book_size}
use Rattle.core_prices.specs.Prints.{quote_of}
use Rattle.book.specs.Refusals.{refusal_number}
use Rattle.commands.specs.Entries.{command_of}
use Rattle.record_read.specs.Records.{opening_of}
use Rattle.commands.proofs.Applied.{asked, no_book, no_command_lem, by_command}
use borrow.Author.Rules.{rules}
use Rattle.commands.proofs.apply.apply.Goals as goal

pub returns-then-book-ne-BOOK_SIZE : goal.returns-then-book-ne-BOOK_SIZE
returns-then-book-ne-BOOK_SIZE c = let a = c.args in no_book a.book.now a.entry.now c.if-book-ne-BOOK_SIZE.true

pub returns-in-Err : goal.returns-in-Err
returns-in-Err c =
    let right : length c.args.book.now ≡ book_size = omega (arith, c.if-book-ne-BOOK_SIZE.false) in
    no_command_lem c.args.book.now c.args.entry.now right (refusal_number c.in-Err.r) c.in-Err.ensures

pub returns-in-Ok-Open : goal.returns-in-Ok-Open
returns-in-Ok-Open c =
    let e = c.in-Ok-Open in
    let right : length c.args.book.now ≡ book_size = omega (arith, c.if-book-ne-BOOK_SIZE.false) in
    let x = by_command c.args.book.now c.args.entry.now right e.series (Open (opening_of e.opening)) (sym (ap command_of e.field-0-is) ∙ e.ensures) in
    (c.«open».ensures.0 ∙ x.0, c.«open».ensures.1 ∙ x.1)

pub returns-in-Ok-Offer : goal.returns-in-Ok-Offer
returns-in-Ok-Offer c =
    let e = c.in-Ok-Offer in
    let f : SFits w64 e.now = search rules in
    let right : length c.args.book.now ≡ book_size = omega (arith, c.if-book-ne-BOOK_SIZE.false) in
    let x = by_command c.args.book.now c.args.entry.now right e.series (Offer (quote_of e.quote) e.now) (sym (ap command_of e.field-0-is) ∙ e.ensures) in
    let y = simp to_z-of_z at c.offer.ensures in
    (y.0 ∙ x.0, y.1 ∙ x.1)

pub returns-in-Ok-Ask : goal.returns-in-Ok-Ask
returns-in-Ok-Ask c =
    let e = c.in-Ok-Ask in
    let f : SFits w64 e.now = search rules in
    let right : length c.args.book.now ≡ book_size = omega (arith, c.if-book-ne-BOOK_SIZE.false) in
    let x = by_command c.args.book.now c.args.entry.now right e.series (Ask e.now) (sym (ap command_of e.field-0-is) ∙ e.ensures) in
    ((simp to_z-of_z at c.ask.ensures) ∙ x.0, sym (asked c.args.book.now e.series e.now) ∙ x.1)

pub returns-in-Ok-Fix : goal.returns-in-Ok-Fix
returns-in-Ok-Fix c =
    let e = c.in-Ok-Fix in
    let f : SFits w64 e.now = search rules in
    let right : length c.args.book.now ≡ book_size = omega (arith, c.if-book-ne-BOOK_SIZE.false) in
    let x = by_command c.args.book.now c.args.entry.now right e.series (Fix e.now) (sym (ap command_of e.field-0-is) ∙ e.ensures) in
    let y = simp to_z-of_z at c.fix.ensures in
    (y.0 ∙ x.0, y.1 ∙ x.1)

pub returns-in-Ok-Withdraw : goal.returns-in-Ok-Withdraw
returns-in-Ok-Withdraw c =
    let e = c.in-Ok-Withdraw in
    let f : SFits w64 e.now = search rules in
    let right : length c.args.book.now ≡ book_size = omega (arith, c.if-book-ne-BOOK_SIZE.false) in
    let x = by_command c.args.book.now c.args.entry.now right e.series (Withdraw e.now e.slot) (sym (ap command_of e.field-0-is) ∙ e.ensures) in
    let y = simp to_z-of_z at c.withdraw.ensures in
    (y.0 ∙ x.0, y.1 ∙ x.1)
