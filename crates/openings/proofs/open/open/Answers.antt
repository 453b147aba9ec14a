use Prim.Native.Nat.{ℕ}
use mathlib.Core.Path.{refl, sym, ap, ◌∙◌}
use mathlib.Core.List.{List}
use Rattle.rules.specs.Answers.{ok}
use Rattle.rules.specs.State.{Parts, parts_of}
use Rattle.rules.specs.Series.{Open, no_candidates, step}
use Rattle.rules.specs.Record.{prices_in, open_record}
use Rattle.rules.specs.Book.{record_at, replaced}
use Rattle.core_parts.proofs.Places.{passed, failed}
use Rattle.record_read.specs.Records.{opening_of}
use Rattle.answers.proofs.Commands.{answered, left, allowed}
use Rattle.openings.proofs.Opens.{none_priced, open_refused, open_done}
use Rattle.openings.proofs.open.open.Goals as goal

pub returns-then-not-in_range : goal.returns-then-not-in_range
returns-then-not-in_range c =
    let a = c.args in
    let book = a.book.now in
    let o = opening_of a.opening in
    let h = c.in-Ok-Empty.ensures in
    let e = ap ok c.in-Ok-Empty.field-0-is in
    let x = open_refused book a.series o (failed c.in_range.ensures c.if-not-in_range.true-raw) in
    (x.0 ∙ answered book a.series h e (Open o), x.1 ∙ left book a.series h e (Open o))

pub store_open-requires : goal.store_open-requires
store_open-requires c = let a = c.args in allowed a.book.now a.series c.in-Ok-Empty.ensures (ap ok c.in-Ok-Empty.field-0-is) refl

pub returns-else-not-in_range : goal.returns-else-not-in_range
returns-else-not-in_range c =
    let a = c.args in
    let book = a.book.now in
    let o = opening_of a.opening in
    let h = c.in-Ok-Empty.ensures in
    let e = ap ok c.in-Ok-Empty.field-0-is in
    let x = open_done book a.series o (passed c.in_range.ensures c.if-not-in_range.false-raw) in (
      x.0 ∙ answered book a.series h e (Open o),
      c.store_open.ensures ∙ ap (λ (s : Parts). replaced a.series (open_record o s (prices_in (record_at a.series book))) book) c.empty.ensures
          ∙ ap (λ (prices : List ℕ). replaced a.series (open_record o (parts_of no_candidates) prices) book) (none_priced book a.series (sym h ∙ e)) ∙ x.1 ∙ left book a.series h e (Open o),
    )

pub returns-in-Ok-Fixed : goal.returns-in-Ok-Fixed
unfolding step
returns-in-Ok-Fixed c =
    let a = c.args in
    let o = opening_of a.opening in
    let h = c.in-Ok-Fixed.ensures in
    let e = ap ok c.in-Ok-Fixed.field-0-is in
    (answered a.book.now a.series h e (Open o), left a.book.now a.series h e (Open o))

pub returns-in-Err : goal.returns-in-Err
unfolding step
returns-in-Err c =
    let a = c.args in
    let o = opening_of a.opening in
    (answered a.book.now a.series c.in-Err.ensures refl (Open o), left a.book.now a.series c.in-Err.ensures refl (Open o))
