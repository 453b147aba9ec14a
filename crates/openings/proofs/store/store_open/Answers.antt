use mathlib.Core.Path.{ap, ◌∙◌}
use native.Mathlib.Omega.{arith}
use Rattle.rules.specs.Bytes.{Bytes}
use Rattle.rules.specs.Record.{prices_in, open_record}
use Rattle.rules.specs.Book.{replaced}
use Rattle.core_parts.specs.States.{stored_of}
use Rattle.record_read.specs.Records.{opening_of}
use Rattle.record_store.specs.Prices.{with_price}
use Rattle.book.proofs.Looks.{part_at, part_is, put_is, allowed-book, allowed-part}
use Rattle.record_write.proofs.Stores.{over_whole}
use Rattle.openings.proofs.store.store_open.Goals as goal

pub slice_bounds-write_open-end : goal.slice_bounds-write_open-end
slice_bounds-write_open-end c = let a = c.args in omega (arith, allowed-book a.book.now a.series c.requires)

pub returns : goal.returns
returns c =
    let a = c.args in
    let book = a.book.now in
    put_is a.series c.write_open.new.part book
    ∙ ap (λ (x : Bytes). replaced a.series x book) (c.write_open.ensures ∙ over_whole (part_at a.series book) _ (allowed-part book a.series c.requires))
    ∙ ap (λ (x : Bytes). replaced a.series (open_record (opening_of a.opening) (stored_of a.state) (with_price (prices_in x) a.slot a.price)) book) (part_is a.series book)
