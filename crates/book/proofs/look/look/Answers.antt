use mathlib.Core.Path.{sym, ap, ◌∙◌}
use mathlib.Core.List.{[]}
use native.Mathlib.Omega.{arith}
use Rattle.core_parts.specs.States.{value_or}
use Rattle.book.proofs.Looks.{part_is, in_book_lem, looked}
use Rattle.book.proofs.look.look.Goals as goal

pub slice_bounds-result-end-2 : goal.slice_bounds-result-end-2
slice_bounds-result-end-2 c = let a = c.args in omega (arith, in_book_lem a.book.now a.series c.in-Ok.ensures)

pub returns : goal.returns
returns c =
    let a = c.args in
    part_is a.series a.book.now ∙ sym (ap (value_or []) (looked a.book.now a.series c.in-Ok.ensures))
