use native.Mathlib.Omega.{arith}
use lib.ListN.{length}
use borrow.Author.Tests.{eq-eqb, ne_eqb, lt-ltb, le-ltb}
use Rattle.rules.specs.Book.{look}
use Rattle.book.proofs.look.look_result.Goals as goal

pub returns-then-book-ne-BOOK_SIZE : goal.returns-then-book-ne-BOOK_SIZE
unfolding look
returns-then-book-ne-BOOK_SIZE c = simp (ne_eqb (length c.args.book.now) 29184 (λ e. omega arith))

pub returns-then-series-ge-SERIES_COUNT : goal.returns-then-series-ge-SERIES_COUNT
unfolding look
returns-then-series-ge-SERIES_COUNT c =
    let a = c.args in
    simp (eq-eqb (length a.book.now) 29184 (omega arith), le-ltb a.series 64 (omega arith))

pub returns : goal.returns
unfolding look
returns c =
    let a = c.args in
    simp (eq-eqb (length a.book.now) 29184 (omega arith), lt-ltb a.series 64 (omega arith))
