use mathlib.Core.Path.{◌≡◌, refl, ap, ◌∙◌}
use native.Mathlib.Omega.{arith}
use lib.ListN.{length, replicate}
use borrow.Author.Tests.{ne_eqb}
use Rattle.rules.specs.Bytes.{zeros}
use Rattle.rules.specs.Record.{book_size}
use Rattle.replay.proofs.Bytes.{claimed}
use Rattle.replay.proofs.Steps.{next}
use Rattle.replay.proofs.replay.Goals as goal

pub returns-then-book-ne-BOOK_SIZE : goal.returns-then-book-ne-BOOK_SIZE
returns-then-book-ne-BOOK_SIZE c =
    let a = c.args in
    rw (ne_eqb (length a.book.now) book_size c.if-book-ne-BOOK_SIZE.true) (refl, refl, claimed a.bytes.now a.ends.now c.type_inv.bytes)

pub loop-to-init : goal.loop-to-init
unfolding zeros
loop-to-init c =
    let s : length c.args.book.now ≡ book_size = omega (arith, c.if-book-ne-BOOK_SIZE.false) in
    (c.fill.ensures.len ∙ s, refl, c.fill.ensures.after (λ y h. h) ∙ ap (λ n. replicate n 0) s, refl)

pub loop-to-preserved : goal.loop-to-preserved
loop-to-preserved c =
    let l = c.loop-to in
    let a = c.args in
    let g = c.give in
    let n = next a.bytes.now a.ends.now l.to-index l.invariant.1 l.invariant.2 g.ensures.0 g.ensures.1 in
    (g.auto.book ∙ l.invariant.0, n.0, n.1, n.2)

pub returns : goal.returns
returns c =
    let l = c.loop-to in
    let a = c.args in
    let s : length a.book.now ≡ book_size = omega (arith, c.if-book-ne-BOOK_SIZE.false) in
    let e : l.to-index ≡ length a.ends.now = omega arith in
    rw s (rw e at l.invariant.3, rw e at l.invariant.2, claimed a.bytes.now a.ends.now c.type_inv.bytes)
