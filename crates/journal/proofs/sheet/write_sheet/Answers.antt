use Prim.Native.Nat.{◌+◌, ◌/◌}
use Rattle.std.proofs.Common.{rules}
use mathlib.Core.Path.{refl, ap}
use mathlib.Core.Bool.{true}
use native.Mathlib.Omega.{arith}
use Rattle.std.specs.Prelude.{Some}
use lib.ListN.{length}
use borrow.Author.Tests.{lt-leb, le-leb}
use Rattle.rules.specs.Bytes.{zeros}
use Rattle.rules.specs.Record.{book_size}
use Rattle.rules.proofs.Bytes.{are_bytes_lem}
use Rattle.lines.specs.Lines.{line_max}
use Rattle.journal.proofs.Fits.{fed_written}
use Rattle.journal.proofs.Parts.{whole-sheet}
use Rattle.journal.proofs.Whole.{whole_journal}
use Rattle.journal.proofs.sheet.write_sheet.Goals as goal

pub returns-then-out-lines : goal.returns-then-out-lines
returns-then-out-lines c =
    let a = c.args in
    rw (lt-leb (length a.journal.now / 10 + 2) (length a.out.now / line_max) c.if-out-lines.true)
    record {
      value = (refl, refl, whole_journal.demand a.journal.now (are_bytes_lem a.journal.now (search rules)));
      upper_bound = tt;
    }

pub returns : goal.returns
unfolding zeros
returns c =
    let a = c.args in
    let room = c.if-out-lines.false in
    let w = whole-sheet a.journal.now a.out.now (omega (arith, room)) c.feed-fed.ensures in
    rw (le-leb (length a.journal.now / 10 + 2) (length a.out.now / line_max) room)
    record {
      value = (ap Some w.0, w.1, whole_journal.demand a.journal.now (are_bytes_lem a.journal.now (search rules)));
      upper_bound = fed_written true a.journal.now (zeros book_size) a.out.now c.feed-fed.ensures;
    }
