use Rattle.journal.proofs.Series.{line_at}
use Rattle.journal.proofs.feed.give.Goals as goal

pub returns : goal.returns
returns c =
    let a = c.args in
    let (n, line, short) = line_at a.out.now a.book.now a.entry.now c.requires c.read-series.ensures c.apply-answer.ensures.0 (c.write_line.ensures.value, c.write_line.ensures.upper_bound) c.unwrap.ensures in
    (n, c.apply-answer.ensures.1, line, short)
