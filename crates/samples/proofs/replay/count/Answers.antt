-- What the two reads consumed is the mark and the number.
use Rattle.std.proofs.Common.{rules, ◌≡◌, Ok}
use Rattle.samples.proofs.Consumed.{consumes_header}
use Rattle.samples.proofs.replay.count.Goals as goal

pub returns-clause-header : goal.returns-clause-header
returns-clause-header g c =
    let e : c.bytes.result ≡ Ok c.in_ok-first.first = search rules in
    let f : c.bytes-2.result ≡ Ok c.in_ok-ok.field-0 = search rules in
    consumes_header _ _ _ c.in_ok-first.first _ c.in_ok-ok.field-0 c.from_le_bytes-n.result (search rules) (search rules) (search rules)
    (search rules) (rw e at c.bytes.ensures) (rw f at c.bytes-2.ensures)
