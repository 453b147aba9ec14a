use Rattle.rules.proofs.Bytes.{are_bytes_lem}
use Rattle.record_test.proofs.Statuses.{padded_is}
use Rattle.record_test.proofs.status.is_padded.Goals as goal

pub returns : goal.returns
returns c = padded_is c.args.bytes.now (are_bytes_lem c.args.bytes.now c.type_inv.bytes) c.read.result c.read.ensures
