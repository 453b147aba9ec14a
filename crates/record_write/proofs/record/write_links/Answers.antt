use mathlib.Core.Path.{◌≡◌}
use lib.ListN.{length}
use native.Mathlib.Omega.{arith}
use Rattle.record_write.proofs.Stores.{next_stored}
use borrow.Author.Rules.{rules}
use Rattle.record_write.proofs.record.write_links.Goals as goal

pub loop-i-preserved : goal.loop-i-preserved
loop-i-preserved g c =
    let a = c.args in
    let n = (let h : length c.args.links ≡ 5 = search rules in h) in
    next_stored g.T.LittleEndian.bits a.part.now a.at c.loop-i.i a.links c.x-item.result {q = c.put.new.part} (omega arith) c.loop-i.invariant c.put.ensures
