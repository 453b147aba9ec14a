use lib.ListN.{take}
use native.Mathlib.Omega.{arith}
use Rattle.journal.proofs.Fits.{fed_written}
use Rattle.sheet.proofs.Giving.{taken, short, holds_from}
use Rattle.sheet.proofs.Feeder.give.Goals as goal

pub copy_within-requires-clause-start_le_end : goal.copy_within-requires-clause-start_le_end
copy_within-requires-clause-start_le_end c = omega (arith, taken c.args.last c.args.self.now.book c.args.self.now.part c.args.self.now.out c.args.end (omega arith) c.feed-fed.ensures)

pub overflow_sub-result : goal.overflow_sub-result
overflow_sub-result c = omega (arith, taken c.args.last c.args.self.now.book c.args.self.now.part c.args.self.now.out c.args.end (omega arith) c.feed-fed.ensures)

pub returns-clause-holds : goal.returns-clause-holds
returns-clause-holds c = holds_from c.args.last c.args.self.now.book c.args.self.now.part c.args.self.now.out c.args.end (omega arith) c.feed-fed.ensures (omega arith) (omega arith) c.copy_within.ensures.after (omega arith)

pub returns-clause-written_in_bounds : goal.returns-clause-written_in_bounds
returns-clause-written_in_bounds c = omega (arith, fed_written c.args.last (take c.args.end c.args.self.now.part) c.args.self.now.book c.args.self.now.out c.feed-fed.ensures)

pub returns-clause-held_is_short : goal.returns-clause-held_is_short
returns-clause-held_is_short c = λ l n. omega (arith, short c.args.last c.args.self.now.book c.args.self.now.part c.args.self.now.out c.args.end (omega arith) c.feed-fed.ensures (omega arith) (omega arith) l n)
