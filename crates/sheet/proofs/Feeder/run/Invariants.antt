use Rattle.sheet.proofs.Reading.{Started}
use Rattle.sheet.proofs.Feeder.run.Given as goal

abbrev pub invariant-loop : goal.invariant-loop
invariant-loop g l =
    Started l.self (g.R.Read.remaining l.initial.from) (g.R.Read.remaining l.from) (g.W.Write.contents l.initial.to) (g.W.Write.contents l.to)
