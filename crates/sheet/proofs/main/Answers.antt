use borrow.Author.Rules.{rules}
use Rattle.rules.specs.Bytes.{zeros}
use Rattle.sheet.proofs.main.Goals as goal

pub run-requires-clause-zeroed : goal.run-requires-clause-zeroed
unfolding zeros
run-requires-clause-zeroed c = search rules
