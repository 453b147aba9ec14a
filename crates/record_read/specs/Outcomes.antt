-- What a record stores of a decision.
use Rattle.std.specs.Prelude.{◌≡◌}
use Rattle.rules.specs.Answers.{Answer}
use Rattle.rules.specs.Record.{samples_of, method_of, price_of}
use Rattle.core_decide.specs.Decisions.{answer_of}
use Rattle.core_decide.specs.declared.decide.Decision.{Decision}
use Rattle.record_read.specs.declared.outcome.StoredOutcome.{StoredOutcome}

abbrev pub stored_outcome : Answer → StoredOutcome
stored_outcome a = record { samples = samples_of a; method = method_of a; price = price_of a }

abbrev pub IsStored : Decision → StoredOutcome → Type 0
IsStored d s = s ≡ stored_outcome (answer_of d)
