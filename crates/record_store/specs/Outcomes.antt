-- The outcome that is stored of a decision by the vote.
use Rattle.std.specs.Prelude.{ℤ}
use Rattle.rules.specs.Answers.{Answer}
use Rattle.rules.specs.Decision.{voted}
use Rattle.rules.specs.Record.{tag_of, samples_of, method_of, price_of}
use Rattle.record_write.specs.declared.record.Outcome.{Outcome}

abbrev pub outcome_of : Answer → ℤ → Outcome
outcome_of a at = record { tag = tag_of voted; samples = samples_of a; method = method_of a; fixing_time = at; price = price_of a }
