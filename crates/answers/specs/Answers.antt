-- Answers, read as the rules' answers.
use Rattle.std.specs.Prelude.{◌≡◌}
use Rattle.rules.specs.Answers as R
use Rattle.core_decide.specs.Decisions.{method_of}
use Rattle.core_decide.specs.Decisions as D
use Rattle.core_decide.specs.declared.decide.Decision.{Decision}
use Rattle.book.specs.Refusals.{refusal_number}
use Rattle.answers.specs.declared.answer.Answer.{Answer}
use Rattle.answers.specs.declared.answer.Answer.TheVariants as A

abbrev pub answer_of : Answer → R.Answer
answer_of A.Opened = R.Opened
answer_of (A.Used u) = R.Used u.slot u.next_print u.fallback
answer_of (A.Wait until) = R.Wait until
answer_of (A.Settle m price samples) = R.Settle (method_of m) price.0 samples
answer_of A.Void = R.Answer.Void
answer_of A.Done = R.Done
answer_of (A.Refused r) = R.Refused (refusal_number r)

-- the answer of a decision
abbrev pub IsAnswer : Decision → Answer → Type 0
IsAnswer d a = answer_of a ≡ D.answer_of d
