-- A command of a series given by itself: 35, 34 and 11 come before the command's own answer.
use Rattle.std.specs.Prelude.{ℕ, ◌≡◌, Result as Outcome}
use Rattle.rules.specs.Bytes.{Bytes}
use Rattle.rules.specs.Answers.{Result, ok, refused, Answer, Opened, Used, Wait, Settle, Done, Refused}
use Rattle.rules.specs.Series.{Command}
use Rattle.rules.specs.Book.{look, stored_answer, written}
use Rattle.core_terms.specs.declared.error.CoreError.{CoreError}
use Rattle.core_decide.specs.Decisions.{decision_of}
use Rattle.core_decide.specs.declared.decide.Decision.{Decision}
use Rattle.book.specs.Refusals.{in_book}
use Rattle.answers.specs.Answers.{answer_of}
use Rattle.answers.specs.declared.answer.Answer as A
use Rattle.record_test.specs.declared.status.Status.{Status}
use Rattle.record_test.specs.declared.status.Status.TheVariants as S
use Rattle.record_test.specs.Statuses.{status_in, stored_at}

abbrev pub answer_at : Bytes → ℕ → Command → Answer
answer_at book s c = stored_answer (stored_at book s) c

abbrev pub after_at : Bytes → ℕ → Command → Bytes
after_at book s c = written s book (stored_at book s) c

-- the record of series s has an open one's form, and is still to be tested
abbrev pub Untested : Bytes → ℕ → Type 0
Untested book s = status_in (look book s) ≡ ok S.Untested

-- what a series is found to be, by a command that needs an open one: 37 on an empty one, 38 on a fixed one
abbrev pub use_of : Result Status → Result Unit
use_of (ok S.Empty) = refused 37
use_of (ok S.Untested) = ok tt
use_of (ok S.Fixed) = refused 38
use_of (refused r) = refused r

abbrev pub book_answer : Answer → Answer
book_answer Opened = Opened
book_answer (Used s l f) = Used s l f
book_answer (Wait t) = Wait t
book_answer (Settle m p n) = Settle m p n
book_answer Answer.Void = Answer.Void
book_answer Done = Done
book_answer (Refused n) = Refused (in_book n)

-- the answer of a core call's result
abbrev pub IsBookAnswer : Outcome Decision CoreError → A.Answer → Type 0
IsBookAnswer r a = answer_of a ≡ book_answer (decision_of r)
