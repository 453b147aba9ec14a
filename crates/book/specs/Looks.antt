-- What is said beside a look's bytes.
use Rattle.std.specs.Prelude.{ℕ, ◌≡◌, Result, Ok, Err}
use Rattle.rules.specs.Bytes.{Bytes}
use Rattle.rules.specs.Answers as R
use Rattle.rules.specs.Book.{record_at, look}
use Rattle.book.specs.Refusals.{refusal_number}
use Rattle.book.specs.declared.refusal.Refusal.{Refusal}

-- a value that stands for an a, or a refusal with its number
abbrev pub allowed_as : {A : Type 0} → A → Result Unit Refusal → R.Result A
allowed_as a (Ok u) = R.ok a
allowed_as a (Err r) = R.refused (refusal_number r)

-- series s may be looked at
abbrev pub Allowed : Bytes → ℕ → Type 0
Allowed book s = look book s ≡ R.ok (record_at s book)
