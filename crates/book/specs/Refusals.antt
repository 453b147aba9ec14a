-- The refusals' numbers, and the core's refusals as the book says them.
use Rattle.std.specs.Prelude.{ℕ, ◌≡◌, eqb, if◌then◌else◌, Result, Ok, Err}
use Rattle.rules.specs.Answers as R
use Rattle.core_terms.specs.Errors.{number_of}
use Rattle.core_terms.specs.declared.error.CoreError.{CoreError}
use Rattle.book.specs.declared.refusal.Refusal.{Refusal}
use Rattle.book.specs.declared.refusal.Refusal.TheVariants as B

abbrev pub refusal_number : Refusal → ℕ
refusal_number B.Overflow = 0
refusal_number B.InvalidDiscriminant = 1
refusal_number B.InvariantViolated = 11
refusal_number B.InvalidOracleParams = 12
refusal_number B.InvalidPrint = 13
refusal_number B.PrintNotUsable = 14
refusal_number B.ExponentMismatch = 16
refusal_number B.ConfidenceTooWide = 17
refusal_number B.UnknownCommand = 32
refusal_number B.WrongWidth = 33
refusal_number B.NoSuchSeries = 34
refusal_number B.WrongBook = 35
refusal_number B.SeriesUsed = 36
refusal_number B.SeriesEmpty = 37
refusal_number B.SeriesFixed = 38
refusal_number B.StillWaiting = 39
refusal_number B.NoSuchSlot = 40
refusal_number B.SlotEmpty = 41

-- the core's number as the book says it: terms out of range make a record that is not acceptable
abbrev pub in_book : ℕ → ℕ
in_book n = if eqb n 12 then 11 else n

-- a refusal is what the book says for one of the core
abbrev pub IsInBook : CoreError → Refusal → Type 0
IsInBook e r = refusal_number r ≡ in_book (number_of e)

-- the value, or the refusal with its number
abbrev pub found_of : {A : Type 0} → Result A Refusal → R.Result A
found_of (Ok a) = R.ok a
found_of (Err r) = R.refused (refusal_number r)
