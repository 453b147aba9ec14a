-- The refusals' numbers, and the core's results, read as the rules' results.
use Rattle.std.specs.Prelude.{ℕ, Result, Ok, Err}
use Rattle.rules.specs.Answers as R
use Rattle.core_terms.specs.declared.error.CoreError.{CoreError}
use Rattle.core_terms.specs.declared.error.CoreError.TheVariants as E

abbrev pub number_of : CoreError → ℕ
number_of E.Overflow = 0
number_of E.InvalidDiscriminant = 1
number_of E.InvariantViolated = 11
number_of E.InvalidOracleParams = 12
number_of E.InvalidPrint = 13
number_of E.PrintNotUsable = 14
number_of E.ExponentMismatch = 16
number_of E.ConfidenceTooWide = 17

-- the value as f reads it, or the refusal with its number
abbrev pub answered : {A B : Type 0} → (A → B) → Result A CoreError → R.Result B
answered f (Ok a) = R.ok (f a)
answered f (Err e) = R.refused (number_of e)

abbrev pub result_of : {A : Type 0} → Result A CoreError → R.Result A
result_of = answered (λ a. a)
