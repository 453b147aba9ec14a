-- Methods, decisions and orders, read as the rules' methods, answers and orders.
use Rattle.std.specs.Prelude.{ℕ, ◌≡◌, Bool, not, ◌&&◌, ℤ, ◌+ℤ◌, drop, ltb, Result, Ok, Err}
use Rattle.rules.specs.Answers as R
use Rattle.rules.specs.Terms.{Terms}
use Rattle.rules.specs.Taking.{Candidates}
use Rattle.rules.specs.Decision.{H, D, window_first, steps, first_of, from}
use Rattle.rules.specs.Decision as Q
use Rattle.core_terms.specs.Errors.{number_of, answered}
use Rattle.core_terms.specs.declared.error.CoreError.{CoreError}
use Rattle.core_decide.specs.declared.decide.SettleMethod.{SettleMethod}
use Rattle.core_decide.specs.declared.decide.SettleMethod.TheVariants as S
use Rattle.core_decide.specs.declared.decide.Decision.{Decision}
use Rattle.core_decide.specs.declared.decide.Decision.TheVariants as D
use Rattle.core_decide.specs.declared.decide.Order.{Order}
use Rattle.core_decide.specs.declared.decide.Order.TheVariants as O

abbrev pub method_of : SettleMethod → R.Method
method_of S.Window = R.Method.Window
method_of S.NextPrint = R.Method.NextPrint
method_of S.PartialNextPrint = R.Method.PartialNextPrint
method_of S.PartialWindow = R.Method.PartialWindow
method_of S.Fallback = R.Method.Fallback
method_of S.Void = R.Method.Void

abbrev pub method_result_of : Result SettleMethod CoreError → R.Result R.Method
method_result_of = answered method_of

-- what a number is read as
abbrev pub IsMethod : ℕ → Result SettleMethod CoreError → Type 0
IsMethod n r = method_result_of r ≡ R.method n

abbrev pub answer_of : Decision → R.Answer
answer_of (D.Settle m price samples) = R.Settle (method_of m) price.0 samples
answer_of D.Void = R.Answer.Void
answer_of (D.Wait until) = R.Wait until

abbrev pub decision_of : Result Decision CoreError → R.Answer
decision_of (Ok d) = answer_of d
decision_of (Err e) = R.Refused (number_of e)

abbrev pub order_of : Order → Q.Order
order_of O.Old = Q.Order.old
order_of O.Voted = Q.Order.voted

-- whether the chain's partial step is taken, with n slots filled and m links: there is a link, and the window is not ahead
abbrev pub chain_first : Q.Order → ℕ → ℕ → Bool
chain_first r n m = ltb 0 m && not (window_first r n m)

-- the decision where the first i of the rules' steps do not apply
abbrev pub decide_from : ℕ → Terms → ℤ → Candidates → ℤ → Q.Order → R.Answer
decide_from i t E c now r = first_of (drop i (steps t E c now r)) (from now (H t E c now +ℤ D t E c now) R.Answer.Void)
