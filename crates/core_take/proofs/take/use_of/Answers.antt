use Rattle.std.specs.Prelude.{Option, Some, Result, Err}
use Prim.Native.Nat.{ℕ, ◌+◌}
use mathlib.Core.Path.{◌≡◌, sym, ap, ◌∙◌}
use mathlib.Core.Bool.{true, ◌||◌}
use borrow.Author.Tests.{not-true, not-false}
use borrow.Author.Rules.{rules}
use lib.IntN.{ℤ}
use Rattle.rules.specs.Log.{is_some, maybe}
use Rattle.rules.specs.Answers.{Refused}
use Rattle.rules.specs.Terms.{Terms}
use Rattle.rules.specs.Taking.{slot_for, sum_fits, usable, print_answer}
use Rattle.rules.specs.State.{candidates_of}
use Rattle.core_terms.specs.Errors.{number_of}
use Rattle.core_terms.specs.Params.{terms_of}
use Rattle.core_prices.specs.Prints.{print_of}
use Rattle.core_parts.specs.States.{stored_of}
use Rattle.core_take.specs.Placing.{total_after}
use Rattle.core_take.specs.Uses.{IsUse}
use Rattle.core_take.proofs.Placing.{slot_told, slot-refused, fallback_told, fallback-refused, sum_told, sum_over, no_window, no_lookback, no_sum, no_use, in_use, use_is}
use Rattle.core_parts.specs.declared.state.SettlementParts.{SettlementParts}
use Rattle.core_prices.specs.declared.print.Print.{Print}
use Rattle.core_terms.specs.declared.error.CoreError.{CoreError}
use Rattle.core_uses.specs.declared.uses.PrintUse.{PrintUse}
use Rattle.core_take.proofs.take.use_of.Goals as goal

-- what the sum is, on the slot that was found
sum_is : (t : Terms) (E : ℤ) (s : SettlementParts) (x : Print) (n : ℕ) (i : Option ℕ)
    → i ≡ slot_for t E (candidates_of (stored_of s)) (print_of x) → Some n ≡ total_after (stored_of s).sum i x.price
    → (sum_fits t E (candidates_of (stored_of s)) (print_of x) ≡ true)
    × (n ≡ maybe (stored_of s).sum (λ i. (stored_of s).sum + (print_of x).price) (slot_for t E (candidates_of (stored_of s)) (print_of x)))
unfolding print_of candidates_of
sum_is t E s x n i e f = sum_told t E (candidates_of (stored_of s)) (print_of x) n (rw e at f)

-- the same from a `?`
refused_as : (t : Terms) (E : ℤ) (s : SettlementParts) (x : Print) (n : ℕ) {r : Result (PrintUse × ℕ) CoreError} {e : CoreError} → r ≡ Err e
    → print_answer t E (candidates_of (stored_of s)) (print_of x) ≡ Refused n → number_of e ≡ n → IsUse t E (stored_of s) (print_of x) r
refused_as t E s x n q a h = rw q (a ∙ ap Refused (sym h))

pub returns-in_err-slot : goal.returns-in_err-slot
returns-in_err-slot c =
    let x = c.args.x in
    let t = terms_of x.params in
    let k = candidates_of (stored_of c.args.s) in
    let (f, n) = slot-refused t x.expiry k (print_of x.print) _ c.in_err-slot.ensures in
    refused_as t x.expiry c.args.s x.print 0 (search rules) (no_window t x.expiry k (print_of x.print) f) n

pub returns-in_err-fallback : goal.returns-in_err-fallback
returns-in_err-fallback c =
    let x = c.args.x in
    let t = terms_of x.params in
    let k = candidates_of (stored_of c.args.s) in
    let (f, n) = fallback-refused t x.expiry k (print_of x.print) _ c.in_err-fallback.ensures in
    refused_as t x.expiry c.args.s x.print 0 (search rules) (no_lookback t x.expiry k (print_of x.print) f) n

pub returns-in_default : goal.returns-in_default
unfolding print_of candidates_of
returns-in_default c =
    let x = c.args.x in
    let t = terms_of x.params in
    let k = candidates_of (stored_of c.args.s) in
    let slot = slot_told t x.expiry k (print_of x.print) c.in_ok-slot.slot c.in_ok-slot.ensures in
    no_sum t x.expiry k (print_of x.print) (sum_over t x.expiry k (print_of x.print) (rw slot.1 at c.in_default.ensures))

pub returns-then-not-is_used : goal.returns-then-not-is_used
returns-then-not-is_used c =
    let x = c.args.x in
    let t = terms_of x.params in
    let E = x.expiry in
    let k = candidates_of (stored_of c.args.s) in
    let p = print_of x.print in
    let slot = slot_told t E k p c.in_ok-slot.slot c.in_ok-slot.ensures in
    let fall = fallback_told t E k p c.in_ok-fallback.fallback c.in_ok-fallback.ensures in
    let sum = sum_is t E c.args.s x.print c.in-Some.sum c.in_ok-slot.slot slot.1 c.in-Some.ensures in
    let link = c.try_next_print-next_print.ensures in
    let used : c.is_used.result ≡ usable t E k p = c.is_used.ensures ∙ (λ i. is_some (slot.1 i) || is_some (link i) || fall.1 i) ∙ use_is t E k p in
    no_use t E k p slot.0 fall.0 sum.0 (sym used ∙ not-true c.is_used.result c.if-not-is_used.true-raw)

pub returns : goal.returns
returns c =
    let x = c.args.x in
    let t = terms_of x.params in
    let E = x.expiry in
    let k = candidates_of (stored_of c.args.s) in
    let p = print_of x.print in
    let slot = slot_told t E k p c.in_ok-slot.slot c.in_ok-slot.ensures in
    let fall = fallback_told t E k p c.in_ok-fallback.fallback c.in_ok-fallback.ensures in
    let sum = sum_is t E c.args.s x.print c.in-Some.sum c.in_ok-slot.slot slot.1 c.in-Some.ensures in
    let link = c.try_next_print-next_print.ensures in
    let used : c.is_used.result ≡ usable t E k p = c.is_used.ensures ∙ (λ i. is_some (slot.1 i) || is_some (link i) || fall.1 i) ∙ use_is t E k p in
    (slot.1, link, fall.1, sum.1, in_use t E k p slot.0 fall.0 sum.0 (sym used ∙ not-false c.is_used.result c.if-not-is_used.false-raw))
