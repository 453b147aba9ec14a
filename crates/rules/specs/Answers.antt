-- 01, "What a command answers".
use Rattle.std.specs.Prelude.{ℕ, Bool, true, false, ℤ, eqb, if◌then◌else◌, Option}

-- a value, or a refusal with its number
pub data Result (A : Type 0) : Type 0 where
  ok : A → Result A
  refused : ℕ → Result A

-- "Methods are 0 to 5: Window, NextPrint, PartialNextPrint, PartialWindow, Fallback, Void."
pub data Method : Type 0 where
  Window NextPrint PartialNextPrint PartialWindow Fallback Void : Method

abbrev pub number : Method → ℕ
number Method.Window = 0
number Method.NextPrint = 1
number Method.PartialNextPrint = 2
number Method.PartialWindow = 3
number Method.Fallback = 4
number Method.Void = 5

-- "1 method number above 5"
unfoldable pub method : ℕ → Result Method
method n =
    if eqb n 0 then ok Method.Window else
    if eqb n 1 then ok Method.NextPrint else
    if eqb n 2 then ok Method.PartialNextPrint else
    if eqb n 3 then ok Method.PartialWindow else
    if eqb n 4 then ok Method.Fallback else
    if eqb n 5 then ok Method.Void else
    refused 1

-- "Opened; Used (slot or none, link or none, fallback yes or no); Wait (until); Settle (method, price, samples); Void; or a refusal." #103: Done, which a withdraw answers.
--
-- The refusals. From the input:
--   35 book not 29,184 bytes             12 terms (or an exponent given to the mean) out of range
--   32 unknown command byte              13, 16, 17 print, exponent, confidence
--   33 command empty, or not of its width 1 method number above 5
--   34 series above 63
-- From the state:
--   11 the command's own record not acceptable   0 a time or price that does not fit
--   36 open on a used series                    14 print usable for nothing
--   37 series empty                             39 fix while the decision is Wait
--   38 offer, fix or withdraw on a fixed series
--   40 withdraw of a slot that the series does not have     41 withdraw of an empty slot (#103)
pub data Answer : Type 0 where
  Opened : Answer
  Used : Option ℕ → Option ℕ → Bool → Answer
  Wait : ℤ → Answer
  Settle : Method → ℕ → ℕ → Answer
  Void : Answer
  Done : Answer
  Refused : ℕ → Answer

-- Settle or Void
abbrev pub final : Answer → Bool
final Answer.Opened = false
final (Answer.Used s l f) = false
final (Answer.Wait t) = false
final (Answer.Settle m p n) = true
final Answer.Void = true
final Answer.Done = false
final (Answer.Refused r) = false

abbrev pub is_used : Answer → Bool
is_used Answer.Opened = false
is_used (Answer.Used s l f) = true
is_used (Answer.Wait t) = false
is_used (Answer.Settle m p n) = false
is_used Answer.Void = false
is_used Answer.Done = false
is_used (Answer.Refused r) = false

abbrev pub is_refused : Answer → Bool
is_refused Answer.Opened = false
is_refused (Answer.Used s l f) = false
is_refused (Answer.Wait t) = false
is_refused (Answer.Settle m p n) = false
is_refused Answer.Void = false
is_refused Answer.Done = false
is_refused (Answer.Refused r) = true

-- Settle, Void or refusal 0: what an open series answers an ask for good, after its Waits
abbrev pub settled : Answer → Bool
settled Answer.Opened = false
settled (Answer.Used s l f) = false
settled (Answer.Wait t) = false
settled (Answer.Settle m p n) = true
settled Answer.Void = true
settled Answer.Done = false
settled (Answer.Refused r) = eqb r 0
