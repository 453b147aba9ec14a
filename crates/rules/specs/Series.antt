-- 01, "Commands": what a command answers on a series, and the series after it.
use Rattle.std.specs.Prelude.{ℕ, not, List, get_or, set, replicate, ℤ, pos, leb, if◌then◌else◌, Option, None, Some}
use Rattle.rules.specs.Log.{ε, maybe}
use Rattle.rules.specs.Answers.{Result, Answer, Opened, Wait, Done, Refused, final, is_used}
use Rattle.rules.specs.Terms.{Terms, slots, good_terms}
use Rattle.rules.specs.Prints.{Print, Quote, accept}
use Rattle.rules.specs.Taking.{Candidates, bit, vacate, offer_answer, offer_placed, offer_priced}
use Rattle.rules.specs.Decision.{Order, decide_by, decide}

-- what a series is opened with: the terms, max bps and E
pub record Opening : Type 0 where
  pub terms : Terms
  pub bps : ℕ
  pub expiry : ℤ

-- an offer, an ask, a fix and a withdraw come with their now, a withdraw with the number of its slot too
pub data Command : Type 0 where
  Open : Opening → Command
  Offer : Quote → ℤ → Command
  Ask : ℤ → Command
  Fix : ℤ → Command
  Withdraw : ℤ → ℕ → Command

-- #103: the candidates, and beside them the price that each slot was filled with, zero for an empty one
pub record Holdings : Type 0 where
  pub candidates : Candidates
  pub slot_prices : List ℕ

-- the most slots that terms can have
abbrev pub slot_places : ℕ
slot_places = 32

-- a fixed series has the order that it was decided by, its outcome and its fixing time
pub data Series : Type 0 where
  empty : Series
  live : Opening → Holdings → Series
  fixed : Order → Opening → Holdings → Answer → ℤ → Series

-- "Candidates zero."
abbrev pub no_candidates : Candidates
no_candidates =
    record {
      bits = 0;
      sum = 0;
      times = ε;
      prices = ε;
      fallback_time = pos 0;
      fallback_price = 0;
      window_changed = pos 0;
      link_changed = pos 0;
      fallback_changed = pos 0;
    }

-- and no slot price
abbrev pub no_holdings : Holdings
no_holdings = record { candidates = no_candidates; slot_prices = replicate slot_places 0 }

-- the answer, with the series after it where it is another
pub data Step : Type 0 where
  keeps : Answer → Step
  leaves : Answer → Series → Step

abbrev pub answer_of : Step → Answer
answer_of (keeps a) = a
answer_of (leaves a next) = a

abbrev pub changed : Step → Option Series
changed (keeps a) = None
changed (leaves a next) = Some next

-- the decision on a series that was opened so; #109: by an order, and by the vote
abbrev pub decided_by : Order → Opening → Candidates → ℤ → Answer
decided_by r o c now = decide_by o.terms o.expiry c now r

abbrev pub decided : Opening → Candidates → ℤ → Answer
decided o c now = decide o.terms o.expiry c now

-- the candidates and the slot prices after an offered print
abbrev pub offer_held : Opening → Holdings → ℤ → Result Print → Holdings
offer_held o h now x =
    let c = h.candidates in
    record { candidates = offer_placed o.terms o.expiry c x now; slot_prices = offer_priced o.terms o.expiry c h.slot_prices x }

-- "offer then acceptance, 0, 14"
abbrev pub offered : Opening → Holdings → ℤ → Result Print → Step
offered o h now x =
    let a = offer_answer o.terms o.expiry h.candidates x in
    if is_used a then leaves a (live o (offer_held o h now x)) else keeps a

-- "39 fix while the decision is Wait"
abbrev pub waiting : Answer → Answer
waiting (Wait t) = Refused 39
waiting Opened = Opened
waiting (Answer.Used s l f) = Answer.Used s l f
waiting (Answer.Settle m p n) = Answer.Settle m p n
waiting Answer.Void = Answer.Void
waiting Done = Done
waiting (Refused r) = Refused r

-- a Settle or a Void is kept with its now, and answered; #109: as decided by the vote
abbrev pub fixing : Opening → Holdings → ℤ → Answer → Step
fixing o h now a = if final a then leaves a (fixed Order.voted o h a now) else keeps (waiting a)

-- #103: slot i is empty again, and its price is off the sum
unfoldable pub withdrawn : Holdings → ℤ → ℕ → Holdings
withdrawn h now i =
    record { candidates = vacate h.candidates i (get_or h.slot_prices i 0) now; slot_prices = set h.slot_prices i 0 }

-- #103: 40 for a number that is no slot of the series, then 41 for a slot that holds nothing
abbrev pub withdrawing : Opening → Holdings → ℤ → ℕ → Step
withdrawing o h now i =
    if leb (slots o.terms) i then keeps (Refused 40) else
    if not (bit i h.candidates.bits) then keeps (Refused 41) else
    leaves Done (live o (withdrawn h now i))

-- "open then 36, 12; the others 37, then 38; offer then acceptance, 0, 14; ask then 0; fix then 0, 39"; withdraw then 40, 41
unfoldable pub step : Series → Command → Step
step empty (Open o) = if good_terms o.terms then leaves Opened (live o no_holdings) else keeps (Refused 12)
step empty (Offer q now) = keeps (Refused 37)
step empty (Ask now) = keeps (Refused 37)
step empty (Fix now) = keeps (Refused 37)
step empty (Withdraw now i) = keeps (Refused 37)
step (live o h) (Open q) = keeps (Refused 36)
step (live o h) (Offer q now) = offered o h now (accept o.terms.exponent o.bps q)
step (live o h) (Ask now) = keeps (decided o h.candidates now)
step (live o h) (Fix now) = fixing o h now (decided o h.candidates now)
step (live o h) (Withdraw now i) = withdrawing o h now i
step (fixed r o h a at) (Open q) = keeps (Refused 36)
step (fixed r o h a at) (Offer q now) = keeps (Refused 38)
step (fixed r o h a at) (Ask now) = keeps a
step (fixed r o h a at) (Fix now) = keeps (Refused 38)
step (fixed r o h a at) (Withdraw now i) = keeps (Refused 38)

abbrev pub answer : Series → Command → Answer
answer s c = answer_of (step s c)

abbrev pub after : Series → Command → Series
after s c = maybe s (λ next. next) (changed (step s c))
