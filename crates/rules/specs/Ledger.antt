-- 01, "Commands": "The ledger, read from the list alone, per series".
use Rattle.std.specs.Prelude.{ℕ, zero, suc, ◌^◌, ◌<◌, ◌≡◌, Bool, not, ◌&&◌, ◌||◌, List, [], ◌++◌, ℤ, pos, ltb, eqb, if◌then◌else◌, Option, None, Some}
use Rattle.std.specs.Int.Signed.{le_z}
use Rattle.rules.specs.Log.{Log, ε, ◌▹◌, is_some, maybe, size, put, all, first, last, last_at, map, first_at, collect, total, Σ<, find, up_to, list_from}
use Rattle.rules.specs.Bytes.{Bytes}
use Rattle.rules.specs.Answers.{Result, ok, refused, Method, number, Answer, Refused, final}
use Rattle.rules.specs.Terms.{good_terms, slots}
use Rattle.rules.specs.Prints.{Print, accept}
use Rattle.rules.specs.Mean.{mean}
use Rattle.rules.specs.Taking.{Candidates, canonical, links, qualifies, times_fit}
use Rattle.rules.specs.Decision.{Order}
use Rattle.rules.specs.Series.{Opening, Command, Open, Offer, Ask, Fix, Withdraw, Holdings, slot_places, Series, empty, live, fixed, decided, answer}
use Rattle.rules.specs.Record.{series_count, bytes_of}
use Rattle.rules.specs.Entries.{Entry, no_command, command, entry}

-- ---- what the list holds for one series

-- "the opening is the first open with good terms"
abbrev pub good_open : Command → Option Opening
good_open (Open o) = if good_terms o.terms then Some o else None
good_open (Offer q now) = None
good_open (Ask now) = None
good_open (Fix now) = None
good_open (Withdraw now i) = None

unfoldable pub opening : Log Command → Option Opening
opening j = first_at (λ ahead c. good_open c) j

-- a taken print, and the now of its offer
pub record Posting : Type 0 where
  pub print : Print
  pub now : ℤ

-- #103: what the slots are read off: a taken print, or a withdraw after the opening, with its now and its slot, refused ones included
pub data Event : Type 0 where
  posted : Posting → Event
  withdrawal : ℤ → ℕ → Event

abbrev pub posting : Event → Option Posting
posting (posted p) = Some p
posting (withdrawal now i) = None

abbrev pub event_now : Event → ℤ
event_now (posted p) = p.now
event_now (withdrawal now i) = now

-- "Taken prints are later offers passing acceptance, before the freeze; none if E − window or E − lookback doesn't fit."
abbrev pub accepted : ℤ → Result Print → Option Event
accepted now (ok p) = Some (posted (record { print = p; now = now }))
accepted now (refused r) = None

-- what a command adds to the events
abbrev pub taken : Option Opening → Command → Option Event
taken None c = None
taken (Some o) (Open q) = None
taken (Some o) (Offer q now) =
    if times_fit o.terms o.expiry then accepted now (accept o.terms.exponent o.bps q) else None
taken (Some o) (Ask now) = None
taken (Some o) (Fix now) = None
taken (Some o) (Withdraw now i) = Some (withdrawal now i)

-- (the freeze cuts them off, in `taken_events` below)
unfoldable pub events : Log Command → Log Event
events j = collect (λ ahead c. taken (opening ahead) c) j

-- the taken prints alone
unfoldable pub prints : Log Event → Log Posting
prints es = collect (λ ahead e. posting e) es

-- ---- the candidates

module _ (o : Opening) where
  -- the first print canonical for slot i
  abbrev pub first_for : ℕ → Log Posting → Option Posting
  first_for i ps = first (λ p. canonical o.terms o.expiry i p.print) ps

  -- #103: the taken prints since slot i was last freed; a withdraw that finds it empty is refused and frees nothing
  unfoldable pub after_withdrawal : Log Event → ℕ → Log Posting
  after_withdrawal ε i = ε
  after_withdrawal (es ▹ posted p) i = after_withdrawal es i ▹ p
  after_withdrawal (es ▹ withdrawal now k) i = if eqb k i && is_some (first_for i (after_withdrawal es i)) then ε else after_withdrawal es i

  -- what slot i holds: of the prints since it was last freed, the first that is canonical for it (#103)
  unfoldable pub holder : Log Event → ℕ → Option Posting
  holder es i = first_for i (after_withdrawal es i)

  -- "The chain is walked in list order by the link rule."
  unfoldable pub chain : Log Posting → Log Posting
  chain ε = ε
  chain (ps ▹ p) = if links o.terms o.expiry (map (λ q. q.print.published) (chain ps)) p.print then chain ps ▹ p else chain ps

  -- "The fallback is the first taken print with the greatest qualifying pub."
  abbrev pub qualified : Posting → Bool
  qualified p = qualifies o.terms o.expiry p.print

  unfoldable pub greatest : Log Posting → Posting → Bool
  greatest ps p = qualified p && all (λ q. not (qualified q) || le_z q.print.published p.print.published) ps

  unfoldable pub fallback : Log Posting → Option Posting
  fallback ps = first (greatest ps) ps

  -- a print that is canonical for an empty slot
  abbrev pub fills_slot : Log Event → Posting → Bool
  fills_slot ahead p = is_some (find (slots o.terms) (λ i. canonical o.terms o.expiry i p.print && not (is_some (holder ahead i))))

  -- #103: window changed follows each print that fills a slot and each withdraw that frees one
  abbrev pub moves_window : Log Event → Event → Bool
  moves_window ahead (posted p) = fills_slot ahead p
  moves_window ahead (withdrawal now i) = ltb i (slots o.terms) && is_some (holder ahead i)

  -- "the sum adds those prices"; changed times: the now of the print that was placed last as a link or as the fallback, and of the event that moved the window last; 0 for none
  unfoldable pub candidates : Log Event → Candidates
  candidates es =
      record {
        bits = Σ< (slots o.terms) (λ i. maybe 0 (λ p. 2 ^ i) (holder es i));
        sum = Σ< (slots o.terms) (λ i. maybe 0 (λ p. p.print.price) (holder es i));
        times = map (λ p. p.print.published) (chain (prints es));
        prices = map (λ p. p.print.price) (chain (prints es));
        fallback_time = maybe (pos 0) (λ p. p.print.published) (fallback (prints es));
        fallback_price = maybe 0 (λ p. p.print.price) (fallback (prints es));
        window_changed = maybe (pos 0) event_now (last_at moves_window es);
        link_changed = maybe (pos 0) (λ p. p.now) (last (chain (prints es)));
        fallback_changed = maybe (pos 0) (λ p. p.now) (fallback (prints es));
      }

  -- #103: the price in each of the 32 places, zero where no print is held
  abbrev pub price_at : Log Event → ℕ → ℕ
  price_at es i = if ltb i (slots o.terms) then maybe 0 (λ p. p.print.price) (holder es i) else 0

  unfoldable pub slot_prices : Log Event → List ℕ
  slot_prices es = list_from 0 slot_places (price_at es)

  abbrev pub holdings : Log Event → Holdings
  holdings es = record { candidates = candidates es; slot_prices = slot_prices es }

-- ---- the freeze

-- a fix, with the commands ahead of it
pub record Freeze : Type 0 where
  pub ahead : Log Command
  pub now : ℤ

-- "The freeze is the first fix after the opening whose decision on the ledger so far is Settle or Void."
abbrev pub decided_on : Option Opening → Log Event → ℤ → Answer
decided_on None es now = Refused 37
decided_on (Some o) es now = decided o (candidates o es) now

abbrev pub freezes : Log Command → Command → Option Freeze
freezes ahead (Open o) = None
freezes ahead (Offer q now) = None
freezes ahead (Ask now) = None
freezes ahead (Fix now) =
    if final (decided_on (opening ahead) (events ahead) now) then Some (record { ahead = ahead; now = now }) else None
freezes ahead (Withdraw now i) = None

unfoldable pub freeze : Log Command → Option Freeze
freeze j = first_at freezes j

-- those ahead of the freeze
unfoldable pub taken_events : Log Command → Log Event
taken_events j = maybe (events j) (λ z. events z.ahead) (freeze j)

-- ---- the series that the ledger says

-- nothing before the opening; then what was opened, open with these candidates; and from the freeze on fixed with its outcome and now, by the vote (#109)
abbrev pub since : Opening → Holdings → Option Freeze → Series
since o h None = live o h
since o h (Some z) = fixed Order.voted o h (decided o h.candidates z.now) z.now

unfoldable pub ledger : Log Command → Series
ledger j = maybe empty (λ o. since o (holdings o (taken_events j)) (freeze j)) (opening j)

-- "Window and PartialWindow take the ledger's slot prices, NextPrint and PartialNextPrint its link prices, Fallback its fallback's price"
unfoldable pub prices_for : Opening → Log Event → Method → Log ℕ
prices_for o es Method.Window = map (λ p. p.print.price) (up_to (slots o.terms) (holder o es))
prices_for o es Method.NextPrint = map (λ p. p.print.price) (chain o (prints es))
prices_for o es Method.PartialNextPrint = map (λ p. p.print.price) (chain o (prints es))
prices_for o es Method.PartialWindow = map (λ p. p.print.price) (up_to (slots o.terms) (holder o es))
prices_for o es Method.Fallback = map (λ p. p.print.price) (put ε (fallback o (prints es)))
prices_for o es Method.Void = ε

-- "each price is the rounded mean of the ledger's prices"; "samples is how many these are"
pub record FairSettle (o : Opening) (es : Log Event) (m : Method) (price samples : ℕ) : Type 0 where
  pub by_price : number m < number Method.Void
  pub counted : samples ≡ size (prices_for o es m)
  pub priced : mean (total (prices_for o es m)) (size (prices_for o es m)) o.terms.exponent ≡ ok price

-- ---- the whole list

-- "the ledger passes over those that are no command of its width or name a series above 63"
abbrev pub command_to : ℕ → Entry → Option Command
command_to s (no_command r) = None
command_to s (command i c) = if eqb s i then Some c else None

unfoldable pub commands_to : ℕ → Log Bytes → Log Command
commands_to s l = collect (λ ahead e. command_to s (entry e)) l

unfoldable pub ledgers : Log Bytes → ℕ → Series
ledgers l s = ledger (commands_to s l)

-- "A series is open after its opening and before its freeze."
abbrev pub is_open : Log Bytes → ℕ → Bool
is_open l s = is_some (opening (commands_to s l)) && not (is_some (freeze (commands_to s l)))

-- "each answer is 01's on the ledger before it"
abbrev pub ledger_answer : (ℕ → Series) → Entry → Answer
ledger_answer b (no_command r) = Refused r
ledger_answer b (command s c) = answer (b s) c

-- the records of the first n series, one after the other
unfoldable pub records : ℕ → (ℕ → Bytes) → Bytes
records zero f = []
records (suc n) f = records n f ++ f n

unfoldable pub book_of : (ℕ → Series) → Bytes
book_of b = records series_count (λ s. bytes_of (b s))
