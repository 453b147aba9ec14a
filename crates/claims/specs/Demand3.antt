-- Demand 3: one claim about every list of entries, of any bytes, given in turn to one zeroed book.
use Rattle.std.specs.Prelude.{ℕ, suc, ◌<◌, ◌≡◌, Bool, true, false, ◌&&◌, ◌||◌, ◌∷◌, ℤ, Option, None, Some}
use Rattle.std.specs.Int.Signed.{le_z}
use Rattle.rules.specs.Log.{Log, ε, ◌▹◌}
use Rattle.rules.specs.Bytes.{Bytes, are_bytes, signed_bytes, fits}
use Rattle.rules.specs.Answers.{Method, Answer, Opened, Used, Wait, Settle, Done, Refused, is_refused, settled}
use Rattle.rules.specs.Series.{Opening, Command, Open, Offer, Ask, Fix, Withdraw}
use Rattle.rules.specs.Record.{series_count}
use Rattle.rules.specs.Entries.{Entry, no_command, command, entry}
use Rattle.rules.specs.Book.{answer_to, run}
use Rattle.rules.specs.Ledger.{opening, taken_events, FairSettle, command_to, commands_to, is_open, ledgers, ledger_answer, book_of}

-- the answer to e, given after the entries of l
abbrev pub answered : Log Bytes → Bytes → Answer
answered l e = answer_to (run l) e

-- P holds of each entry of l and of those before it
abbrev pub Each : (Log Bytes → Bytes → Type 0) → Log Bytes → Type 0
Each P ε = Unit
Each P (l ▹ e) = Each P l × P l e

-- ---- prices

-- a Settle is fair to the ledger of the commands j, on which it was answered
pub record Fair (j : Log Command) (m : Method) (price samples : ℕ) : Type 0 where
  pub opened : Opening
  pub is_opening : opening j ≡ Some opened
  pub settle : FairSettle opened (taken_events j) m price samples

abbrev pub FairAnswer : Log Command → Answer → Type 0
FairAnswer j (Settle m price samples) = Fair j m price samples
FairAnswer j Answer.Void = Unit
FairAnswer j Opened = Unit
FairAnswer j (Used s l f) = Unit
FairAnswer j (Wait t) = Unit
FairAnswer j Done = Unit
FairAnswer j (Refused r) = Unit

-- only a command gives a price, and its ledger is that of its series
abbrev pub FairEntry : Log Bytes → Entry → Answer → Type 0
FairEntry before (no_command r) a = a ≡ Refused r
FairEntry before (command s c) a = FairAnswer (commands_to s before) a

-- ---- Waits

-- the entry that asks series s at the time t
unfoldable pub ask_of : ℕ → ℤ → Bytes
ask_of s t = 0x03 ∷ s ∷ signed_bytes 8 t

abbrev pub is_ask : Command → Bool
is_ask (Open o) = false
is_ask (Offer q now) = false
is_ask (Ask now) = true
is_ask (Fix now) = false
is_ask (Withdraw now i) = false

-- an entry that may stand between the asks of series s: no command of s, an ask, or one that is refused; so no accepted withdraw (#103)
abbrev pub may_stand : Option Command → Answer → Bool
may_stand None a = true
may_stand (Some c) a = is_ask c || is_refused a

-- the entries of l and then those of m
infixl 20 ◌▹▹◌
abbrev pub ◌▹▹◌ : Log Bytes → Log Bytes → Log Bytes
l ▹▹ ε = l
l ▹▹ (m ▹ e) = (l ▹▹ m) ▹ e

-- each of m, given after l, is bytes and may stand between the asks of s
abbrev pub between : ℕ → Log Bytes → Log Bytes → Bool
between s l ε = true
between s l (m ▹ e) = between s l m && (are_bytes e && may_stand (command_to s (entry e)) (answered (l ▹▹ m) e))

-- Asked after l at the time t and then only when its Waits say, s gives at most n Waits and then one answer, the same at every later time.
pub data Settles (s : ℕ) : ℕ → Log Bytes → ℤ → Type 0 where
  stays : {n : ℕ} {l : Log Bytes} {t : ℤ} (a : Answer) → settled a ≡ true
      → ((m : Log Bytes) → between s l m ≡ true → (later : ℤ) → fits later ≡ true → le_z t later ≡ true → answered (l ▹▹ m) (ask_of s later) ≡ a)
      → Settles s n l t
  waits : {n : ℕ} {l : Log Bytes} {t : ℤ} (until : ℤ) → fits until ≡ true → answered l (ask_of s t) ≡ Wait until
      → ((m : Log Bytes) → between s (l ▹ ask_of s t) m ≡ true → Settles s n ((l ▹ ask_of s t) ▹▹ m) until)
      → Settles s (suc n) l t

-- ---- the claim

pub record Demand3 (l : Log Bytes) : Type 0 where
  -- "each series' record is, byte for byte, what 01's ledger reads off the list"
  pub book : run l ≡ book_of (ledgers l)
  -- "each answer is 01's on the ledger before it"
  pub answers : Each (λ before e. answered before e ≡ ledger_answer (ledgers before) (entry e)) l
  -- "each price is the rounded mean of the ledger's prices", and samples is how many these are
  pub prices : Each (λ before e. FairEntry before (entry e) (answered before e)) l
  -- "an open series that is asked only when its Waits say gives at most three Waits and then one answer for good"
  pub three_waits : (s : ℕ) → s < series_count → is_open l s ≡ true → (t : ℤ) → fits t ≡ true → Settles s 3 l t
