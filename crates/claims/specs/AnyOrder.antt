-- 02, #104: two firms post the same prints, each in its own order.
use Rattle.std.specs.Prelude.{ℕ, ◌<◌, ◌≡◌, true, length, Some}
use Rattle.rules.specs.Log.{Log, Among, size, all}
use Rattle.rules.specs.Bytes.{Bytes, are_bytes, zeros}
use Rattle.rules.specs.Answers.{Method, Settle}
use Rattle.rules.specs.Prints.{Quote}
use Rattle.rules.specs.Series.{Opening, Command, Holdings, Series, live, answer}
use Rattle.rules.specs.Record.{record_size, series_count, book_size, bytes_of, opening_in, holdings_in}
use Rattle.rules.specs.Entries.{command, entry}
use Rattle.rules.specs.Book.{record_at, answer_to, run_on}
use Rattle.rules.specs.Ledger.{opening, commands_to, ledgers}
use Rattle.rules.specs.Feed.{is_feed, offers, not_fixed_or_freed, Posted, SameOffers, without_arrival, part, bytes_without_arrival, beside_chain}

-- ---- a firm's upload

-- A list of entries, and a book in which the place of one series is empty: never used, or empty again. What else the book holds, and what made it, does not matter.
pub record Upload : Type 0 where
  pub entries : Log Bytes
  pub series : ℕ
  pub book : Bytes
  pub are_entries : all are_bytes entries ≡ true
  pub whole : length book ≡ book_size
  pub empty : record_at series book ≡ zeros record_size

-- the commands to the series, what the ledger reads off them, and the book and the record after the list
abbrev pub commands_of : Upload → Log Command
commands_of u = commands_to u.series u.entries

abbrev pub ledger_of : Upload → Series
ledger_of u = ledgers u.entries u.series

abbrev pub book_left : Upload → Bytes
book_left u = run_on u.book u.entries

abbrev pub record_left : Upload → Bytes
record_left u = record_at u.series (book_left u)

-- ---- two uploads

-- both open as o and post the same prints of one feed, with no fix and no withdraw accepted
pub record SamePrints (u w : Upload) (feed : Log Quote) (o : Opening) : Type 0 where
  pub is_one_feed : is_feed feed ≡ true
  pub one : Posted feed o (commands_of u)
  pub other : Posted feed o (commands_of w)
  pub same_offers : SameOffers (commands_of u) (commands_of w)

-- Two series that are open as o, and equal but for what follows arrival. Of the chain that is how far it goes: with as many links it is the same.
pub record Agree (o : Opening) (a b : Series) : Type 0 where
  pub one : Holdings
  pub other : Holdings
  pub is_one : a ≡ live o one
  pub is_other : b ≡ live o other
  pub equal : without_arrival one ≡ without_arrival other
  pub chains : size one.candidates.times ≡ size other.candidates.times
      → (one.candidates.times ≡ other.candidates.times) × (one.candidates.prices ≡ other.candidates.prices)

-- ---- the claim

-- It does not say how many links there are, nor when a candidate changed, nor what is answered on the way: a print that the one uses, the other may refuse.
-- So which method settles, and from when, may differ.
pub record AnyOrder : Type 0 where
  -- every place of a zeroed book is empty
  pub zeroed : (s : ℕ) → s < series_count → record_at s (zeros book_size) ≡ zeros record_size
  -- a series that begins in an empty place, of a book of any origin: its record is the ledger's, and so is the answer to its next command
  pub left : (u : Upload) → record_left u ≡ bytes_of (ledger_of u)
  pub answers : (u : Upload) (e : Bytes) (c : Command) → entry e ≡ command u.series c → answer_to (book_left u) e ≡ answer (ledger_of u) c
  -- the same prints in two orders: the ledgers agree in the slots, their prices, the sum and the fallback's time and price
  pub ledgers_agree : (u w : Upload) (feed : Log Quote) (o : Opening) → SamePrints u w feed o → Agree o (ledger_of u) (ledger_of w)
  -- and the records in every byte but those of the chain and of the changed times; in those of the chain too, where byte 3 has as many links
  pub records_agree : (u w : Upload) (feed : Log Quote) (o : Opening) → SamePrints u w feed o → bytes_without_arrival (record_left u) ≡ bytes_without_arrival (record_left w)
  pub chains_agree : (u w : Upload) (feed : Log Quote) (o : Opening) → SamePrints u w feed o
      → part 3 1 (record_left u) ≡ part 3 1 (record_left w) → part 64 80 (record_left u) ≡ part 64 80 (record_left w)
  -- two outcomes without the chain are one, whenever each is asked or fixed: Void, or method, price and samples
  pub one_outcome : (u w : Upload) (feed : Log Quote) (o : Opening) → SamePrints u w feed o
      → (c d : Command) → beside_chain (answer (ledger_of u) c) ≡ true → beside_chain (answer (ledger_of w) d) ≡ true → answer (ledger_of u) c ≡ answer (ledger_of w) d
  -- and two settlements by one method, the chain's too, have one price where they have as many samples
  pub one_price : (u w : Upload) (feed : Log Quote) (o : Opening) → SamePrints u w feed o
      → (m : Method) (c d : Command) (p q n : ℕ) → answer (ledger_of u) c ≡ Settle m p n → answer (ledger_of w) d ≡ Settle m q n → p ≡ q
  -- whoever finds the bytes without arrival equal in two records has the same opening in both, and the same of what is held
  pub matched : (bs cs : Bytes) → bytes_without_arrival bs ≡ bytes_without_arrival cs
      → (opening_in bs ≡ opening_in cs) × (without_arrival (holdings_in bs) ≡ without_arrival (holdings_in cs))
  -- the plain case: the same offers in both, refused ones included, and all of them of the feed
  pub plain : (u w : Upload) (feed : Log Quote) (o : Opening) → is_feed feed ≡ true
      → opening (commands_of u) ≡ Some o → opening (commands_of w) ≡ Some o → not_fixed_or_freed (commands_of u) ≡ true → not_fixed_or_freed (commands_of w) ≡ true
      → ((q : Quote) → Among q (offers (commands_of u)) → Among q feed)
      → ((q : Quote) → Among q (offers (commands_of u)) → Among q (offers (commands_of w))) → ((q : Quote) → Among q (offers (commands_of w)) → Among q (offers (commands_of u)))
      → SamePrints u w feed o
