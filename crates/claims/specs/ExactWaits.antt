-- 02, #102: how long the answer to an ask holds, on records and books of any origin.
use Rattle.std.specs.Prelude.{ℕ, ◌<◌, ◌≡◌, true, ℤ}
use Rattle.rules.specs.Bytes.{Bytes, fits}
use Rattle.rules.specs.Answers.{ok, Answer, Wait}
use Rattle.rules.specs.Exact.{Exact, ForGood}
use Rattle.rules.specs.Series.{Opening, Holdings, live, decided}
use Rattle.rules.specs.Record.{series_count, stored}
use Rattle.rules.specs.Entries.{entry}
use Rattle.rules.specs.Book.{answer_to, book_after}
use Rattle.rules.specs.Ledger.{command_to}
use Rattle.claims.specs.Demand3.{ask_of, may_stand}

-- what an ask of series s on this book is answered, by its time
abbrev pub asks : Bytes → ℕ → ℤ → Answer
asks book s at = answer_to book (ask_of s at)

pub record ExactWaits : Type 0 where
  -- the decision on a record that is acceptable and open, whatever made its bytes
  pub decision : (bs : Bytes) (o : Opening) (h : Holdings) → stored bs ≡ ok (live o h)
      → (now until : ℤ) → decided o h.candidates now ≡ Wait until → Exact (decided o h.candidates) now until
  -- an ask of any series of any book: a Wait says by itself that the book has its length, and the record is acceptable and open
  pub asked : (book : Bytes) (s : ℕ) → s < series_count → (now until : ℤ) → fits now ≡ true
      → asks book s now ≡ Wait until → Exact (asks book s) now until
  -- where the answer is no Wait it stays, be it an outcome or a refusal
  pub otherwise : (book : Bytes) (s : ℕ) → s < series_count → (now : ℤ) → fits now ≡ true
      → ((until : ℤ) → asks book s now ≡ Wait until → ⊥) → ForGood (asks book s) now
  -- meanwhile the room goes on: an entry that may stand between the asks of s moves none of their answers
  pub meanwhile : (book e : Bytes) (s : ℕ) → s < series_count → may_stand (command_to s (entry e)) (answer_to book e) ≡ true
      → (at : ℤ) → fits at ≡ true → asks (book_after book e) s at ≡ asks book s at
