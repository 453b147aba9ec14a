-- Each acceptable record has one byte form; a refusal and another series' command change no byte.
use Rattle.std.specs.Prelude.{ℕ, ◌≡◌, Bool, true, ◌&&◌, length, eqb, None}
use Rattle.rules.specs.Log.{Log, all}
use Rattle.rules.specs.Bytes.{Bytes, are_bytes}
use Rattle.rules.specs.Answers.{ok, Refused}
use Rattle.rules.specs.Series.{Series}
use Rattle.rules.specs.Record.{record_size, bytes_of, series_in, stored, series_fits}
use Rattle.rules.specs.Entries.{entry}
use Rattle.rules.specs.Book.{record_at, answer_to, book_after}
use Rattle.rules.specs.Ledger.{command_to, ledgers}

-- 456 bytes
abbrev pub is_record : Bytes → Bool
is_record bs = eqb (length bs) record_size && are_bytes bs

pub record OneForm : Type 0 where
  -- what is written reads back, for every series that fits its fields
  pub written : (s : Series) → series_fits s ≡ true → series_in (bytes_of s) ≡ s
  -- and for every series that commands can leave, whose record is acceptable
  pub left : (l : Log Bytes) → all are_bytes l ≡ true → (s : ℕ) → stored (bytes_of (ledgers l s)) ≡ ok (ledgers l s)
  -- what was read from an acceptable record writes back as the same bytes
  pub read : (bs : Bytes) → is_record bs ≡ true → (s : Series) → stored bs ≡ ok s → bytes_of s ≡ bs
  -- so two acceptable records of one series are equal bytes
  pub one : (cs bs : Bytes) → is_record cs ≡ true → is_record bs ≡ true → (s : Series) → stored cs ≡ ok s → stored bs ≡ ok s → cs ≡ bs

-- a refusal changes no byte, of any book of any length
abbrev pub RefusalKeeps : Type 0
RefusalKeeps = (book e : Bytes) (r : ℕ) → answer_to book e ≡ Refused r → book_after book e ≡ book

-- an entry changes no byte of the record of a series that it is no command of
abbrev pub OthersKeep : Type 0
OthersKeep = (book e : Bytes) (s : ℕ) → command_to s (entry e) ≡ None → record_at s (book_after book e) ≡ record_at s book
