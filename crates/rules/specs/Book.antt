-- The book: 64 records. What an entry is answered on a book of any bytes, and the book after it.
use Rattle.std.specs.Prelude.{ℕ, ◌+◌, ◌*◌, ◌++◌, length, take, drop, not, ltb, eqb, if◌then◌else◌}
use Rattle.rules.specs.Log.{Log, ε, ◌▹◌, maybe}
use Rattle.rules.specs.Bytes.{Bytes, zeros}
use Rattle.rules.specs.Answers.{Result, ok, refused, Answer, Refused}
use Rattle.rules.specs.Series.{Command, Series, step, answer, changed}
use Rattle.rules.specs.Record.{record_size, series_count, book_size, bytes_of, stored}
use Rattle.rules.specs.Entries.{Entry, no_command, command, entry}

-- the record of series s, and the book with another in its place
unfoldable pub record_at : ℕ → Bytes → Bytes
record_at s book = take record_size (drop (s * record_size) book)

unfoldable pub replaced : ℕ → Bytes → Bytes → Bytes
replaced s r book = take (s * record_size) book ++ (r ++ drop (s * record_size + record_size) book)

-- "A look at a series gives back the record's own bytes as a part of the book (35, then 34)"
unfoldable pub look : Bytes → ℕ → Result Bytes
look book s =
    if not (eqb (length book) book_size) then refused 35 else
    if not (ltb s series_count) then refused 34 else
    ok (record_at s book)

-- "Order: 35, 33 if empty, 32, 33, 34, 11"; then the command's own
abbrev pub stored_answer : Result Series → Command → Answer
stored_answer (ok held) c = answer held c
stored_answer (refused r) c = Refused r

abbrev pub answer_in : Bytes → Entry → Answer
answer_in book (no_command r) = Refused r
answer_in book (command s c) = stored_answer (stored (record_at s book)) c

unfoldable pub answer_to : Bytes → Bytes → Answer
answer_to book e = if eqb (length book) book_size then answer_in book (entry e) else Refused 35

-- the record of a series that the command changed is written anew; nothing else changes
abbrev pub written : ℕ → Bytes → Result Series → Command → Bytes
written s book (ok held) c = maybe book (λ next. replaced s (bytes_of next) book) (changed (step held c))
written s book (refused r) c = book

abbrev pub after_in : Bytes → Entry → Bytes
after_in book (no_command r) = book
after_in book (command s c) = written s book (stored (record_at s book)) c

unfoldable pub book_after : Bytes → Bytes → Bytes
book_after book e = if eqb (length book) book_size then after_in book (entry e) else book

-- the entries of a list given in turn to one book, and to a zeroed one
abbrev pub run_on : Bytes → Log Bytes → Bytes
run_on book ε = book
run_on book (l ▹ e) = book_after (run_on book l) e

abbrev pub run : Log Bytes → Bytes
run l = run_on (zeros book_size) l
