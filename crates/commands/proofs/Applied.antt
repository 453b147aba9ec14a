-- An entry of any bytes given to a book.
use Prim.Native.Nat.{ℕ, ◌<◌}
use mathlib.Core.Path.{◌≡◌, refl, sym, ap}
use lib.ListN.{length}
use lib.IntN.{ℤ}
use borrow.Author.Tests.{lt-ltb, ne_eqb}
use Rattle.rules.specs.Bytes.{Bytes}
use Rattle.rules.specs.Answers.{Result, ok, refused, Refused}
use Rattle.rules.specs.Series.{Command, Ask, Series, empty, live, fixed, step}
use Rattle.rules.specs.Record.{book_size, series_count, stored}
use Rattle.rules.specs.Entries.{no_command, command, entry}
use Rattle.rules.specs.Book.{record_at, look, stored_answer, answer_to, written, book_after}
use Rattle.record_test.specs.Statuses.{stored_at}
use Rattle.commands.proofs.Entries.{entry-below}
use Rattle.answers.specs.Commands.{answer_at, after_at}

-- an ask changes nothing
pub asked : (book : Bytes) (s : ℕ) (now : ℤ) → after_at book s (Ask now) ≡ book
unfolding step
asked book s now = go (stored_at book s)
  where
    go : (x : Result Series) → written s book x (Ask now) ≡ book
    go (ok empty) = refl
    go (ok (live o c)) = refl
    go (ok (fixed r o c a at)) = refl
    go (refused n) = refl

module _ (book e : Bytes) where
  -- 35
  pub no_book : (length book ≡ book_size → ⊥) → (Refused 35 ≡ answer_to book e) × (book ≡ book_after book e)
  unfolding answer_to book_after
  no_book h = rw (ne_eqb (length book) book_size h) (refl, refl)

  module _ (h : length book ≡ book_size) where
    -- 33, 32, 33, 34
    pub no_command_lem : (n : ℕ) → no_command n ≡ entry e → (Refused n ≡ answer_to book e) × (book ≡ book_after book e)
    unfolding answer_to book_after
    no_command_lem n k = rw (h, ← k) (refl, refl)

    at_record : (s : ℕ) → s < series_count → stored_at book s ≡ stored (record_at s book)
    unfolding look
    at_record s l = rw (h, lt-ltb s series_count l)

    pub by_command : (s : ℕ) (c : Command) → command s c ≡ entry e → (answer_at book s c ≡ answer_to book e) × (after_at book s c ≡ book_after book e)
    unfolding answer_to book_after
    by_command s c k =
        let r = at_record s (entry-below e s c (sym k)) in
        rw (h, ← k) (ap (λ (x : Result Series). stored_answer x c) r, ap (λ (x : Result Series). written s book x c) r)
