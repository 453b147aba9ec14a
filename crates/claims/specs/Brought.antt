-- 02, #111: a book that a member brings in, whatever made its bytes.
use Rattle.std.specs.Prelude.{ℕ, ◌<◌, ◌≤◌, ◌≡◌, Bool, true, false, List, ◌∷◌, ◌++◌, length, eqb, if◌then◌else◌}
use Rattle.rules.specs.Log.{every}
use Rattle.rules.specs.Bytes.{Bytes, are_bytes, all_zero, unsigned_at}
use Rattle.rules.specs.Answers.{ok, Refused}
use Rattle.rules.specs.Terms.{terms_tests}
use Rattle.rules.specs.State.{restore_tests}
use Rattle.rules.specs.Series.{Command, Series, after}
use Rattle.rules.specs.Brought.{brought_tests}
use Rattle.rules.specs.Record.{book_size, good_prices, opening_in, parts_in, holdings_in, tag_in, open_tests, fixed_tests, acceptable, stored}
use Rattle.rules.specs.Entries.{command, entry}
use Rattle.rules.specs.Book.{record_at, answer_to, book_after}

-- every condition on a record that is not empty: those of 01 and #103, those of #111, and the rest, which its tag asks
abbrev pub conditions_and : Bytes → List Bool → List Bool
conditions_and bs rest =
    let o = opening_in bs in
    let h = holdings_in bs in
    terms_tests o.terms ++ (restore_tests o.terms (parts_in bs) ++ (eqb (unsigned_at bs 37 3) 0 ∷ good_prices h ∷ (brought_tests o h ++ rest)))

abbrev pub conditions : Bytes → List Bool
conditions bs = conditions_and bs (if eqb (tag_in bs) 1 then open_tests bs else fixed_tests bs)

pub record Brought : Type 0 where
  -- under tag 0 a record is acceptable exactly where all its bytes are zero; under 1, 2 and 3 where each of its conditions holds; under a tag above never
  pub empty : (bs : Bytes) → tag_in bs ≡ 0 → acceptable bs ≡ all_zero bs
  pub tested : (bs : Bytes) → 0 < tag_in bs → tag_in bs ≤ 3 → acceptable bs ≡ every (conditions bs)
  pub above : (bs : Bytes) → 3 < tag_in bs → acceptable bs ≡ false
  -- a record that is not acceptable: every command to its series is refused with 11, and no byte of the book changes
  pub spoilt : (book e : Bytes) → length book ≡ book_size → (s : ℕ) (c : Command) → entry e ≡ command s c
      → acceptable (record_at s book) ≡ false → (answer_to book e ≡ Refused 11) × (book_after book e ≡ book)
  -- a record that is acceptable: after a command it is read as the series after the command
  pub stays : (book e : Bytes) → are_bytes book ≡ true → are_bytes e ≡ true → length book ≡ book_size → (s : ℕ) (c : Command) → entry e ≡ command s c
      → (held : Series) → stored (record_at s book) ≡ ok held → stored (record_at s (book_after book e)) ≡ ok (after held c)
