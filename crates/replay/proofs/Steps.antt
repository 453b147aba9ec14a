-- One more entry.
use Rattle.std.specs.Prelude.{Some}
use Prim.Native.Nat.{ℕ, ◌+◌}
use mathlib.Core.Path.{◌≡◌, refl}
use mathlib.Core.List.{List}
use native.Mathlib.Numerals.{add-one}
use lib.ListN.{get_or}
use Rattle.rules.specs.Bytes.{Bytes}
use Rattle.rules.specs.Answers.{Answer}
use Rattle.rules.specs.Book.{answer_to, book_after, run}
use Rattle.replay.specs.Entries.{cut, start_of, entries_to, last_answer}

module _ (bs : Bytes) (ends : List ℕ) (i : ℕ) where
  -- a book that the first i entries left, and what it answers to the next
  pub next : {from : ℕ} {book after : Bytes} {a : Answer} → from ≡ start_of ends i → book ≡ run (entries_to bs ends i)
      → a ≡ answer_to book (cut from (get_or ends i 0) bs) → after ≡ book_after book (cut from (get_or ends i 0) bs)
      → (get_or ends i 0 ≡ start_of ends (i + 1)) × (after ≡ run (entries_to bs ends (i + 1))) × (Some a ≡ last_answer (entries_to bs ends (i + 1)))
  next f b r s = rw add-one (refl, (cc), (cc))
