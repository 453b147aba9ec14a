-- Entries given in turn to a book, and the lines of their answers, as far as there is room for them.
use Rattle.std.specs.Prelude.{ℕ, ◌-◌, Bool, true, false, ◌||◌, ◌&&◌, List, [], ◌∷◌, ◌++◌, length, leb, ltb, if◌then◌else◌}
use Rattle.rules.specs.Bytes.{Bytes, concat}
use Rattle.rules.specs.Book.{book_after}
use Rattle.rules.specs.Journal.{line_to}
use Rattle.lines.specs.Lines.{line_max}
use Rattle.journal.specs.Split.{ends, entries_at}
use Rattle.journal.specs.declared.feed.Fed.{Fed}

-- the book after them
abbrev pub book_from : Bytes → List Bytes → Bytes
book_from book [] = book
book_from book (e ∷ es) = book_from (book_after book e) es

-- the lines of their answers
abbrev pub lines_from : Bytes → List Bytes → Bytes
lines_from book [] = []
lines_from book (e ∷ es) = line_to book e ++ lines_from (book_after book e) es

-- none of these lines is longer than line_max
abbrev pub short : Bytes → List Bytes → Bool
short book [] = true
short book (e ∷ es) = leb (length (line_to book e)) line_max && short (book_after book e) es

-- those whose lines fit: before each, there is room for the longest
abbrev pub fitting : ℕ → Bytes → List Bytes → List Bytes
fitting room book [] = []
fitting room book (e ∷ es) =
    if ltb room line_max then [] else e ∷ fitting (room - length (line_to book e)) (book_after book e) es

-- one of them ends the journal
abbrev pub ends_in : List Bytes → Bool
ends_in [] = false
ends_in (e ∷ es) = ends (length e) || ends_in es

-- the entries of a part of a journal that are given to a book, with so much room for their lines
unfoldable pub given : ℕ → Bytes → Bool → Bytes → List Bytes
given room book last part = fitting room book (entries_at last part)

-- what `feed` answers when it gave the entries es to the book
abbrev pub fed_by : Bytes → List Bytes → Fed
fed_by book es = record { taken = length (concat es); written = length (lines_from book es); ended = ends_in es }
