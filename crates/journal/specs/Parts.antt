-- A journal that is read in parts, wherever it is cut: what a reader has after each of them.
use Rattle.std.specs.Prelude.{◌<◌, ◌≡◌, Bool, true, false, [], ◌++◌, length, drop, if◌then◌else◌}
use Rattle.rules.specs.Log.{Log, ε, ◌▹◌}
use Rattle.rules.specs.Bytes.{Bytes, zeros, concat}
use Rattle.rules.specs.Record.{book_size}
use Rattle.rules.specs.Book.{run}
use Rattle.rules.specs.Journal.{journal_entries, sheet}
use Rattle.journal.specs.Split.{entries_at}
use Rattle.journal.specs.Feed.{book_from, lines_from, ends_in}

-- the book, the bytes that no entry has taken yet, the lines so far, and whether the journal has ended
pub record Reader : Type 0 where
  pub book : Bytes
  pub held : Bytes
  pub lines : Bytes
  pub ended : Bool

-- a reader that goes on with a book
abbrev pub on : Bytes → Reader
on book = record { book = book; held = []; lines = []; ended = false }

-- after more bytes; last says that none follow
unfoldable pub reads : Bool → Reader → Bytes → Reader
reads last r bytes =
    let part = r.held ++ bytes in
    let es = entries_at last part in
    if r.ended then r else
    record {
      book = book_from r.book es;
      held = drop (length (concat es)) part;
      lines = r.lines ++ lines_from r.book es;
      ended = ends_in es;
    }

-- after each of the parts, of which more may follow
abbrev pub read_all : Log Bytes → Reader
read_all ε = on (zeros book_size)
read_all (l ▹ bytes) = reads false (read_all l) bytes

-- the journal that they are parts of
abbrev pub joined : Log Bytes → Bytes
joined ε = []
joined (l ▹ bytes) = joined l ++ bytes

-- the reader when there is nothing more to read
abbrev pub finish : Log Bytes → Reader
finish l = reads true (read_all l) []

pub record AnyParts : Type 0 where
  -- the lines are the sheet of the whole journal, and the book is what its entries leave
  pub lines : (l : Log Bytes) → (finish l).lines ≡ sheet (journal_entries (joined l))
  pub book : (l : Log Bytes) → (finish l).book ≡ run (journal_entries (joined l))
  -- what a reader has to hold is shorter than the longest command
  pub held : (l : Log Bytes) → (read_all l).ended ≡ false → length (read_all l).held < 46
