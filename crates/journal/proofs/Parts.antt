-- A journal read in parts, wherever it is cut.
use Rattle.std.specs.Prelude.{if◌then◌else◌}
use Prim.Native.Nat.{◌+◌, ◌*◌, ◌≤◌}
use mathlib.Core.Path.{◌≡◌, refl, sym, ap, ◌∙◌}
use mathlib.Core.Bool.{Bool, true, false, ◌||◌}
use mathlib.Core.List.{List, [], ◌∷◌, ◌++◌, append-nil, append_assoc}
use native.Mathlib.Omega.{arith}
use lib.Dec.{eqb}
use lib.ListN.{length, take, drop, length-append}
use lib.Seq.{sets, sets-eq, take-append_seam, drop-append-le, drop-drop}
use Rattle.rules.specs.Log.{Log, ε, ◌▹◌, puts}
use Rattle.rules.specs.Bytes.{Bytes, zeros, concat}
use Rattle.rules.specs.Record.{book_size}
use Rattle.rules.specs.Book.{book_after, run}
use Rattle.rules.specs.Journal.{line_to, commands_in, journal_entries, sheet}
use Rattle.rules.proofs.Bools.{not_both}
use Rattle.lines.specs.Lines.{line_max}
use Rattle.journal.specs.Split.{entries_in, entries_at}
use Rattle.journal.specs.Feed.{book_from, lines_from, ends_in, given}
use Rattle.journal.specs.declared.feed.Fed.{Fed}
use Rattle.journal.specs.Parts.{Reader, reads, read_all, joined, finish, AnyParts}
use Rattle.journal.proofs.Entries.{split, unique, taken_within, left-short, split_ended, split_append}
use Rattle.journal.proofs.Given.{Feeds}
use Rattle.journal.proofs.Whole.{whole_in}
use Rattle.journal.proofs.Fits.{written_within, all_fit}

-- ---- entries, and then others

book-append : (book : Bytes) (es fs : List Bytes) → book_from book (es ++ fs) ≡ book_from (book_from book es) fs
book-append book [] fs = refl
book-append book (e ∷ es) fs = book-append (book_after book e) es fs

lines-append : (book : Bytes) (es fs : List Bytes) → lines_from book (es ++ fs) ≡ lines_from book es ++ lines_from (book_from book es) fs
lines-append book [] fs = refl
lines-append book (e ∷ es) fs = rw (lines-append (book_after book e) es fs, append_assoc)

ends-append : (es fs : List Bytes) → ends_in es ≡ false → ends_in (es ++ fs) ≡ ends_in fs
ends-append [] fs h = refl
ends-append (e ∷ es) fs h = go (eqb (length e) 1) h (ends-append es fs)
  where
    go : (t : Bool) → t || ends_in es ≡ false → (ends_in es ≡ false → ends_in (es ++ fs) ≡ ends_in fs) → t || ends_in (es ++ fs) ≡ ends_in fs
    go true h on = cc
    go false h on = on h

taken-append : (es fs : List Bytes) → length (concat (es ++ fs)) ≡ length (concat es) + length (concat fs)
taken-append [] fs = omega arith
taken-append (e ∷ es) fs = omega (arith, length-append e (concat (es ++ fs)), length-append e (concat es), taken-append es fs)

run-puts : (l : Log Bytes) (es : List Bytes) → run (puts l es) ≡ book_from (run l) es
run-puts l [] = refl
run-puts l (e ∷ es) = run-puts (l ▹ e) es

sheet-puts : (l : Log Bytes) (es : List Bytes) → sheet (puts l es) ≡ sheet l ++ lines_from (run l) es
sheet-puts l [] = sym (append-nil (sheet l))
sheet-puts l (e ∷ es) = sheet-puts (l ▹ e) es ∙ append_assoc (sheet l) (line_to (run l) e) (lines_from (book_after (run l) e) es)

-- ---- a reader

-- it has read the bytes j, the last ones or not
record Has (last : Bool) (j : Bytes) (r : Reader) : Type 0 where
  book : r.book ≡ book_from (zeros book_size) (entries_at last j)
  lines : r.lines ≡ lines_from (zeros book_size) (entries_at last j)
  ended : r.ended ≡ ends_in (entries_at last j)
  held : r.ended ≡ false → r.held ≡ drop (length (concat (entries_at last j))) j

module _ (last : Bool) (j bytes : Bytes) where
  -- what it holds, and what comes
  abbrev part : Bytes
  part = drop (length (concat (entries_at false j))) j ++ bytes

  abbrev ahead : List Bytes
  ahead = entries_at false j

  abbrev here : List Bytes
  here = entries_at last part

  entries-append : ends_in ahead ≡ false → entries_at last (j ++ bytes) ≡ ahead ++ here
  entries-append n = unique (split_append bytes (split false j) n (split last part))

  left-append : ends_in ahead ≡ false → drop (length (concat here)) part ≡ drop (length (concat (entries_at last (j ++ bytes)))) (j ++ bytes)
  left-append n =
      let h : length (concat ahead) ≤ length j = taken_within (split false j) in
      rw (entries-append n, taken-append ahead here, ← drop-drop (length (concat here)) (length (concat ahead)) (j ++ bytes), drop-append-le (length (concat ahead)) j bytes h)

  has_next : ends_in ahead ≡ false
      → Has last (j ++ bytes)
      (record {
        book = book_from (book_from (zeros book_size) ahead) here;
        held = drop (length (concat here)) part;
        lines = lines_from (zeros book_size) ahead ++ lines_from (book_from (zeros book_size) ahead) here;
        ended = ends_in here;
      })
  has_next n =
      record {
        book = sym (ap (book_from (zeros book_size)) (entries-append n) ∙ book-append (zeros book_size) ahead here);
        lines = sym (ap (lines_from (zeros book_size)) (entries-append n) ∙ lines-append (zeros book_size) ahead here);
        ended = sym (ap ends_in (entries-append n) ∙ ends-append ahead here n);
        held = λ f. left-append n;
      }

  next : (r : Reader) → Has false j r → Has last (j ++ bytes) (reads last r bytes)
  unfolding reads
  next r h = go r.ended refl
    where
      go : (b : Bool) → r.ended ≡ b
          → Has last (j ++ bytes) (if b then r else
          record {
            book = book_from r.book (entries_at last (r.held ++ bytes));
            held = drop (length (concat (entries_at last (r.held ++ bytes)))) (r.held ++ bytes);
            lines = r.lines ++ lines_from r.book (entries_at last (r.held ++ bytes));
            ended = ends_in (entries_at last (r.held ++ bytes));
          })
      go true e =
          let q : entries_at false j ≡ entries_at last (j ++ bytes) = sym (unique (split_ended bytes (split false j) (sym h.ended ∙ e))) in
          record {
            book = h.book ∙ ap (book_from (zeros book_size)) q;
            lines = h.lines ∙ ap (lines_from (zeros book_size)) q;
            ended = h.ended ∙ ap ends_in q;
            held = λ f. absurd (not_both e f);
          }
      go false e = rw (h.held e, h.book, h.lines) (has_next (sym h.ended ∙ e))

has_read : (l : Log Bytes) → Has false (joined l) (read_all l)
unfolding entries_in
has_read ε = record { book = refl; lines = refl; ended = refl; held = λ e. refl }
has_read (l ▹ bytes) = next false (joined l) bytes (read_all l) (has_read l)

has_all : (l : Log Bytes) → Has true (joined l) (finish l)
has_all l = rw append-nil at (next true (joined l) [] (read_all l) (has_read l))

pub any_parts : AnyParts
unfolding journal_entries
any_parts =
    record {
      lines = λ l. (has_all l).lines ∙ sym (sheet-puts ε (entries_at true (joined l))) ∙ ap (λ (es : List Bytes). sheet (puts ε es)) (whole_in (length (joined l)) (joined l));
      book = λ l. (has_all l).book ∙ sym (run-puts ε (entries_at true (joined l))) ∙ ap (λ (es : List Bytes). run (puts ε es)) (whole_in (length (joined l)) (joined l));
      held = λ l e. rw ((has_read l).held e) (left-short (split false (joined l)) (sym (has_read l).ended ∙ e));
    }

-- ---- `feed`

pub front : (ls out : Bytes) → length ls ≤ length out → take (length ls) (sets out 0 ls) ≡ ls
front ls out h = ap (take (length ls)) (sets-eq ls out 0 (omega arith)) ∙ take-append_seam ls (drop (0 + length ls) out)

-- with room enough it does what a reader does with the bytes that come
pub fed_reads : (last : Bool) (r : Reader) (bytes out : Bytes) {f : Fed} {book₁ out₁ : Bytes} → r.ended ≡ false
    → line_max * (length (r.held ++ bytes) + 9) ≤ 10 * length out
    → Feeds (given (length out) r.book last (r.held ++ bytes)) r.book out f book₁ out₁
    → reads last r bytes
    ≡ record { book = book₁; held = drop f.taken (r.held ++ bytes); lines = r.lines ++ take f.written out₁; ended = f.ended }
unfolding reads
fed_reads last r bytes out e h fed =
    let part = r.held ++ bytes in
    let w = written_within (length out) r.book last part fed.3 in
    let q = all_fit (length out) r.book last part fed.3 h in
    rw (e, fed.0, fed.1, fed.2, front (lines_from r.book (given (length out) r.book last part)) out w, q)

-- on a zeroed book it writes the sheet of a whole journal
pub whole-sheet : (j out : Bytes) {f : Fed} {book₁ out₁ : Bytes} → line_max * (length j + 9) ≤ 10 * length out
    → Feeds (given (length out) (zeros book_size) true j) (zeros book_size) out f book₁ out₁
    → (f.written ≡ length (sheet (journal_entries j))) × (out₁ ≡ sets out 0 (sheet (journal_entries j)))
unfolding journal_entries
whole-sheet j out h fed =
    let q = all_fit (length out) (zeros book_size) true j fed.3 h ∙ whole_in (length j) j in
    let s : lines_from (zeros book_size) (given (length out) (zeros book_size) true j) ≡ sheet (journal_entries j) =
    ap (lines_from (zeros book_size)) q ∙ sym (sheet-puts ε (commands_in (length j) j)) in
    (ap (λ (r : Fed). r.written) fed.0 ∙ ap length s, fed.2 ∙ ap (sets out 0) s)
