-- What a caller of `feed` can count on: nothing is taken or written past an end, and with room enough every entry is given.
use Rattle.std.specs.Prelude.{if◌then◌else◌}
use Prim.Native.Nat.{ℕ, ◌+◌, ◌*◌, ◌-◌, ◌≤◌, ◌<◌}
use mathlib.Core.Path.{◌≡◌, refl, ap}
use mathlib.Core.Bool.{Bool, true, false}
use mathlib.Core.List.{List, [], ◌∷◌, ◌++◌}
use native.Mathlib.Omega.{arith}
use lib.Dec.{leb, ltb}
use lib.ListN.{length, length-append, length-drop}
use borrow.Author.Tests.{leb-true, ltb-true, ltb-false}
use Rattle.rules.proofs.Bools.{both}
use Rattle.rules.specs.Bytes.{Bytes, concat}
use Rattle.rules.specs.Book.{book_after}
use Rattle.rules.specs.Journal.{line_to}
use Rattle.lines.specs.Lines.{line_max}
use Rattle.journal.specs.Split.{entries_at}
use Rattle.journal.specs.Feed.{lines_from, short, fitting, ends_in, given, fed_by}
use Rattle.journal.specs.declared.feed.Fed.{Fed}
use Rattle.journal.proofs.Entries as E
use Rattle.journal.proofs.Entries.{split}
use Rattle.journal.proofs.Given.{Feeds}

-- ---- entries whose lines fit

fitting-taken : (room : ℕ) (book : Bytes) (es : List Bytes) → length (concat (fitting room book es)) ≤ length (concat es)
fitting-taken room book [] = omega arith
fitting-taken room book (e ∷ es) = go (ltb room line_max) (fitting-taken (room - length (line_to book e)) (book_after book e) es)
  where
    fs : List Bytes
    fs = fitting (room - length (line_to book e)) (book_after book e) es

    go : (t : Bool) → length (concat fs) ≤ length (concat es) → length (concat (if t then [] else e ∷ fs)) ≤ length (e ++ concat es)
    go true h = omega arith
    go false h = omega (arith, length-append e (concat fs), length-append e (concat es))

-- a short line takes its own room
fitting-written : (room : ℕ) (book : Bytes) (es : List Bytes) → short book (fitting room book es) ≡ true
    → length (lines_from book (fitting room book es)) ≤ room
fitting-written room book [] h = omega arith
fitting-written room book (e ∷ es) h = go (ltb room line_max) refl h (fitting-written (room - length (line_to book e)) (book_after book e) es)
  where
    fs : List Bytes
    fs = fitting (room - length (line_to book e)) (book_after book e) es

    go : (t : Bool) → ltb room line_max ≡ t → short book (if t then [] else e ∷ fs) ≡ true
        → (short (book_after book e) fs ≡ true → length (lines_from (book_after book e) fs) ≤ room - length (line_to book e))
        → length (lines_from book (if t then [] else e ∷ fs)) ≤ room
    go true p h on = omega arith
    go false p h on =
        let b = both (leb (length (line_to book e)) line_max) (short (book_after book e) fs) h in
        omega (arith, length-append (line_to book e) (lines_from (book_after book e) fs), on b.1, leb-true (length (line_to book e)) line_max b.0, ltb-false room line_max p)

fitting-all : (room : ℕ) (book : Bytes) (es : List Bytes) → short book (fitting room book es) ≡ true → line_max * length es ≤ room
    → fitting room book es ≡ es
fitting-all room book [] h r = refl
fitting-all room book (e ∷ es) h r =
    go (ltb room line_max) refl h (fitting-all (room - length (line_to book e)) (book_after book e) es)
  where
    fs : List Bytes
    fs = fitting (room - length (line_to book e)) (book_after book e) es

    go : (t : Bool) → ltb room line_max ≡ t → short book (if t then [] else e ∷ fs) ≡ true
        → (short (book_after book e) fs ≡ true → line_max * length es ≤ room - length (line_to book e) → fs ≡ es)
        → (if t then [] else e ∷ fs) ≡ e ∷ es
    go true p h on = absurd (omega (arith, ltb-true room line_max p))
    go false p h on =
        let b = both (leb (length (line_to book e)) line_max) (short (book_after book e) fs) h in
        ap (e ∷◌) (on b.1 (omega (arith, leb-true (length (line_to book e)) line_max b.0)))

-- ---- those of a part

module _ (room : ℕ) (book : Bytes) (last : Bool) (part : Bytes) where
  pub taken_within : length (concat (given room book last part)) ≤ length part
  unfolding given
  taken_within = omega (arith, fitting-taken room book (entries_at last part), E.taken_within (split last part))

  module _ (shorts : short book (given room book last part) ≡ true) where
    pub written_within : length (lines_from book (given room book last part)) ≤ room
    unfolding given
    written_within = fitting-written room book (entries_at last part) shorts

    pub all_fit : line_max * (length part + 9) ≤ 10 * room → given room book last part ≡ entries_at last part
    unfolding given
    all_fit h = fitting-all room book (entries_at last part) shorts (omega (arith, E.count_within (split last part)))

pub left-short : (j : Bytes) → ends_in (entries_at false j) ≡ false → length j - length (concat (entries_at false j)) < 46
left-short j e = rw length-drop at (E.left-short (split false j) e)

-- ---- what `feed` answers

module _ (last : Bool) (part book out : Bytes) {book₁ out₁ : Bytes} {f : Fed} (fed : Feeds (given (length out) book last part) book out f book₁ out₁) where
  pub fed_taken : f.taken ≤ length part
  fed_taken = rw fed.0 (taken_within (length out) book last part)

  pub fed_written : f.written ≤ length out
  fed_written = rw fed.0 (written_within (length out) book last part fed.3)

  -- with room for every line, what is left of a part that is not the last is shorter than a command
  pub fed_left : last ≡ false → f.ended ≡ false → line_max * (length part + 9) ≤ 10 * length out → length part - f.taken < 46
  fed_left e n h =
      let q : given (length out) book false part ≡ entries_at false part = rw e at (all_fit (length out) book last part fed.3 h) in
      let r : f ≡ fed_by book (entries_at false part) = rw (e, q) at fed.0 in
      rw r (left-short part (rw r at n))
