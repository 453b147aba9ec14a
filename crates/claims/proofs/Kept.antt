-- A refusal and an ask change no byte. An entry changes no byte of another series' record, and not the length of the book.
use Rattle.std.specs.Prelude.{if◌then◌else◌, Option, None, Some}
use Prim.Native.Nat.{ℕ, ◌+◌, ◌*◌, ◌-◌, ◌<◌, ◌≤◌}
use mathlib.Core.Path.{◌≡◌, refl, sym, ap, ◌∙◌}
use mathlib.Core.Bool.{Bool, true, false}
use mathlib.Core.List.{◌++◌, append_assoc}
use native.Mathlib.Omega.{arith}
use lib.ListN.{length, take, drop, length-append, length-take, length-drop, take-append-drop}
use lib.Seq.{take_at, take-append-le, drop-append-le, drop-append-add, drop-drop}
use lib.Dec.{ltb, eqb}
use lib.Arith.{lt_of_le-ne}
use borrow.Author.Tests.{ltb-true, ltb-false, eqb-true, eq-eqb}
use Rattle.rules.proofs.Bools.{both, not_both}
use Rattle.rules.specs.Log.{is_some, maybe}
use Rattle.rules.specs.Bytes.{Bytes}
use Rattle.rules.specs.Answers.{Result, ok, refused, is_refused}
use Rattle.rules.specs.Series.{Command, Series, step, changed}
use Rattle.rules.specs.Record.{record_size, series_count, book_size, bytes_of, stored}
use Rattle.rules.specs.Entries.{Entry, no_command, command, entry}
use Rattle.rules.specs.Book.{record_at, replaced, answer_to, written, after_in, book_after}
use Rattle.rules.specs.Ledger.{command_to}
use Rattle.claims.specs.Demand3.{is_ask}
use Rattle.claims.specs.OneForm.{RefusalKeeps, OthersKeep}
use Rattle.claims.proofs.Entries.{holds_of, entry-series}
use Rattle.claims.proofs.Book.{length-record}
use Rattle.claims.proofs.Waits.{refused_kept, ask_kept}

-- ---- a refusal, and an ask

-- an entry whose command leaves its series as it was leaves the book as it was
kept_by : (book e : Bytes)
    → ((i : ℕ) (c : Command) (held : Series) → eqb (length book) book_size ≡ true → entry e ≡ command i c → stored (record_at i book) ≡ ok held → changed (step held c) ≡ None)
    → book_after book e ≡ book
unfolding book_after
kept_by book e h = go (eqb (length book) book_size) (entry e) refl refl
  where
    go : (b : Bool) (n : Entry) → eqb (length book) book_size ≡ b → entry e ≡ n → (if b then after_in book n else book) ≡ book
    go false n len q = refl
    go true (no_command r) len q = refl
    go true (command i c) len q = at (stored (record_at i book)) refl
      where
        at : (x : Result Series) → stored (record_at i book) ≡ x → written i book x c ≡ book
        at (refused r) there = refl
        at (ok held) there = rw (h i c held len q there)

pub refusal_keeps : RefusalKeeps
unfolding answer_to
refusal_keeps book e r h = kept_by book e (λ i c held len q there. refused_kept held c (ap is_refused (rw (len, q, there) at h)))

pub ask_keeps : (book e : Bytes) (s : ℕ) (c : Command) → command_to s (entry e) ≡ Some c → is_ask c ≡ true → book_after book e ≡ book
ask_keeps book e s c h a = kept_by book e (λ i k held len q there. ask_kept held k (ap is_ask (same k (eqb s i) (rw q at h)) ∙ a))
  where
    same : (k : Command) (b : Bool) → (if b then Some k else None) ≡ Some c → k ≡ c
    same k true e = cc
    same k false e = cc

-- ---- a record put into a book: it is there, and the others are as they were

-- a record in the first part
record-front : (s : ℕ) (front rest : Bytes) → s * record_size + record_size ≤ length front → record_at s (front ++ rest) ≡ record_at s front
unfolding record_at
record-front s front rest h =
    rw (
      drop-append-le (s * record_size) front rest (omega arith),
      take-append-le record_size (drop (s * record_size) front) rest (rw (length-drop (s * record_size) front) (omega arith)),
    )

-- a record after the first part
record-back : (s n : ℕ) (front rest : Bytes) → s * record_size ≡ length front + n → record_at s (front ++ rest) ≡ take record_size (drop n rest)
unfolding record_at
record-back s n front rest h = rw (h, drop-append-add front rest n)

module _ (i : ℕ) (r book : Bytes) (size : length r ≡ record_size) (fit : i * record_size + record_size ≤ length book) where
  ahead : length (take (i * record_size) book) ≡ i * record_size
  ahead = rw (length-take (i * record_size) book) (omega arith)

  put_back : record_at i (replaced i r book) ≡ r
  unfolding replaced
  put_back =
      record-back i 0 (take (i * record_size) book) (r ++ drop (i * record_size + record_size) book) (omega (arith, ahead))
      ∙ take_at r (drop (i * record_size + record_size) book) record_size size

  before : (s : ℕ) → s < i → record_at s (replaced i r book) ≡ record_at s book
  unfolding replaced
  before s l =
      let here : s * record_size + record_size ≤ length (take (i * record_size) book) = rw ahead (omega arith) in
      record-front s (take (i * record_size) book) (r ++ drop (i * record_size + record_size) book) here
      ∙ sym (record-front s (take (i * record_size) book) (drop (i * record_size) book) here)
      ∙ ap (record_at s) (take-append-drop (i * record_size) book)

  behind : (s : ℕ) → i < s → record_at s (replaced i r book) ≡ record_at s book
  unfolding replaced record_at
  behind s l =
      let n = s * record_size - (i * record_size + record_size) in
      let here : s * record_size ≡ length (take (i * record_size) book ++ r) + n = rw (length-append (take (i * record_size) book) r, ahead, size) (omega arith) in
      let there : i * record_size + record_size + n ≡ s * record_size = omega arith in
      ap (record_at s) (sym (append_assoc (take (i * record_size) book) r (drop (i * record_size + record_size) book)))
      ∙ record-back s n (take (i * record_size) book ++ r) (drop (i * record_size + record_size) book) here
      ∙ ap (take record_size) (drop-drop n (i * record_size + record_size) book)
      ∙ ap (λ (x : ℕ). take record_size (drop x book)) there

  other : (s : ℕ) → (s ≡ i → ⊥) → record_at s (replaced i r book) ≡ record_at s book
  other s ne = go (ltb s i) refl
    where
      go : (b : Bool) → ltb s i ≡ b → record_at s (replaced i r book) ≡ record_at s book
      go true e = before s (ltb-true s i e)
      go false e = behind s (lt_of_le-ne (ltb-false s i e) (λ q. ne (sym q)))

  length-put : length (replaced i r book) ≡ length book
  unfolding replaced
  length-put =
      let rest = drop (i * record_size + record_size) book in
      rw (length-append (take (i * record_size) book) (r ++ rest), length-append r rest, length-drop (i * record_size + record_size) book) (omega (arith, ahead, size, fit))

-- ---- the book after an entry

-- the book after an entry is the same, or has another record in the place of a series that the entry is a command of: what holds of both holds of it
after_by : (P : Bytes → Type 0) (book e : Bytes) → P book
    → ((i : ℕ) (r : Bytes) → is_some (command_to i (entry e)) ≡ true → length r ≡ record_size → i * record_size + record_size ≤ length book → P (replaced i r book))
    → P (book_after book e)
unfolding book_after
after_by P book e same put = go (eqb (length book) book_size) (entry e) refl refl (entry-series e)
  where
    held : (i : ℕ) (c : Command) → entry e ≡ command i c → i < series_count → length book ≡ book_size → (x : Result Series) → P (written i book x c)
    held i c q l len (refused r) = same
    held i c q l len (ok series) = at (changed (step series c))
      where
        at : (x : Option Series) → P (maybe book (λ next. replaced i (bytes_of next) book) x)
        at None = same
        at (Some next) = put i (bytes_of next) (rw (q, eq-eqb i i refl)) (length-record next) (omega arith)

    go : (b : Bool) (n : Entry) → eqb (length book) book_size ≡ b → entry e ≡ n → holds_of (λ c. true) n ≡ true → P (if b then after_in book n else book)
    go false n len q k = same
    go true (no_command r) len q k = same
    go true (command i c) len q k =
        held i c q (ltb-true i series_count (both (ltb i series_count) true k).0) (eqb-true (length book) book_size len) (stored (record_at i book))

pub others_keep : OthersKeep
others_keep book e s h =
    after_by (λ b. record_at s b ≡ record_at s book) book e refl
    (λ i r k size fit. other i r book size fit s (λ same. not_both (ap (λ (j : ℕ). is_some (command_to j (entry e))) same ∙ k) (ap is_some h)))

pub length-after : (book e : Bytes) → length (book_after book e) ≡ length book
length-after book e = after_by (λ b. length b ≡ length book) book e refl (λ i r k size fit. length-put i r book size fit)

-- the own record of a command after it: what it wrote there, or the same
pub record-after : (book e : Bytes) (s : ℕ) (c : Command) (held : Series) → length book ≡ book_size → entry e ≡ command s c → stored (record_at s book) ≡ ok held
    → record_at s (book_after book e) ≡ maybe (record_at s book) bytes_of (changed (step held c))
unfolding book_after
record-after book e s c held len q there =
    rw (len, q, there) (go (changed (step held c)) (ltb-true s series_count (both (ltb s series_count) true (rw q at (entry-series e))).0))
  where
    go : (x : Option Series) → s < series_count → record_at s (maybe book (λ next. replaced s (bytes_of next) book) x) ≡ maybe (record_at s book) bytes_of x
    go None l = refl
    go (Some next) l = put_back s (bytes_of next) book (length-record next) (omega arith)
