-- A turn of the loop: one part more for the reader.
use Prim.Native.Nat.{ℕ, ◌+◌, ◌≤◌, ◌<◌}
use mathlib.Core.Path.{◌≡◌, refl, sym, ap, subst, ◌∙◌}
use mathlib.Core.Bool.{Bool, true, false, ◌||◌}
use mathlib.Core.List.{[], ◌++◌, append_assoc, append-nil}
use native.Mathlib.Omega.{arith}
use lib.ListN.{length, take, drop, length-append, length-drop}
use lib.Dec.{eqb}
use lib.Seq.{length-take-le, take-add}
use borrow.Author.Tests.{eqb-true}
use Rattle.rules.specs.Log.{Log, ◌▹◌}
use Rattle.rules.specs.Bytes.{Bytes}
use Rattle.journal.specs.Parts.{Reader, on, reads, read_all, joined, finish}
use Rattle.journal.proofs.Parts.{any_parts}
use Rattle.rules.specs.Book.{run}
use Rattle.rules.specs.Journal.{journal_entries, sheet}
use Rattle.sheet.specs.declared.Left.{Left}
use Rattle.sheet.specs.declared.Feeder.{Feeder}
use Rattle.sheet.specs.declared.Failure.{Failure}
use Rattle.std.specs.Prelude.{Option, Some, None, IfSome, Result, Ok, Err}
use Rattle.std.specs.Io.KnownBytes.{Consumes, Appends, IsAtEnd}
use Rattle.sheet.specs.Holds.{Holds, at_most64, Reading, OneMore, Over}
use Rattle.sheet.specs.Told.{At, Ends, Goes, HandsOn, Turns}

-- the bytes that a reader holds may as well come with the others
together : (last : Bool) (r : Reader) (bytes : Bytes) → r.ended ≡ false
    → ((reads last (on r.book) (r.held ++ bytes)).book ≡ (reads last r bytes).book)
    × ((reads last (on r.book) (r.held ++ bytes)).held ≡ (reads last r bytes).held)
    × ((reads last (on r.book) (r.held ++ bytes)).ended ≡ (reads last r bytes).ended)
unfolding reads
together last r bytes goes = rw goes (refl, refl, refl)

-- they give the lines that the reader has more
more_lines : (last : Bool) (r : Reader) (bytes : Bytes) → r.ended ≡ false
    → (reads last r bytes).lines ≡ r.lines ++ (reads last (on r.book) (r.held ++ bytes)).lines
unfolding reads
more_lines last r bytes goes = rw goes refl

appends_on : (to₀ to₁ to : Option Bytes) (k ls : Bytes) → Appends to₁ to ls → Appends to₀ to₁ k → Appends to₀ to (k ++ ls)
appends_on None to₁ to k ls w a = tt
appends_on (Some xs) None to k ls w a = absurd a
appends_on (Some xs) (Some ys) None k ls w a = absurd w
appends_on (Some xs) (Some ys) (Some zs) k ls w a = w ∙ ap (λ (l : Bytes). l ++ ls) a ∙ append_assoc xs k ls

-- n bytes stand behind the held ones
module _ (parts : Log Bytes) (book₀ part₁ : Bytes) (held read n : ℕ) (was : Reading parts book₀ part₁ held read) where
  abbrev came : Bytes
  came = take n (drop held part₁)

  many : held + n ≤ length part₁ → length came ≡ n
  many inside = length-take-le n (drop held part₁) (omega (arith, length-drop held part₁))

  whole : take (held + n) part₁ ≡ (read_all parts).held ++ came
  whole = take-add held n part₁ ∙ ap (λ (xs : Bytes). xs ++ came) was.keeps

  reads-part : (last : Bool) {left : Left} {book₂ part₂ out₂ : Bytes} → Holds left book₂ part₂ out₂ (reads last (on book₀) (take (held + n) part₁))
      → (book₂ ≡ (reads last (read_all parts) came).book)
      × (take left.held part₂ ≡ (reads last (read_all parts) came).held)
      × (left.ended ≡ (reads last (read_all parts) came).ended)
  reads-part last h =
      let (same-book, same-held, same_ended) = together last (read_all parts) came was.goes in
      let h = rw (whole, was.booked) at h in
      (h.booked ∙ same-book, h.held ∙ same-held, h.ended ∙ same_ended)

  pub reading_on : {last : Bool} {left : Left} {book₂ part₂ out₂ : Bytes} {read₂ : ℕ}
      → held + n ≤ length part₁
      → Holds left book₂ part₂ out₂ (reads last (on book₀) (take (held + n) part₁))
      → last ≡ false → left.ended ≡ false → (last ≡ false → left.ended ≡ false → left.held < 46) → read₂ ≡ at_most64 (read + n)
      → Reading (parts ▹ came) book₂ part₂ left.held read₂
  reading_on {last} {left} inside h l e short count =
      let (b, k, t) = rw l at (reads-part last h) in
      record {
        booked = b;
        keeps = k;
        goes = sym t ∙ e;
        counted = omega (arith, count, many inside, was.counted, length-append (joined parts) came);
        short = short l e;
      }

  pub reads_on : {last : Bool} {left : Left} {book₂ part₂ out₂ : Bytes} {read₂ : ℕ}
      → held + n ≤ length part₁
      → Holds left book₂ part₂ out₂ (reads last (on book₀) (take (held + n) part₁))
      → last ≡ false → left.ended ≡ false → (last ≡ false → left.ended ≡ false → left.held < 46) → read₂ ≡ at_most64 (read + n)
      → OneMore parts book₂ part₂ left.held read₂
  reads_on inside h l e short count = record { bytes = came; reading = reading_on inside h l e short count }

  pub reads-last : (last : Bool) {left : Left} {book₂ part₂ out₂ : Bytes}
      → Holds left book₂ part₂ out₂ (reads last (on book₀) (take (held + n) part₁)) → last || left.ended ≡ true → Over parts book₂
  reads-last last h o =
      let (b, k, t) = reads-part last h in
      record { last = last; bytes = came; booked = b; ends = ap (λ (x : Bool). last || x) (sym t) ∙ o }

  lines_part : (last : Bool) {left : Left} {book₂ part₂ out₂ : Bytes} → Holds left book₂ part₂ out₂ (reads last (on book₀) (take (held + n) part₁))
      → (reads last (read_all parts) came).lines ≡ (read_all parts).lines ++ take left.written out₂
  lines_part last h =
      let h = rw (whole, was.booked) at h in
      more_lines last (read_all parts) came was.goes ∙ ap (λ (xs : Bytes). (read_all parts).lines ++ xs) (sym h.lines)

  pub ends_with : (last : Bool) {left : Left} {book₂ part₂ out₂ : Bytes} {to₁ to : Option Bytes}
      → Holds left book₂ part₂ out₂ (reads last (on book₀) (take (held + n) part₁)) → last || left.ended ≡ true → Appends to₁ to (take left.written out₂)
      → Ends parts last came book₂ to₁ to
  ends_with last {to₁ = to₁} {to} h o w =
      let (b, k, t) = reads-part last h in
      record {
        booked = b;
        ends = ap (λ (x : Bool). last || x) (sym t) ∙ o;
        tells = λ to₀ a. rw (lines_part last h) (appends_on to₀ to₁ to (read_all parts).lines _ w a);
      }

  pub goes_with : {last : Bool} {left : Left} {book₂ part₂ out₂ : Bytes} {read₂ : ℕ} {to₁ to : Option Bytes}
      → held + n ≤ length part₁
      → Holds left book₂ part₂ out₂ (reads last (on book₀) (take (held + n) part₁))
      → last ≡ false → left.ended ≡ false → (last ≡ false → left.ended ≡ false → left.held < 46) → read₂ ≡ at_most64 (read + n)
      → Appends to₁ to (take left.written out₂)
      → Goes parts came book₂ part₂ left.held read₂ to₁ to
  goes_with {last} {left} {to₁ = to₁} {to} inside h l e short count w =
      let q = rw l at (lines_part last h) in
      record {
        reading = reading_on inside h l e short count;
        tells = λ to₀ a. rw q (appends_on to₀ to₁ to (read_all parts).lines _ w a);
      }

-- a read leaves the held bytes as they were, and puts what came behind them
module _ (before : Feeder) (part₁ : Bytes) (kept : take before.held part₁ ≡ take before.held before.part) where
  abbrev there : Feeder
  there = record { book = before.book; part = part₁; out = before.out; held = before.held; read = before.read }

  still : {parts : Log Bytes} → At parts before → At parts there
  still was =
      record {
        booked = was.booked;
        keeps = kept ∙ was.keeps;
        goes = was.goes;
        counted = was.counted;
        short = was.short;
      }

  pub hands_still : (r : Result Bool Failure) (last : Bool) (bytes : Bytes) (after : Feeder) (to₁ to : Option Bytes)
      → HandsOn r last bytes there after to₁ to → HandsOn r last bytes before after to₁ to
  hands_still (Ok false) last bytes after to₁ to on = λ parts was. on parts (still was)
  hands_still (Ok true) last bytes after to₁ to on = λ parts was. on parts (still was)
  hands_still (Err e) last bytes after to₁ to on = tt

  pub turned : (r : Result Bool Failure) (n : ℕ) (after : Feeder) (from₁ from to₁ to : Option Bytes)
      → Consumes from₁ from (take n (drop before.held part₁)) → (n ≡ 0 → 0 < length (drop before.held part₁) → IsAtEnd from) → 0 < length (drop before.held part₁)
      → HandsOn r (eqb n 0) (take n (drop before.held part₁)) there after to₁ to
      → Turns r before after from₁ from to₁ to
  turned r n after from₁ from to₁ to c e some on =
      record {
        last = eqb n 0;
        bytes = take n (drop before.held part₁);
        came = c;
        over = λ l. (ap (λ (k : ℕ). take k (drop before.held part₁)) (eqb-true n 0 l), e (eqb-true n 0 l) some);
        done = hands_still r (eqb n 0) (take n (drop before.held part₁)) after to₁ to on;
      }

-- some parts have been read, and their lines written
pub record Started (f : Feeder) (from₀ from to₀ to : Option Bytes) : Type 0 where
  pub parts : Log Bytes
  pub reading : At parts f
  pub came : Consumes from₀ from (joined parts)
  pub told : Appends to₀ to (read_all parts).lines

consumes_on : (from₀ from₁ from : Option Bytes) (k bs : Bytes) → Consumes from₀ from₁ k → Consumes from₁ from bs → Consumes from₀ from (k ++ bs)
consumes_on None from₁ from k bs c d = tt
consumes_on (Some xs) None from k bs c d = absurd c
consumes_on (Some xs) (Some ys) None k bs c d = absurd d
consumes_on (Some xs) (Some ys) (Some zs) k bs c d = c ∙ ap (λ (l : Bytes). k ++ l) d ∙ sym (append_assoc k bs zs)

-- a reader that has ended stays as it is
stays : (last : Bool) (r : Reader) (bytes : Bytes) → r.ended ≡ true → reads last r bytes ≡ r
unfolding reads
stays last r bytes e = rw e refl

-- the sheet of a journal, and the book that its entries leave
abbrev Whole : Reader → Bytes → Type 0
Whole r journal = (r.lines ≡ sheet (journal_entries journal)) × (r.book ≡ run (journal_entries journal))

finished : (parts : Log Bytes) (r : Reader) (journal : Bytes) → finish parts ≡ r → joined parts ≡ journal → Whole r journal
finished parts r journal e f = rw (← e, ← f) (any_parts.lines parts, any_parts.book parts)

ended_whole : (parts : Log Bytes) (last : Bool) (bytes rest : Bytes) → last || (reads last (read_all parts) bytes).ended ≡ true
    → (last ≡ true → (bytes ≡ []) × (rest ≡ []))
    → Whole (reads last (read_all parts) bytes) ((joined parts ++ bytes) ++ rest)
ended_whole parts true bytes rest e over =
    let (b, r) = over refl in
    finished parts (reads true (read_all parts) bytes) ((joined parts ++ bytes) ++ rest) (rw b refl) (rw (b, r) (sym (append-nil (joined parts ++ []) ∙ append-nil (joined parts))))
ended_whole parts false bytes rest e over =
    let r = read_all (parts ▹ bytes) in
    let s : reads false r rest ≡ r = stays false r rest e in
    finished (parts ▹ bytes ▹ rest) r ((joined parts ++ bytes) ++ rest) (rw s (stays true r [] e)) refl

if_known : {P : Bytes → Type 0} (o : Option Bytes) → ((xs : Bytes) → o ≡ Some xs → P xs) → IfSome o P
if_known None h = tt
if_known (Some xs) h = h xs refl

-- what a turn has done, when its result is known
pub turns_as : {r q : Result Bool Failure} {before after : Feeder} {from₁ from to₁ to : Option Bytes} → r ≡ q
    → Turns r before after from₁ from to₁ to → Turns q before after from₁ from to₁ to
turns_as {before = before} {after} {from₁} {from} {to₁} {to} e t = subst (λ r. Turns r before after from₁ from to₁ to) e t

-- one part more has been read
pub started_on : {before after : Feeder} (from₀ from₁ from to₀ to₁ to : Option Bytes) → Started before from₀ from₁ to₀ to₁
    → Turns (Ok false) before after from₁ from to₁ to → Started after from₀ from to₀ to
started_on from₀ from₁ from to₀ to₁ to s t =
    let d = t.done s.parts s.reading in
    record {
      parts = s.parts ▹ t.bytes;
      reading = d.reading;
      came = consumes_on from₀ from₁ from (joined s.parts) t.bytes s.came t.came;
      told = d.tells to₀ s.told;
    }

module _ {before after : Feeder} (from₀ from₁ from to₀ to₁ to : Option Bytes) (s : Started before from₀ from₁ to₀ to₁)
    (t : Turns (Ok true) before after from₁ from to₁ to) where
  whole_journal : (xs : Bytes) → from₀ ≡ Some xs → Appends to₀ to (sheet (journal_entries xs)) × (after.book ≡ run (journal_entries xs))
  whole_journal xs e =
      let c = consumes_on from₀ from₁ from (joined s.parts) t.bytes s.came t.came in
      go from (rw e at c) t.over
    where
      go : (from : Option Bytes) → Consumes (Some xs) from (joined s.parts ++ t.bytes) → (t.last ≡ true → (t.bytes ≡ []) × IsAtEnd from)
          → Appends to₀ to (sheet (journal_entries xs)) × (after.book ≡ run (journal_entries xs))
      go None c o = absurd c
      go (Some rest) c o =
          let d = t.done s.parts s.reading in
          let w = ended_whole s.parts t.last t.bytes rest d.ends o in
          let w = rw (← c) at w in
          (rw w.0 at (d.tells to₀ s.told), d.booked ∙ w.1)

  pub all_written : IfSome from₀ (λ journal. Appends to₀ to (sheet (journal_entries journal)))
  all_written = if_known from₀ (λ xs e. (whole_journal xs e).0)

  pub all_booked : IfSome from₀ (λ journal. after.book ≡ run (journal_entries journal))
  all_booked = if_known from₀ (λ xs e. (whole_journal xs e).1)
