-- The book's bytes after any list, and the answers.
use Rattle.std.specs.Prelude.{if◌then◌else◌, Option, None, Some}
use Prim.Native.Nat.{ℕ, zero, suc, ◌+◌, ◌*◌, ◌<◌}
use mathlib.Core.Path.{◌≡◌, refl, sym, ap, ap₂, ◌∙◌, fun_ext}
use mathlib.Core.Bool.{Bool, true, false}
use mathlib.Core.List.{◌++◌, append_assoc, append-nil}
use native.Mathlib.Omega.{arith}
use native.Mathlib.Nat.{suc-mul}
use lib.ListN.{length, take, drop, replicate, length-append, length-drop, length-replicate, replicate-append-replicate, drop_of_length-le}
use lib.Seq.{take_at, drop_at, take-append-le, drop-append-le, take_all}
use lib.Dec.{ltb, eqb}
use lib.Arith.{lt_of_le-ne}
use borrow.Author.Tests.{ltb-true, eq-eqb, eqb-true, eqb-false, ne_eqb}
use Rattle.rules.proofs.Bools.{both}
use Rattle.rules.proofs.Fields.{command_fits}
use Rattle.rules.proofs.Record.{ledger-stored}
use Rattle.rules.specs.Log.{Log, ε, ◌▹◌, maybe, all}
use Rattle.rules.specs.Bytes.{Bytes, are_bytes, zeros, bytes}
use Rattle.rules.specs.Answers.{ok}
use Rattle.rules.specs.State.{parts_of}
use Rattle.rules.specs.Series.{Command, Series, empty, live, fixed, step, changed, after}
use Rattle.rules.specs.Record.{record_size, series_count, book_size, fields, price_bytes, bytes_of, stored}
use Rattle.rules.specs.Entries.{Entry, no_command, command, entry}
use Rattle.rules.specs.Book.{record_at, replaced, answer_in, answer_to, after_in, book_after, run}
use Rattle.rules.specs.Ledger.{ledger, opening, commands_to, ledgers, ledger_answer, records, book_of}
use Rattle.claims.proofs.Entries.{entry_fits, entry-fits, commands_fit, series_after, ledgers_more}

-- ---- records one after the other

records_ext : (n : ℕ) (f g : ℕ → Bytes) → ((s : ℕ) → s < n → f s ≡ g s) → records n f ≡ records n g
unfolding records
records_ext zero f g h = refl
records_ext (suc n) f g h = ap₂ ◌++◌ (records_ext n f g (λ s l. h s (omega arith))) (h n (omega arith))

seam : (a b c d : Bytes) → a ++ (b ++ (c ++ d)) ≡ (a ++ (b ++ c)) ++ d
seam a b c d = simp append_assoc

module _ (f : ℕ → Bytes) (size : (s : ℕ) → length (f s) ≡ record_size) where
  length-records : (n : ℕ) → length (records n f) ≡ n * record_size
  unfolding records
  length-records zero = refl
  length-records (suc n) = rw (length-append (records n f) (f n), length-records n, size n) (omega arith)

  record_at_lem : (n s : ℕ) → s < n → record_at s (records n f) ≡ f s
  unfolding records record_at
  record_at_lem zero s l = let c : ⊥ = omega arith in absurd c
  record_at_lem (suc n) s l = go (eqb s n) refl (record_at_lem n s)
    where
      go : (b : Bool) → eqb s n ≡ b → (s < n → record_at s (records n f) ≡ f s) → take record_size (drop (s * record_size) (records n f ++ f n)) ≡ f s
      go true e r = rw (eqb-true s n e, drop_at (records n f) (f n) (n * record_size) (length-records n)) (take_all record_size (f n) (omega (arith, size n)))
      go false e r =
          let l : s < n = lt_of_le-ne (omega arith) (eqb-false s n e) in
          let m = length-records n in
          rw (
            drop-append-le (s * record_size) (records n f) (f n) (omega arith),
            take-append-le record_size (drop (s * record_size) (records n f)) (f n) (rw (length-drop (s * record_size) (records n f)) (omega arith)),
          )
          (r l)

  record-put : (n s : ℕ) (r : Bytes) → s < n → replaced s r (records n f) ≡ records n (λ t. if eqb t s then r else f t)
  unfolding records replaced
  record-put zero s r l = let c : ⊥ = omega arith in absurd c
  record-put (suc n) s r l = go (eqb s n) refl (record-put n s r)
    where
      g : ℕ → Bytes
      g t = if eqb t s then r else f t

      go : (b : Bool) → eqb s n ≡ b → (s < n → replaced s r (records n f) ≡ records n g)
          → take (s * record_size) (records n f ++ f n) ++ (r ++ drop (s * record_size + record_size) (records n f ++ f n)) ≡ records n g ++ g n
      go true e h =
          let q = eqb-true s n e in
          let m = length-records n in
          let k : length (records n f) ≡ s * record_size = omega (arith, m, ap (λ (x : ℕ). x * record_size) q) in
          rw (
            take_at (records n f) (f n) (s * record_size) k,
            drop_of_length-le (records n f ++ f n) {i = s * record_size + record_size} (rw (length-append (records n f) (f n)) (omega (arith, size n))),
            append-nil r,
            eq-eqb n s (sym q),
          )
          (ap (λ (x : Bytes). x ++ r) (records_ext n f g (λ t l. sym (rw (ne_eqb t s (omega arith))))))
      go false e h =
          let ne = eqb-false s n e in
          let l : s < n = lt_of_le-ne (omega arith) ne in
          let m = length-records n in
          rw (
            take-append-le (s * record_size) (records n f) (f n) (omega arith),
            drop-append-le (s * record_size + record_size) (records n f) (f n) (omega arith),
            ne_eqb n s (λ q. ne (sym q)),
          )
          (seam (take (s * record_size) (records n f)) r (drop (s * record_size + record_size) (records n f)) (f n) ∙ ap (λ (x : Bytes). x ++ f n) (h l))

-- ---- every record is 456 bytes

pub length-record : (s : Series) → length (bytes_of s) ≡ record_size
unfolding bytes_of fields price_bytes zeros bytes parts_of
length-record empty = refl
length-record (live o c) = refl
length-record (fixed r o c a t) = refl

-- ---- one more entry

pub ledgers-stored : (l : Log Bytes) (s : ℕ) → all are_bytes l ≡ true → stored (bytes_of (ledgers l s)) ≡ ok (ledgers l s)
unfolding ledgers
ledgers-stored l s h = ledger-stored (commands_to s l) (commands_fit s l h)

module _ (l : Log Bytes) (h : all are_bytes l ≡ true) where
  length-book : length (book_of (ledgers l)) ≡ book_size
  unfolding book_of
  length-book = length-records (λ s. bytes_of (ledgers l s)) (λ s. length-record (ledgers l s)) series_count

  stored_at : (s : ℕ) → s < series_count → stored (record_at s (book_of (ledgers l))) ≡ ok (ledgers l s)
  unfolding book_of
  stored_at s m = rw (record_at_lem (λ t. bytes_of (ledgers l t)) (λ t. length-record (ledgers l t)) series_count s m) (ledgers-stored l s h)

  pub answer_more : (e : Bytes) → are_bytes e ≡ true → answer_to (book_of (ledgers l)) e ≡ ledger_answer (ledgers l) (entry e)
  unfolding answer_to
  answer_more e b = rw (length-book) (go (entry e) (entry-fits e b))
    where
      go : (n : Entry) → entry_fits n ≡ true → answer_in (book_of (ledgers l)) n ≡ ledger_answer (ledgers l) n
      go (no_command r) k = refl
      go (command s c) k = rw (stored_at s (ltb-true s series_count (both (ltb s series_count) (command_fits c) k).0))

  put_more : (s : ℕ) (c : Command) (next : Series) → s < series_count → after (ledgers l s) c ≡ next
      → replaced s (bytes_of next) (book_of (ledgers l)) ≡ book_of (series_after (ledgers l) (command s c))
  unfolding book_of
  put_more s c next m a =
      record-put (λ t. bytes_of (ledgers l t)) (λ t. length-record (ledgers l t)) series_count s (bytes_of next) m
      ∙ records_ext series_count (λ t. if eqb t s then bytes_of next else bytes_of (ledgers l t)) (λ t. bytes_of (series_after (ledgers l) (command s c) t)) (λ t _. go t (eqb t s) refl)
    where
      go : (t : ℕ) (b : Bool) → eqb t s ≡ b → (if b then bytes_of next else bytes_of (ledgers l t)) ≡ bytes_of (if b then after (ledgers l t) c else ledgers l t)
      go t true e = rw (eqb-true t s e, a)
      go t false e = refl

  keep_more : (s : ℕ) (c : Command) → after (ledgers l s) c ≡ ledgers l s → book_of (ledgers l) ≡ book_of (series_after (ledgers l) (command s c))
  keep_more s c a = ap book_of (fun_ext (λ t. go t (eqb t s) refl))
    where
      go : (t : ℕ) (b : Bool) → eqb t s ≡ b → ledgers l t ≡ (if b then after (ledgers l t) c else ledgers l t)
      go t true e = rw (eqb-true t s e, a)
      go t false e = refl

  pub book_more : (e : Bytes) → are_bytes e ≡ true → book_after (book_of (ledgers l)) e ≡ book_of (ledgers (l ▹ e))
  unfolding book_after
  book_more e b = rw (length-book, ← ledgers_more l e h b) (go (entry e) (entry-fits e b))
    where
      go : (n : Entry) → entry_fits n ≡ true → after_in (book_of (ledgers l)) n ≡ book_of (series_after (ledgers l) n)
      go (no_command r) k = refl
      go (command s c) k =
          let m = ltb-true s series_count (both (ltb s series_count) (command_fits c) k).0 in
          rw (stored_at s m) (at (changed (step (ledgers l s) c)) refl m)
        where
          at : (x : Option Series) → changed (step (ledgers l s) c) ≡ x → s < series_count
              → maybe (book_of (ledgers l)) (λ next. replaced s (bytes_of next) (book_of (ledgers l))) x ≡ book_of (series_after (ledgers l) (command s c))
          at None e m = keep_more s c (rw e)
          at (Some next) e m = put_more s c next m (rw e)

-- ---- from the zeroed book

zero_records : (n : ℕ) → records n (λ s. replicate record_size 0) ≡ replicate (n * record_size) 0
unfolding records
zero_records zero = refl
zero_records (suc n) = rw (zero_records n, replicate-append-replicate (n * record_size) record_size (zero), suc-mul n record_size)

zeroed-book : book_of (ledgers ε) ≡ zeros book_size
unfolding book_of ledgers commands_to ledger opening zeros bytes_of
zeroed-book = zero_records series_count

pub zeroed-place : (s : ℕ) → s < series_count → record_at s (zeros book_size) ≡ zeros record_size
unfolding zeros
zeroed-place s m =
    ap (record_at s) (sym (zero_records series_count)) ∙ record_at_lem (λ t. replicate record_size 0) (λ t. length-replicate {A = ℕ} record_size 0) series_count s m

-- the book after any list is the ledgers' records
pub run_is : (l : Log Bytes) → all are_bytes l ≡ true → run l ≡ book_of (ledgers l)
run_is ε h = sym zeroed-book
run_is (l ▹ e) h =
    let (a, b) = both (all are_bytes l) (are_bytes e) h in
    rw (run_is l a) (book_more l a e b)

-- and each answer is 01's on the ledgers before it
pub answer_is : (l : Log Bytes) (e : Bytes) → all are_bytes l ≡ true → are_bytes e ≡ true → answer_to (run l) e ≡ ledger_answer (ledgers l) (entry e)
answer_is l e a b = rw (run_is l a) (answer_more l a e b)
