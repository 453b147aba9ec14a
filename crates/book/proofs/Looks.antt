-- A look, and the part of the book that it gives.
use Rattle.std.specs.Prelude.{if◌then◌else◌, Err}
use Prim.Native.Nat.{ℕ, ◌+◌, ◌*◌, ◌-◌, ◌<◌}
use mathlib.Core.Path.{◌≡◌, refl, sym, ap, ◌∙◌}
use mathlib.Core.Bool.{Bool, true, false, not}
use mathlib.Core.List.{[], ◌++◌}
use native.Mathlib.Omega.{arith}
use lib.ListN.{length, take, drop, length-drop}
use lib.Seq.{length-take-le}
use lib.Dec.{ltb, eqb}
use borrow.Author.Tests.{ltb-true, eqb-true}
use borrow.Rule.Slice.PartMut.{put_mid, Post-is}
use Rattle.rules.specs.Bytes.{Bytes}
use Rattle.rules.specs.Answers.{ok, refused}
use Rattle.rules.specs.Answers as R
use Rattle.rules.specs.Record.{record_size, book_size, series_count}
use Rattle.rules.specs.Book.{record_at, replaced, look}
use Rattle.core_parts.specs.States.{value_or}
use Rattle.book.specs.Refusals.{refusal_number}
use Rattle.book.specs.Looks.{allowed_as, Allowed}
use Rattle.book.specs.declared.refusal.Refusal.{Refusal}

-- a number is the look's refusal
pub refused-look : (bytes : Bytes) (x : R.Result Bytes) (r : Refusal) → allowed_as bytes (Err r) ≡ x → x ≡ R.refused (refusal_number r)
refused-look bytes x r e = sym e

-- the part of series s, as the borrow checker says it
abbrev pub part_at : ℕ → Bytes → Bytes
part_at s book = take (s * record_size + record_size - s * record_size) (drop (s * record_size) book)

pub part_is : (s : ℕ) (book : Bytes) → part_at s book ≡ record_at s book
unfolding record_at
part_is s book = let e : s * record_size + record_size - s * record_size ≡ record_size = omega arith in rw e

pub put_is : (s : ℕ) (r book : Bytes) → put_mid (s * record_size) (s * record_size + record_size - s * record_size) book r ≡ replaced s r book
unfolding replaced
put_is s r book =
    ap (λ (x : Bytes). take (s * record_size) book ++ (r ++ x)) (Post-is (s * record_size) (s * record_size + record_size) book (omega arith))

-- of a look that is allowed, whatever bytes it gives
module _ (book : Bytes) (s : ℕ) {x : Bytes} (e : R.ok x ≡ look book s) where
  tests_passed : (eqb (length book) book_size ≡ true) × (ltb s series_count ≡ true)
  unfolding look
  tests_passed = go (eqb (length book) book_size) (ltb s series_count) e
    where
      go : (b d : Bool) → R.ok x ≡ (if not b then refused 35 else (if not d then refused 34 else ok (record_at s book))) → (b ≡ true) × (d ≡ true)
      go true true h = (refl, refl)
      go true false h = (refl, cc)
      go false d h = (cc, cc)

  pub in_book_lem : (length book ≡ book_size) × (s < series_count)
  in_book_lem = let (p, q) = tests_passed in (eqb-true (length book) book_size p, ltb-true s series_count q)

  -- an allowed look gives a whole record
  pub looked : look book s ≡ ok (record_at s book)
  unfolding look
  looked = let (p, q) = tests_passed in rw (p, q)

  pub record-whole : length (record_at s book) ≡ record_size
  unfolding record_at
  record-whole =
      let (p, q) = in_book_lem in
      length-take-le record_size (drop (s * record_size) book) (rw (length-drop (s * record_size) book) (omega arith))

  -- and gives its bytes
  pub part_looked : {r : Bytes} → r ≡ value_or [] (look book s) → (r ≡ record_at s book) × (length r ≡ record_size)
  part_looked {r} h =
      let e : r ≡ record_at s book = h ∙ ap (value_or []) looked in (e, ap (λ (b : Bytes). length b) e ∙ record-whole)

-- of a series that may be looked at
module _ (book : Bytes) (s : ℕ) (h : Allowed book s) where
  pub allowed-book : (length book ≡ book_size) × (s < series_count)
  allowed-book = in_book_lem book s (sym h)

  -- its part is a whole record
  pub allowed-part : length (part_at s book) ≡ record_size
  allowed-part = ap (λ (x : Bytes). length x) (part_is s book) ∙ record-whole book s (sym h)
