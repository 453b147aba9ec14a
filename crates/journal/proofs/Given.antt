-- A loop that gives the entries of a part to a book: what is left to give, turn by turn.
use Rattle.std.specs.Prelude.{if◌then◌else◌, Option, Some, None}
use Prim.Native.Nat.{ℕ, ◌+◌, ◌-◌, ◌≤◌, ◌<◌}
use mathlib.Core.Path.{◌≡◌, refl, sym, ap, subst, ◌∙◌}
use mathlib.Core.Bool.{Bool, true, false, ◌||◌}
use mathlib.Core.List.{List, [], ◌∷◌}
use native.Mathlib.Omega.{arith}
use native.Mathlib.Nat.{zero-add, sub-zero}
use lib.Dec.{eqb}
use lib.ListN.{length, take, drop, length-append, length-drop}
use lib.Seq.{sets, length-sets, length-take-le, take_all, drop-drop}
use borrow.Author.Tests.{lt-ltb, le-ltb, le-leb, eqb-true, eqb-false}
use Rattle.rules.specs.Bytes.{Bytes, concat}
use Rattle.rules.specs.Book.{book_after}
use Rattle.rules.specs.Journal.{line_to}
use Rattle.lines.specs.Lines.{line_max}
use Rattle.journal.specs.Split.{first_width, ends, entries_at}
use Rattle.journal.specs.Feed.{book_from, lines_from, short, fitting, ends_in, given, fed_by}
use Rattle.journal.specs.declared.feed.Fed.{Fed}
use Rattle.journal.proofs.Entries.{none, ending, more, split, unique, first}
use Rattle.rules.proofs.Bytes.{sets_append}

-- what `feed` ensures when it gave the entries es
abbrev pub Feeds : List Bytes → Bytes → Bytes → Fed → Bytes → Bytes → Type 0
Feeds es book out r book₁ out₁ = (r ≡ fed_by book es) × (book₁ ≡ book_from book es) × (out₁ ≡ sets out 0 (lines_from book es)) × (short book es ≡ true)

-- ---- the entries that are left

-- of the entries g, given to book₀ with their lines at the front of out₀, those of rest are left
pub record Left (g : List Bytes) (book₀ out₀ : Bytes) (rest : List Bytes) (book out : Bytes) (at written : ℕ) (ended : Bool) : Type 0 where
  pub taken : at + length (concat rest) ≡ length (concat g)
  pub lines : written + length (lines_from book rest) ≡ length (lines_from book₀ g)
  pub ending : ended || ends_in rest ≡ ends_in g
  pub booked : book_from book rest ≡ book_from book₀ g
  pub printed : sets out written (lines_from book rest) ≡ sets out₀ 0 (lines_from book₀ g)
  pub shorts : short book rest ≡ short book₀ g

module _ {g : List Bytes} {book₀ out₀ : Bytes} where
  one : {rest : List Bytes} {book out e : Bytes} {at written : ℕ} → length (line_to book e) ≤ line_max
      → Left g book₀ out₀ (e ∷ rest) book out at written false
      → Left g book₀ out₀ rest (book_after book e) (sets out written (line_to book e)) (at + length e) (written + length (line_to book e)) (ends (length e))
  one {rest} {book} {out} {e} {at} {written} h l =
      record {
        taken = omega (arith, l.taken, length-append e (concat rest));
        lines = omega (arith, l.lines, length-append (line_to book e) (lines_from (book_after book e) rest));
        ending = l.ending;
        booked = l.booked;
        printed = sets_append (line_to book e) (lines_from (book_after book e) rest) out written ∙ l.printed;
        shorts = rw (le-leb (length (line_to book e)) line_max h) at l.shorts;
      }

  done : {book out : Bytes} {at written : ℕ} {ended : Bool} → Left g book₀ out₀ [] book out at written ended
      → Feeds g book₀ out₀ (record { taken = at; written = written; ended = ended }) book out
  done {at = at} {written} {ended} l =
      let t : at ≡ length (concat g) = omega (arith, l.taken) in
      let w : written ≡ length (lines_from book₀ g) = omega (arith, l.lines) in
      (rw (t, w, or_false ended, l.ending), l.booked, l.printed, sym l.shorts)
    where
      or_false : (b : Bool) → b ≡ b || false
      or_false true = refl
      or_false false = refl

-- ---- a part

-- the first of the bytes from an index on, as the borrow checker says them
pub first_of_lem : (last : Bool) (part : Bytes) (at : ℕ) {o p : Option ℕ} → o ≡ first_width last (take (length part - at) (drop at part)) → o ≡ p
    → first_width last (drop at part) ≡ p
first_of_lem last part at e f = sym (e ∙ ap (first_width last) (take_all (length part - at) (drop at part) (omega (arith, length-drop at part)))) ∙ f

pub first_ends : (last : Bool) (part : Bytes) (at : ℕ) {w : ℕ} → at ≤ length part → first_width last (drop at part) ≡ Some w → (0 < w) × (at + w ≤ length part)
first_ends last part at h e =
    let f = first last (drop at part) e in
    (f.some, omega (arith, f.within, length-drop at part))

pub inside : (last : Bool) (part : Bytes) (at : ℕ) {o : Option ℕ} {w : ℕ} → at ≤ length part → o ≡ first_width last (take (length part - at) (drop at part)) → o ≡ Some w
    → (0 < w) × (at + w ≤ length part)
inside last part at h e f = first_ends last part at h (first_of_lem last part at e f)

pub entry_of : (part : Bytes) (at w : ℕ) → take (at + w - at) (drop at part) ≡ take w (drop at part)
entry_of part at w = let e : at + w - at ≡ w = omega arith in rw e

-- one more entry, and then what follows it
next_entry : (last : Bool) (j : Bytes) (w : ℕ) → first_width last j ≡ Some w
    → entries_at last j ≡ take w j ∷ (if ends w then [] else entries_at last (drop w j))
next_entry last j w p = go (eqb w 1) refl
  where
    go : (t : Bool) → eqb w 1 ≡ t → entries_at last j ≡ take w j ∷ (if t then [] else entries_at last (drop w j))
    go true e = let q : w ≡ 1 = eqb-true w 1 e in rw q (unique (ending (rw q at p)))
    go false e = unique (more w p (omega (arith, (first last j p).some, eqb-false w 1 e)) (split last (drop w j)))

none_fits : (room : ℕ) (book : Bytes) (es : List Bytes) → room < line_max → fitting room book es ≡ []
none_fits room book [] h = refl
none_fits room book (e ∷ es) h = rw (lt-ltb room line_max h)

one-fits : (room : ℕ) (book e : Bytes) (es : List Bytes) → line_max ≤ room
    → fitting room book (e ∷ es) ≡ e ∷ fitting (room - length (line_to book e)) (book_after book e) es
one-fits room book e es h = rw (le-ltb room line_max h)

module _ (last : Bool) (part : Bytes) (g : List Bytes) (book₀ out₀ : Bytes) where
  -- those of the bytes from the index at on are left, none when an entry has ended the journal
  pub record Going (book out : Bytes) (f : Fed) : Type 0 where
    pub left : Left g book₀ out₀ (fitting (length out - f.written) book (if f.ended then [] else entries_at last (drop f.taken part))) book out f.taken f.written f.ended
    pub within : f.taken ≤ length part
    pub fits : f.written ≤ length out

module _ {last : Bool} {part : Bytes} {g : List Bytes} {book₀ out₀ book out : Bytes} {f : Fed} (go : Going last part g book₀ out₀ book out f) where
  nothing_left : fitting (length out - f.written) book (if f.ended then [] else entries_at last (drop f.taken part)) ≡ [] → Feeds g book₀ out₀ f book out
  nothing_left e = done (subst (λ rest. Left g book₀ out₀ rest book out f.taken f.written f.ended) e go.left)

  pub no_room : length out - f.written < line_max → Feeds g book₀ out₀ f book out
  no_room h = nothing_left (none_fits (length out - f.written) book (if f.ended then [] else entries_at last (drop f.taken part)) h)

  module _ (on : f.ended ≡ false) where
    pub no_entry : first_width last (drop f.taken part) ≡ None → Feeds g book₀ out₀ f book out
    no_entry p = nothing_left (rw (on, unique {j = drop f.taken part} (none p)) refl)

    module _ {w written₁ : ℕ} {e book₁ out₁ : Bytes} (first_is : first_width last (drop f.taken part) ≡ Some w) (entry : e ≡ take w (drop f.taken part)) (room : line_max ≤ length out - f.written)
        (gives : (written₁ ≡ f.written + length (line_to book e)) × (book₁ ≡ book_after book e) × (out₁ ≡ sets out f.written (line_to book e)) × (length (line_to book e) ≤ line_max)) where
      len : length e ≡ w
      len = rw entry (length-take-le w (drop f.taken part) (first last (drop f.taken part) first_is).within)

      same : length out₁ ≡ length out
      same = ap length gives.2 ∙ length-sets out f.written (line_to book e)

      abbrev onward : List Bytes
      onward = if ends w then [] else entries_at last (drop (f.taken + w) part)

      abbrev rest : List Bytes
      rest = fitting (length out₁ - written₁) book₁ onward

      entries_are : (if f.ended then [] else entries_at last (drop f.taken part)) ≡ e ∷ onward
      entries_are = rw on (rw (drop-drop w f.taken part, ← entry) at (next_entry last (drop f.taken part) w first_is))

      left_is : fitting (length out - f.written) book (if f.ended then [] else entries_at last (drop f.taken part)) ≡ e ∷ rest
      left_is =
          let r : length out - f.written - length (line_to book e) ≡ length out₁ - written₁ = omega (arith, same, gives.0) in
          ap (fitting (length out - f.written) book) entries_are ∙ one-fits (length out - f.written) book e onward room ∙ rw (r, ← gives.1)

      after : Left g book₀ out₀ rest book₁ out₁ (f.taken + w) written₁ (ends w)
      after =
          let l : Left g book₀ out₀ (e ∷ rest) book out f.taken f.written f.ended = rw left_is at go.left in
          let o : Left g book₀ out₀ rest (book_after book e) (sets out f.written (line_to book e)) (f.taken + length e) (f.written + length (line_to book e)) (ends (length e)) = one gives.3 (rw on at l) in
          rw (← gives.0, ← gives.1, ← gives.2, len) at o

      pub goes_on : Going last part g book₀ out₀ book₁ out₁ (record { taken = f.taken + w; written = written₁; ended = ends w })
      goes_on =
          record {
            left = after;
            within = (first_ends last part f.taken go.within first_is).1;
            fits = omega (arith, same, gives.0, gives.3);
          }

-- all are left ahead of the first turn
pub starts : (last : Bool) (part book out : Bytes) → Going last part (given (length out) book last part) book out book out (record { taken = 0; written = 0; ended = false })
unfolding given
starts last part book out =
    record {
      left = rw sub-zero (record { taken = zero-add _; lines = zero-add _; ending = refl; booked = refl; printed = refl; shorts = refl });
      within = omega arith;
      fits = omega arith;
    }
