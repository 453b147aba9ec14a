-- A Wait on a record or a book of any origin is exact, and any other answer stays.
use Rattle.std.specs.Prelude.{if◌then◌else◌, Option, None, Some}
use Prim.Native.Nat.{ℕ, ◌<◌}
use mathlib.Core.Path.{◌≡◌, refl, sym, ap, ap₂, ◌∙◌}
use mathlib.Core.Bool.{Bool, true, false, ◌||◌}
use lib.ListN.{length}
use lib.IntN.{ℤ}
use lib.Dec.{eqb}
use Rattle.rules.proofs.Asked.{Timed, timed_exact, timed_for_good, refused_always, ask_timed, decision_exact}
use Rattle.rules.specs.Bytes.{Bytes, fits}
use Rattle.rules.specs.Answers.{Answer, Opened, Used, Wait, Settle, Done, Refused, is_refused}
use Rattle.rules.specs.Exact.{Exact, ForGood}
use Rattle.rules.specs.Series.{Command, Ask}
use Rattle.rules.specs.Record.{series_count, book_size, stored}
use Rattle.rules.specs.Entries.{entry}
use Rattle.rules.specs.Book.{record_at, stored_answer, answer_to, book_after}
use Rattle.rules.specs.Ledger.{command_to}
use Rattle.claims.specs.Demand3.{is_ask, may_stand}
use Rattle.claims.specs.ExactWaits.{asks, ExactWaits}
use Rattle.claims.proofs.Waits.{ask_entry}
use Rattle.claims.proofs.Kept.{refusal_keeps, others_keep, ask_keeps, length-after}

-- ---- answers that are the same at every time that fits

module _ {f g : ℤ → Answer} (same : (at : ℤ) → fits at ≡ true → f at ≡ g at) (now : ℤ) (fn : fits now ≡ true) where
  exact_as : (until : ℤ) → Exact g now until → Exact f now until
  exact_as until x =
      record {
        later = x.later;
        in_range = x.in_range;
        same = λ at fa from to. same at fa ∙ x.same at fa from to;
        other = λ e. x.other (sym (same until x.in_range) ∙ e);
      }

  for_good_as : ForGood g now → ForGood f now
  for_good_as x = λ later fl l. same later fl ∙ x later fl l ∙ sym (same now fn)

-- ---- an ask on a book

module _ (s : ℕ) (small : s < series_count) where
  -- it is answered by whether the book has its length, and by the record
  abbrev asked_of : Bool → Bytes → ℤ → Answer
  asked_of right bs at = if right then stored_answer (stored bs) (Ask at) else Refused 35

  asked_of_lem : (book : Bytes) (at : ℤ) → fits at ≡ true → asks book s at ≡ asked_of (eqb (length book) book_size) (record_at s book) at
  unfolding answer_to
  asked_of_lem book at f = rw (ask_entry s at small f)

  asked_timed : (right : Bool) (bs : Bytes) → Timed (asked_of right bs)
  asked_timed true bs = ask_timed bs
  asked_timed false bs = refused_always 35

  module _ (book : Bytes) (now : ℤ) (f : fits now ≡ true) where
    timed : Timed (asked_of (eqb (length book) book_size) (record_at s book))
    timed = asked_timed (eqb (length book) book_size) (record_at s book)

    asked_exact : (until : ℤ) → asks book s now ≡ Wait until → Exact (asks book s) now until
    asked_exact until w = exact_as (asked_of_lem book) now f until (timed_exact timed now until (sym (asked_of_lem book now f) ∙ w))

    asked_for_good : ((until : ℤ) → asks book s now ≡ Wait until → ⊥) → ForGood (asks book s) now
    asked_for_good other = for_good_as (asked_of_lem book) now f (timed_for_good timed now (λ until e. other until (asked_of_lem book now f ∙ e)))

  -- ---- an entry that may stand between the asks

  refused-keeps : (book e : Bytes) (a : Answer) → answer_to book e ≡ a → is_refused a ≡ true → book_after book e ≡ book
  refused-keeps book e (Refused r) q h = refusal_keeps book e r q
  refused-keeps book e Opened q h = cc
  refused-keeps book e (Used i l f) q h = cc
  refused-keeps book e (Wait t) q h = cc
  refused-keeps book e Done q h = cc
  refused-keeps book e (Settle m p n) q h = cc
  refused-keeps book e Answer.Void q h = cc

  record_kept : (book e : Bytes) → may_stand (command_to s (entry e)) (answer_to book e) ≡ true → record_at s (book_after book e) ≡ record_at s book
  record_kept book e h = go (command_to s (entry e)) refl h
    where
      go : (x : Option Command) → command_to s (entry e) ≡ x → may_stand x (answer_to book e) ≡ true → record_at s (book_after book e) ≡ record_at s book
      go None q h = others_keep book e s q
      go (Some c) q h = ap (record_at s) (at (is_ask c) refl h)
        where
          at : (b : Bool) → is_ask c ≡ b → b || is_refused (answer_to book e) ≡ true → book_after book e ≡ book
          at true a h = ask_keeps book e s c q a
          at false a h = refused-keeps book e (answer_to book e) refl h

  unmoved : (book e : Bytes) → may_stand (command_to s (entry e)) (answer_to book e) ≡ true → (at : ℤ) → fits at ≡ true → asks (book_after book e) s at ≡ asks book s at
  unmoved book e h at f =
      asked_of_lem (book_after book e) at f
      ∙ ap₂ (λ (n : ℕ) (bs : Bytes). asked_of (eqb n book_size) bs at) (length-after book e) (record_kept book e h)
      ∙ sym (asked_of_lem book at f)

pub exact_waits : ExactWaits
exact_waits =
    record {
      decision = decision_exact;
      asked = λ book s small now until f w. asked_exact s small book now f until w;
      otherwise = λ book s small now f other. asked_for_good s small book now f other;
      meanwhile = λ book e s small h at f. unmoved s small book e h at f;
    }
