-- What an ask and a fix answer and leave where the core tests the terms and the state.
use Rattle.std.specs.Prelude.{Err}
use Prim.Native.Nat.{ℕ}
use mathlib.Core.Path.{◌≡◌, refl, sym, ap, ◌∙◌}
use mathlib.Core.Bool.{true, false}
use mathlib.Core.List.{List, []}
use native.Mathlib.Omega.{arith}
use lib.IntN.{ℤ}
use mir.Syntax.{w64}
use mir.Val.{SFits, to_z, of_z}
use mir.Facts.{to_z-of_z}
use Rattle.rules.specs.Bytes.{Bytes}
use Rattle.rules.specs.Answers.{Result, ok, Method, method, Answer, Refused, final}
use Rattle.rules.specs.Terms.{Terms, good_exponent, terms_tests, good_terms}
use Rattle.rules.specs.Mean.{mean}
use Rattle.rules.specs.Decision.{settle, voted, decide}
use Rattle.rules.specs.Taking.{Candidates}
use Rattle.rules.specs.State.{Parts, candidates_of, parts_of, good_state, decide_call}
use Rattle.rules.specs.Series.{Ask, Fix, Opening, Series, step}
use Rattle.rules.specs.Record.{opening_in, parts_in, prices_in, fixed_record, bytes_of}
use Rattle.rules.specs.Book.{look, record_at, replaced, stored_answer, written}
use Rattle.rules.proofs.Bools.{every_at}
use Rattle.rules.proofs.Decision.{decide_each}
use Rattle.core_decide.specs.declared.decide.Decision.{Decision}
use Rattle.core_decide.specs.Decisions as D
use Rattle.core_parts.specs.States.{value_or}
use Rattle.book.specs.declared.refusal.Refusal.{Refusal}
use Rattle.book.specs.Refusals.{in_book, refusal_number, found_of}
use Rattle.record_read.specs.Records.{outcome_in}
use Rattle.record_test.specs.declared.status.Status.{Status}
use Rattle.record_test.specs.declared.status.Status.TheVariants as S
use Rattle.record_test.specs.Statuses.{status_in, decision_in}
use Rattle.record_test.proofs.Statuses.{is_refused, not_refused}
use Rattle.answers.specs.Commands.{Untested, answer_at, after_at, use_of, book_answer}
use Rattle.answers.proofs.Commands.{answered, not_used, not_open, tested, open_found, open_kept, decided_in}

-- ---- the decision by the core's call, which tests the terms and the state

-- the decision on good terms is not refused with 12
settled : (e : ℤ) (m : Method) (sum samples : ℕ) → good_exponent e ≡ true → book_answer (settle e m sum samples) ≡ settle e m sum samples
unfolding mean
settled e m sum samples g = grind (arith, g)

on_good_terms : (t : Terms) (E : ℤ) (c : Candidates) (now : ℤ) → good_terms t ≡ true → book_answer (decide t E c now) ≡ decide t E c now
unfolding good_terms
on_good_terms t E c now g =
    let h = every_at (terms_tests t) 12 g in
    decide_each (λ a. book_answer a ≡ a) t E c now voted (λ _. refl) refl refl
    (settled _ _ _ _ h) (settled _ _ _ _ h) (settled _ _ _ _ h) (settled _ _ _ _ h) (λ _. settled _ _ _ _ h)

module _ (o : Opening) (p : Parts) (prices : List ℕ) (now : ℤ) where
  abbrev call : Answer
  call = decide_call voted o.terms o.expiry p now

  ask_called : book_answer call ≡ stored_answer (tested o p prices) (Ask now)
  unfolding decide_call step
  ask_called = grind (arith, on_good_terms)

  -- what a fix answers and leaves, by what is stored
  abbrev FixIs : Bytes → ℕ → Answer → Bytes → Type 0
  FixIs book s a after = (a ≡ stored_answer (tested o p prices) (Fix now)) × (after ≡ written s book (tested o p prices) (Fix now))

  fix_refused : (book : Bytes) (s n : ℕ) → call ≡ Refused n → FixIs book s (Refused (in_book n)) book
  unfolding decide_call step
  fix_refused book s n e = grind (arith, e, on_good_terms o.terms o.expiry (candidates_of p) now)

  fix_waits : (book : Bytes) (s : ℕ) (d : Decision) → call ≡ D.answer_of d → final (D.answer_of d) ≡ false → FixIs book s (Refused 39) book
  unfolding decide_call step
  fix_waits book s d e f = grind (arith, e, f)

  fix_done : (book : Bytes) (s : ℕ) (d : Decision) → call ≡ D.answer_of d → final (D.answer_of d) ≡ true
      → (good_state o.terms p ≡ true → parts_of (candidates_of p) ≡ p)
      → FixIs book s (D.answer_of d) (replaced s (fixed_record voted o p prices (D.answer_of d) now) book)
  unfolding decide_call step bytes_of
  fix_done book s d e f k = grind (arith, e, f, k)

-- ---- the commands on a record that the core tests, by the decision on the bytes of a look

-- a time as the machine hands it on, in bits
abbrev sent : ℤ → ℤ
sent z = to_z w64 (of_z w64 z)

module _ (book : Bytes) (s : ℕ) (h : Untested book s) (now : ℤ) where
  abbrev o : Opening
  o = opening_in (record_at s book)

  abbrev p : Parts
  p = parts_in (record_at s book)

  abbrev prices : List ℕ
  prices = prices_in (record_at s book)

  asked : {a : Answer} → call o p prices now ≡ a → book_answer a ≡ answer_at book s (Ask now)
  asked e = sym (ap book_answer e) ∙ ask_called o p prices now ∙ ap (λ (x : Result Series). stored_answer x (Ask now)) (open_found book s h)

  at_book : {a : Answer} {after : Bytes} → FixIs o p prices now book s a after → (a ≡ answer_at book s (Fix now)) × (after ≡ after_at book s (Fix now))
  at_book (x, y) =
      let e = open_found book s h in
      (x ∙ ap (λ (z : Result Series). stored_answer z (Fix now)) e, y ∙ ap (λ (z : Result Series). written s book z (Fix now)) e)

  module _ (f : SFits w64 now) {r : Bytes} (l : r ≡ value_or [] (look book s)) where
    call_is : {a : Answer} → a ≡ decision_in r (sent now) → call o p prices now ≡ a
    call_is e = sym ((simp to_z-of_z at e) ∙ decided_in book s h l now)

    pub ask_told : {a d : Answer} → d ≡ decision_in r (sent now) → a ≡ book_answer d → a ≡ answer_at book s (Ask now)
    ask_told e k = k ∙ asked (call_is e)

    pub fix_turned : {m n : ℕ} → Refused n ≡ decision_in r (sent now) → m ≡ in_book n → (Refused m ≡ answer_at book s (Fix now)) × (book ≡ after_at book s (Fix now))
    fix_turned e k = rw k (at_book (fix_refused o p prices now book s _ (call_is e)))

    pub fix_pending : (d : Decision) → D.answer_of d ≡ decision_in r (sent now) → final (D.answer_of d) ≡ false → (Refused 39 ≡ answer_at book s (Fix now)) × (book ≡ after_at book s (Fix now))
    fix_pending d e t = at_book (fix_waits o p prices now book s d (call_is e) t)

    pub fix_made : (d : Decision) {a : Answer} {after : Bytes} → D.answer_of d ≡ decision_in r (sent now) → final (D.answer_of d) ≡ true
        → a ≡ D.answer_of d → after ≡ replaced s (fixed_record voted o p prices (D.answer_of d) (sent now)) book
        → (a ≡ answer_at book s (Fix now)) × (after ≡ after_at book s (Fix now))
    fix_made d e t k b =
        let (x, y) = at_book (fix_done o p prices now book s d (call_is e) t (open_kept book s h)) in
        (k ∙ x, b ∙ ap (λ (t : ℤ). replaced s (fixed_record voted o p prices (D.answer_of d) t) book) (to_z-of_z f) ∙ y)

-- ---- a fix of a series that is not open

pub unused_told : (book : Bytes) (s : ℕ) (now : ℤ) (r : Refusal) → found_of {A = Unit} (Err r) ≡ use_of (status_in (look book s)) → Refused (refusal_number r) ≡ answer_at book s (Fix now)
unfolding step
unused_told book s now r h = (not_used book s (Fix now) refl (λ r o h a at. refl) (refusal_number r) h).0

pub unused_left : (book : Bytes) (s : ℕ) (now : ℤ) → (use_of (status_in (look book s)) ≡ ok tt → ⊥) → after_at book s (Fix now) ≡ book
unfolding step
unused_left book s now h = not_open book s (Fix now) refl (λ r o h a at. refl) h

-- ---- an ask of a fixed series

-- no outcome is refused with 12
plainly : (bs : Bytes) → book_answer (outcome_in bs) ≡ outcome_in bs
unfolding method
plainly bs = grind arith

pub fixed_told : (book : Bytes) (s : ℕ) (now : ℤ) {r : Bytes} {a d : Answer} → ok S.Fixed ≡ status_in (look book s) → r ≡ value_or [] (look book s)
    → d ≡ outcome_in r → a ≡ book_answer d → a ≡ answer_at book s (Ask now)
unfolding step
fixed_told book s now h l e k =
    let own = l ∙ ap (value_or []) (not_refused book s (ap is_refused (sym h))) in
    k ∙ ap book_answer (e ∙ ap outcome_in own) ∙ plainly (record_at s book) ∙ answered book s h refl (Ask now)

-- ---- an ask elsewhere

pub ask_empty : (book : Bytes) (s : ℕ) (now : ℤ) → ok S.Empty ≡ status_in (look book s) → Refused 37 ≡ answer_at book s (Ask now)
unfolding step
ask_empty book s now h = answered book s h refl (Ask now)

pub ask_refused : (book : Bytes) (s : ℕ) (now : ℤ) (r : Refusal) → found_of {A = Status} (Err r) ≡ status_in (look book s) → Refused (refusal_number r) ≡ answer_at book s (Ask now)
ask_refused book s now r h = answered book s h refl (Ask now)
