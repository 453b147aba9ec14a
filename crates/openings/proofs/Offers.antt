-- What an offer answers and leaves where the core tests the terms and the state.
use Rattle.std.specs.Prelude.{if◌then◌else◌, Option, Err}
use Prim.Native.Nat.{ℕ, ◌*◌}
use mathlib.Core.Path.{◌≡◌, refl, sym, ap, ◌∙◌}
use mathlib.Core.Bool.{Bool, true, false, not, ◌&&◌}
use mathlib.Core.List.{List}
use lib.IntN.{ℤ, pos, negsuc, nat_abs}
use lib.Signed.{le_z}
use lib.Dec.{ltb}
use Rattle.rules.specs.Bytes.{Bytes, word}
use Rattle.rules.specs.Answers.{Result, ok, refused, Answer, Used, Refused, is_used}
use Rattle.rules.specs.Terms.{good_terms}
use Rattle.rules.specs.Prints.{Print, good_print, new_print, Quote, eq_z, accept}
use Rattle.rules.specs.Taking.{Candidates, slot_for, usable, times_fit, sum_fits, print_answer, offer_answer, offer_placed}
use Rattle.rules.specs.State.{Parts, candidates_of, parts_of, good_state, offer_call, offer_state}
use Rattle.rules.specs.Series.{Opening, Offer, Series, step}
use Rattle.rules.specs.Record.{open_record, bytes_of}
use Rattle.rules.specs.Book.{look, replaced, stored_answer, written}
use Rattle.record_store.specs.Prices.{with_price}
use Rattle.book.specs.declared.refusal.Refusal.{Refusal}
use Rattle.book.specs.Refusals.{in_book, refusal_number, found_of}
use Rattle.record_test.specs.Statuses.{status_in}
use Rattle.answers.specs.Commands.{answer_at, after_at, use_of}
use Rattle.answers.proofs.Commands.{not_used, not_open, tested_as, tested}

-- ---- acceptance and the core don't refuse with 12

moved : (m n : ℕ) → ◌≡◌ {A = Result Print} (refused m) (refused n) → in_book m ≡ m → in_book n ≡ n
moved m n e h = let i : m ≡ n = cc in rw (← i) h

chosen : (a b d g : Bool) (p : Print) (n : ℕ) → (if a then refused 13 else (if not b then refused 16 else (if d then refused 17 else (if g then ok p else refused 13)))) ≡ refused n → in_book n ≡ n
chosen true b d g p n e = moved 13 n e refl
chosen false false d g p n e = moved 16 n e refl
chosen false true true g p n e = moved 17 n e refl
chosen false true false true p n e = cc
chosen false true false false p n e = moved 13 n e refl

accept-number : (e : ℤ) (bps : ℕ) (q : Quote) (n : ℕ) → accept e bps q ≡ refused n → in_book n ≡ n
unfolding accept new_print
accept-number e bps q n h =
    let p : Print = record { price = nat_abs q.price; published = q.published; prev = q.prev } in
    chosen (le_z q.price (pos 0)) (eq_z q.exponent e) (ltb (nat_abs q.price * bps) (q.conf * 10_000)) (good_print p) p n h

answered : (m n : ℕ) → Refused m ≡ Refused n → in_book m ≡ m → in_book n ≡ n
answered m n e h = let i : m ≡ n = cc in rw (← i) h

printed_number : (a b : Bool) (u v : Option ℕ) (f : Bool) (n : ℕ) → (if not a then Refused 0 else (if not b then Refused 14 else Used u v f)) ≡ Refused n → in_book n ≡ n
printed_number false b u v f n e = answered 0 n e refl
printed_number true false u v f n e = answered 14 n e refl
printed_number true true u v f n e = cc

print-number : (o : Opening) (c : Candidates) (p : Print) (n : ℕ) → print_answer o.terms o.expiry c p ≡ Refused n → in_book n ≡ n
unfolding print_answer
print-number o c p n e =
    printed_number (times_fit o.terms o.expiry && sum_fits o.terms o.expiry c p) (usable o.terms o.expiry c p) _ _ _ n e

-- ---- what an accepted print is used for

-- the price of an accepted quote, in 64 bits
priced : (a b d g : Bool) (p x : Print) → (if a then refused 13 else (if not b then refused 16 else (if d then refused 17 else (if g then ok p else refused 13)))) ≡ ok x → (a ≡ false) × (p ≡ x)
priced true b d g p x e = (cc, cc)
priced false false d g p x e = (cc, cc)
priced false true true g p x e = (cc, cc)
priced false true false true p x e = (refl, cc)
priced false true false false p x e = (cc, cc)

above_zero : (z : ℤ) → le_z z (pos 0) ≡ false → word 64 z ≡ nat_abs z
unfolding word
above_zero (pos n) h = refl
above_zero (negsuc n) h = cc

accepted-price : (e : ℤ) (bps : ℕ) (q : Quote) (x : Print) → accept e bps q ≡ ok x → word 64 q.price ≡ x.price
unfolding accept new_print
accepted-price e bps q x h =
    let p : Print = record { price = nat_abs q.price; published = q.published; prev = q.prev } in
    let (positive, same) = priced (le_z q.price (pos 0)) (eq_z q.exponent e) (ltb (nat_abs q.price * bps) (q.conf * 10_000)) (good_print p) p x h in
    above_zero q.price positive ∙ ap (λ (y : Print). y.price) same

-- the slot in the answer is the one that the print fills
slot_of : (a b : Bool) (i u v w : Option ℕ) (f g : Bool) → (if not a then Refused 0 else (if not b then Refused 14 else Used i w g)) ≡ Used u v f → u ≡ i
slot_of false b i u v w f g e = cc
slot_of true false i u v w f g e = cc
slot_of true true i u v w f g e = cc

slot-used : (o : Opening) (c : Candidates) (p : Print) (u v : Option ℕ) (f : Bool) → print_answer o.terms o.expiry c p ≡ Used u v f → u ≡ slot_for o.terms o.expiry c p
unfolding print_answer
slot-used o c p u v f e =
    slot_of (times_fit o.terms o.expiry && sum_fits o.terms o.expiry c p) (usable o.terms o.expiry c p) (slot_for o.terms o.expiry c p) u v _ f _ e

-- ---- an offer to an open record

module _ (book : Bytes) (s : ℕ) (o : Opening) (p : Parts) (prices : List ℕ) (q : Quote) (now : ℤ) where
  abbrev c : Candidates
  c = candidates_of p

  abbrev accepted : Result Print
  accepted = accept o.terms.exponent o.bps q

  abbrev call : Answer
  call = offer_call o.terms o.bps o.expiry p q

  abbrev found : Result Series
  found = tested o p prices

  -- the call, by the tests and the acceptance
  abbrev call_of : Bool → Bool → Result Print → Answer
  call_of g k x = if not g then Refused 12 else (if not k then Refused 11 else offer_answer o.terms o.expiry c x)

  pub offer_refused : (n : ℕ) → call ≡ Refused n → (Refused (in_book n) ≡ stored_answer found (Offer q now)) × (book ≡ written s book found (Offer q now))
  unfolding offer_call step
  offer_refused n h = go (good_terms o.terms) (good_state o.terms p) accepted refl h
    where
      number : (m : ℕ) → Refused m ≡ Refused n → m ≡ n
      number m e = cc

      go : (g k : Bool) (x : Result Print) → accepted ≡ x → call_of g k x ≡ Refused n
          → (Refused (in_book n) ≡ stored_answer (tested_as (g && k) o p prices) (Offer q now)) × (book ≡ written s book (tested_as (g && k) o p prices) (Offer q now))
      go false k x e h = rw (← number 12 h) (refl, refl)
      go true false x e h = rw (← number 11 h) (refl, refl)
      go true true (refused m) e h =
          let i = number m h in
          rw e (ap Refused (accept-number o.terms.exponent o.bps q n (e ∙ ap refused i) ∙ sym i), refl)
      go true true (ok x) e h = rw (e, h) (ap Refused (print-number o c x n h), refl)

  -- with the price in 64 bits
  pub offer_used : (u v : Option ℕ) (f : Bool) → call ≡ Used u v f
      → (Used u v f ≡ stored_answer found (Offer q now))
      × (replaced s (open_record o (offer_state o.terms o.bps o.expiry p q now) (with_price prices u (word 64 q.price))) book ≡ written s book found (Offer q now))
  unfolding offer_call offer_state step bytes_of
  offer_used u v f h = go (good_terms o.terms) (good_state o.terms p) accepted refl h
    where
      go : (g k : Bool) (x : Result Print) → accepted ≡ x → call_of g k x ≡ Used u v f
          → (Used u v f ≡ stored_answer (tested_as (g && k) o p prices) (Offer q now))
          × (replaced s (open_record o (if is_used (call_of g k x) then parts_of (offer_placed o.terms o.expiry c x now) else p) (with_price prices u (word 64 q.price))) book ≡ written s book (tested_as (g && k) o p prices) (Offer q now))
      go false k x e h = (cc, cc)
      go true false x e h = (cc, cc)
      go true true (refused m) e h = (cc, cc)
      go true true (ok x) e h =
          rw (e, h, accepted-price o.terms.exponent o.bps q x e, slot-used o c x u v f h) (refl, refl)

-- ---- an offer to a series that is not open

pub unused_told : (book : Bytes) (s : ℕ) (q : Quote) (now : ℤ) (r : Refusal) → found_of {A = Unit} (Err r) ≡ use_of (status_in (look book s)) → Refused (refusal_number r) ≡ answer_at book s (Offer q now)
unfolding step
unused_told book s q now r h = (not_used book s (Offer q now) refl (λ r o h a at. refl) (refusal_number r) h).0

pub unused_left : (book : Bytes) (s : ℕ) (q : Quote) (now : ℤ) → (use_of (status_in (look book s)) ≡ ok tt → ⊥) → after_at book s (Offer q now) ≡ book
unfolding step
unused_left book s q now h = not_open book s (Offer q now) refl (λ r o h a at. refl) h
