-- What is stored in a record, by its tag and the tests that the code makes.
use Rattle.std.specs.Prelude.{if◌then◌else◌}
use Prim.Native.Nat.{ℕ, zero, suc, ◌≤◌, ◌<◌}
use mathlib.Core.Path.{◌≡◌, refl, sym, ap, ◌∙◌}
use mathlib.Core.Bool.{Bool, true, false, not, ◌&&◌}
use mathlib.Core.List.{[], ◌∷◌}
use native.Mathlib.Omega.{arith}
use lib.ListN.{length, take, drop, drop_of_length-le}
use lib.IntN.{ℤ}
use lib.Dec.{ltb, leb, eqb}
use borrow.Author.Tests.{ltb-true, ltb-false, lt-ltb, le-ltb, le-leb, lt-leb, eq-eqb, ne_eqb, eqb-true, eqb-false}
use Rattle.rules.specs.Log.{every}
use Rattle.rules.specs.Bytes.{Bytes, are_bytes, all_zero, little, unsigned_at}
use Rattle.rules.specs.Answers.{Result, ok, refused, Answer, Refused}
use Rattle.rules.specs.Terms.{Terms, good_terms}
use Rattle.rules.specs.Decision.{voted}
use Rattle.rules.specs.State.{Parts, candidates_of, good_state, decide_call}
use Rattle.rules.specs.Series.{empty, live, decided_by}
use Rattle.rules.specs.Brought.{left_by_prints}
use Rattle.rules.specs.Record.{record_size, book_size, series_count, good_prices, opening_in, parts_in, holdings_in, tag_in, fixing_time_in, order_in, series_in, body_tests, open_tests, fixed_tests, standing, acceptable, stored}
use Rattle.rules.specs.Book.{record_at, look}
use Rattle.rules.proofs.Bools.{both, not_both, and_true, and_false}
use Rattle.rules.proofs.Bytes.{drop-bytes, little-below}
use Rattle.endian.proofs.Offsets.{joined_at}
use Rattle.book.specs.Looks.{Allowed}
use Rattle.record_test.specs.declared.status.Status.{Status}
use Rattle.record_test.specs.declared.status.Status.TheVariants as S
use Rattle.record_test.specs.Statuses.{good_body, good_holdings, status_as, status_of, status_in, stored_in, stored_at, decision_in}

-- ---- the record, by its tag

module _ (bs : Bytes) where
  pub stored_zero : (b : Bool) → tag_in bs ≡ 0 → all_zero bs ≡ b → stored bs ≡ (if b then ok empty else refused 11)
  unfolding stored acceptable series_in
  stored_zero b t e = rw (t, e)

  pub stored-above : 3 < tag_in bs → stored bs ≡ refused 11
  unfolding stored acceptable
  stored-above h = rw (ne_eqb (tag_in bs) 0 (omega arith), ne_eqb (tag_in bs) 1 (omega arith), lt-leb (tag_in bs) 3 h)

  pub stored-spoilt : (tag_in bs ≡ 0 → ⊥) → every (body_tests bs) ≡ false → stored bs ≡ refused 11
  unfolding stored acceptable
  stored-spoilt h e = rw (ne_eqb (tag_in bs) 0 h, e) (go (eqb (tag_in bs) 1) (leb (tag_in bs) 3))
    where
      go : (x y : Bool) → (if (if x then false else (if y then false else false)) then ok (series_in bs) else refused 11) ≡ refused 11
      go true y = refl
      go false true = refl
      go false false = refl

  -- where bytes 37 to 39 are not zero, whatever the terms and the state are
  pub not_padded : eqb (unsigned_at bs 37 3) 0 ≡ false → every (body_tests bs) ≡ false
  not_padded e = simp (e, and_false)

  -- where slot prices and candidates are not such as prints leave
  pub not_left : good_holdings bs ≡ false → every (body_tests bs) ≡ false
  not_left e = go (good_prices (holdings_in bs)) (left_by_prints (opening_in bs) (holdings_in bs)) e
    where
      go : (x y : Bool) → x && y ≡ false → good_terms (opening_in bs).terms && (good_state (opening_in bs).terms (parts_in bs) && (eqb (unsigned_at bs 37 3) 0 && (x && (y && true)))) ≡ false
      go true false e = simp and_false
      go false y e = simp and_false
      go true true e = absurd (not_both refl e)

  -- where those are zero and these are such, by the terms and the state
  pub body_is : {t : Terms} {s : Parts} → t ≡ (opening_in bs).terms → s ≡ parts_in bs → unsigned_at bs 37 3 ≡ 0 → good_holdings bs ≡ true
      → every (body_tests bs) ≡ good_terms t && good_state t s
  body_is et es e p =
      let (x, y) = both (good_prices (holdings_in bs)) (left_by_prints (opening_in bs) (holdings_in bs)) p in
      simp (eq-eqb (unsigned_at bs 37 3) 0 e, x, y, and_true) (λ i. good_terms (sym et i) && good_state (sym et i) (sym es i))

  -- there, an open and a fixed record
  pub open_status : (b : Bool) → tag_in bs ≡ 1 → unsigned_at bs 37 3 ≡ 0 → good_holdings bs ≡ true → every (open_tests bs) ≡ b → (if b then status_as (ok S.Untested) bs else refused 11) ≡ stored bs
  unfolding stored acceptable series_in
  open_status b t p g f = rw (t, body_is refl refl p g, f) (go (good_body bs) b)
    where
      go : (x y : Bool) → (if y then (if x then ok (live (opening_in bs) (holdings_in bs)) else refused 11) else refused 11)
          ≡ (if x && y then ok (live (opening_in bs) (holdings_in bs)) else refused 11)
      go true y = refl
      go false true = refl
      go false false = refl

  pub fixed_status : (b : Bool) → eqb (tag_in bs) 0 ≡ false → eqb (tag_in bs) 1 ≡ false → tag_in bs ≤ 3 → unsigned_at bs 37 3 ≡ 0 → good_holdings bs ≡ true
      → b ≡ good_body bs && every (fixed_tests bs) → (if b then status_as (ok S.Fixed) bs else refused 11) ≡ stored bs
  unfolding stored acceptable series_in
  fixed_status b x y t p g f = rw (x, y, le-leb (tag_in bs) 3 t, body_is refl refl p g, f)

  -- the decision at the fixing time, by the record's order
  abbrev pub again : Answer
  again = decided_by (order_in bs) (opening_in bs) (candidates_of (parts_in bs)) (fixing_time_in bs)

  -- the core's call for it, which tests the terms and the state
  abbrev pub called : Answer
  called = decide_call (order_in bs) (opening_in bs).terms (opening_in bs).expiry (parts_in bs) (fixing_time_in bs)

  pub fixed_called : every (standing bs called) ≡ good_body bs && every (fixed_tests bs)
  unfolding decide_call
  fixed_called = go (good_terms (opening_in bs).terms) (good_state (opening_in bs).terms (parts_in bs))
    where
      go : (x y : Bool) → every (standing bs (if not x then Refused 12 else (if not y then Refused 11 else again))) ≡ (x && y) && every (standing bs again)
      go true true = refl
      go true false = refl
      go false y = refl

  -- what is stored, by the status
  pub status_stored : status_as (status_of bs) bs ≡ stored bs
  status_stored = go (eqb (tag_in bs) 0) (ltb 3 (tag_in bs)) (eqb (unsigned_at bs 37 3) 0) (good_holdings bs) (eqb (tag_in bs) 1) refl refl refl refl refl
    where
      zero_tag : (b : Bool) → tag_in bs ≡ 0 → all_zero bs ≡ b → status_as (if b then ok S.Empty else refused 11) bs ≡ stored bs
      zero_tag true t e = sym (stored_zero true t e)
      zero_tag false t e = sym (stored_zero false t e)

      one_tag : (b : Bool) → tag_in bs ≡ 1 → unsigned_at bs 37 3 ≡ 0 → good_holdings bs ≡ true → every (open_tests bs) ≡ b → status_as (if b then ok S.Untested else refused 11) bs ≡ stored bs
      one_tag true t p g e = open_status true t p g e
      one_tag false t p g e = open_status false t p g e

      fixed_tag : (b : Bool) → eqb (tag_in bs) 0 ≡ false → eqb (tag_in bs) 1 ≡ false → tag_in bs ≤ 3 → unsigned_at bs 37 3 ≡ 0 → good_holdings bs ≡ true
          → b ≡ good_body bs && every (fixed_tests bs) → status_as (if b then ok S.Fixed else refused 11) bs ≡ stored bs
      fixed_tag true x y t p g e = fixed_status true x y t p g e
      fixed_tag false x y t p g e = fixed_status false x y t p g e

      go : (x y p g z : Bool) → eqb (tag_in bs) 0 ≡ x → ltb 3 (tag_in bs) ≡ y → eqb (unsigned_at bs 37 3) 0 ≡ p → good_holdings bs ≡ g → eqb (tag_in bs) 1 ≡ z
          → status_as (if x then (if all_zero bs then ok S.Empty else refused 11) else (if y then refused 11 else (if not p then refused 11 else (if not g then refused 11 else
          (if z then (if every (open_tests bs) then ok S.Untested else refused 11) else (if good_body bs && every (fixed_tests bs) then ok S.Fixed else refused 11)))))) bs ≡ stored bs
      go true y p g z ex ey ep eg ez = zero_tag (all_zero bs) (eqb-true (tag_in bs) 0 ex) refl
      go false true p g z ex ey ep eg ez = sym (stored-above (ltb-true 3 (tag_in bs) ey))
      go false false false g z ex ey ep eg ez = sym (stored-spoilt (eqb-false (tag_in bs) 0 ex) (not_padded ep))
      go false false true false z ex ey ep eg ez = sym (stored-spoilt (eqb-false (tag_in bs) 0 ex) (not_left eg))
      go false false true true true ex ey ep eg ez = one_tag (every (open_tests bs)) (eqb-true (tag_in bs) 1 ez) (eqb-true (unsigned_at bs 37 3) 0 ep) eg refl
      go false false true true false ex ey ep eg ez =
          fixed_tag (good_body bs && every (fixed_tests bs)) ex ez (ltb-false 3 (tag_in bs) ey) (eqb-true (unsigned_at bs 37 3) 0 ep) eg refl

  -- what is known of an empty record, and of one that is still to be tested
  abbrev status_by : Bool → Bool → Bool → Bool → Bool → Bool → Bool → Bool → Result Status
  status_by x a y p g z o f =
      if x then (if a then ok S.Empty else refused 11) else (if y then refused 11 else (if not p then refused 11 else (if not g then refused 11 else
      (if z then (if o then ok S.Untested else refused 11) else (if f then ok S.Fixed else refused 11)))))

  pub empty_zero : status_of bs ≡ ok S.Empty → all_zero bs ≡ true
  empty_zero e = go (eqb (tag_in bs) 0) (all_zero bs) (ltb 3 (tag_in bs)) (eqb (unsigned_at bs 37 3) 0) (good_holdings bs) (eqb (tag_in bs) 1) (every (open_tests bs)) (good_body bs && every (fixed_tests bs)) e
    where
      go : (x a y p g z o f : Bool) → status_by x a y p g z o f ≡ ok S.Empty → a ≡ true
      go true true y p g z o f e = refl
      go true false y p g z o f e = cc
      go false a true p g z o f e = cc
      go false a false false g z o f e = cc
      go false a false true false z o f e = cc
      go false a false true true true true f e = cc
      go false a false true true true false f e = cc
      go false a false true true false o true e = cc
      go false a false true true false o false e = cc

  pub untested_left : status_of bs ≡ ok S.Untested → good_holdings bs ≡ true
  untested_left e = go (eqb (tag_in bs) 0) (all_zero bs) (ltb 3 (tag_in bs)) (eqb (unsigned_at bs 37 3) 0) (good_holdings bs) (eqb (tag_in bs) 1) (every (open_tests bs)) (good_body bs && every (fixed_tests bs)) e
    where
      go : (x a y p g z o f : Bool) → status_by x a y p g z o f ≡ ok S.Untested → g ≡ true
      go true true y p g z o f e = cc
      go true false y p g z o f e = cc
      go false a true p g z o f e = cc
      go false a false false g z o f e = cc
      go false a false true false z o f e = cc
      go false a false true true z o f e = refl

  -- by the vote, since its tag is 1
  pub untested_voted : status_of bs ≡ ok S.Untested → order_in bs ≡ voted
  untested_voted e = go (eqb (tag_in bs) 0) (all_zero bs) (ltb 3 (tag_in bs)) (eqb (unsigned_at bs 37 3) 0) (good_holdings bs) (eqb (tag_in bs) 1) (every (open_tests bs)) (good_body bs && every (fixed_tests bs)) refl e
    where
      go : (x a y p g z o f : Bool) → eqb (tag_in bs) 1 ≡ z → status_by x a y p g z o f ≡ ok S.Untested → order_in bs ≡ voted
      go true true y p g z o f h e = cc
      go true false y p g z o f h e = cc
      go false a true p g z o f h e = cc
      go false a false false g z o f h e = cc
      go false a false true false z o f h e = cc
      go false a false true true true o f h e = rw (eqb-true (tag_in bs) 1 h)
      go false a false true true false o true h e = cc
      go false a false true true false o false h e = cc

-- ---- the padding

-- three bytes above another in a number are zero where it is a byte
pub padded_is : (bs : Bytes) → are_bytes bs ≡ true → (n : ℕ) → n ≡ unsigned_at bs 36 4 → ltb n 256 ≡ eqb (unsigned_at bs 37 3) 0
unfolding unsigned_at
padded_is bs are n e = go (eqb (unsigned_at bs 37 3) 0) refl
  where
    ne_zero : {k : ℕ} → (k ≡ 0 → ⊥) → 0 < k
    ne_zero {k} h = omega arith

    below : unsigned_at bs 36 1 < 256
    below = little-below 1 (drop 36 bs) (drop-bytes 36 bs are)

    go : (b : Bool) → eqb (unsigned_at bs 37 3) 0 ≡ b → ltb n 256 ≡ b
    go true z = let k = eqb-true (unsigned_at bs 37 3) 0 z in lt-ltb n 256 (omega (arith, e, joined_at bs 36 1 3, below))
    go false z = let k = eqb-false (unsigned_at bs 37 3) 0 z in le-ltb n 256 (omega (arith, e, joined_at bs 36 1 3, ne_zero k))

-- ---- bytes that are all zero, eight at a time

zero_word : (n : ℕ) (bs : Bytes) → little (take n bs) ≡ 0 → all_zero bs ≡ all_zero (drop n bs)
zero_word zero bs e = refl
zero_word (suc n) [] e = refl
zero_word (suc n) (b ∷ bs) e =
    let z : b ≡ 0 = omega arith in
    let r : little (take n bs) ≡ 0 = omega arith in rw z (zero_word n bs r)

other_word : (n : ℕ) (bs : Bytes) → (little (take n bs) ≡ 0 → ⊥) → all_zero bs ≡ false
other_word n bs h = go (all_zero bs) refl
  where
    zero_all : (n : ℕ) (bs : Bytes) → all_zero bs ≡ true → little (take n bs) ≡ 0
    zero_all zero bs e = refl
    zero_all (suc n) [] e = refl
    zero_all (suc n) (b ∷ bs) e =
        let (x, y) = both (eqb b 0) (all_zero bs) e in
        let z = eqb-true b 0 x in
        let r = zero_all n bs y in omega arith

    go : (b : Bool) → all_zero bs ≡ b → all_zero bs ≡ false
    go true e = absurd (h (zero_all n bs e))
    go false e = e

-- eight bytes, and those after them
pub word_and_rest : (n : ℕ) (bs : Bytes) → all_zero bs ≡ eqb (little (take n bs)) 0 && all_zero (drop n bs)
word_and_rest n bs = go (eqb (little (take n bs)) 0) refl
  where
    go : (b : Bool) → eqb (little (take n bs)) 0 ≡ b → all_zero bs ≡ b && all_zero (drop n bs)
    go true e = zero_word n bs (eqb-true (little (take n bs)) 0 e)
    go false e = other_word n bs (eqb-false (little (take n bs)) 0 e)

-- the last bytes at once
pub last_word : (n : ℕ) (bs : Bytes) → length bs ≤ n → eqb (little (take n bs)) 0 ≡ all_zero bs
last_word n bs h = go (eqb (little (take n bs)) 0) refl
  where
    go : (b : Bool) → eqb (little (take n bs)) 0 ≡ b → b ≡ all_zero bs
    go true e = sym (zero_word n bs (eqb-true (little (take n bs)) 0 e) ∙ ap all_zero (drop_of_length-le bs {i = n} h))
    go false e = sym (other_word n bs (eqb-false (little (take n bs)) 0 e))

-- ---- a record of the book, by the status of a look

pub status_found : (book : Bytes) (s : ℕ) → status_as (status_in (look book s)) (record_at s book) ≡ stored_at book s
unfolding look
status_found book s = go (eqb (length book) book_size) (ltb s series_count)
  where
    go : (b d : Bool) → status_as (status_in (if not b then refused 35 else (if not d then refused 34 else ok (record_at s book)))) (record_at s book)
        ≡ stored_in (if not b then refused 35 else (if not d then refused 34 else ok (record_at s book)))
    go true true = status_stored (record_at s book)
    go true false = refl
    go false d = refl

-- where the status is no refusal the look was allowed
abbrev pub is_refused : Result Status → Bool
is_refused (ok S.Empty) = false
is_refused (ok S.Untested) = false
is_refused (ok S.Fixed) = false
is_refused (refused r) = true

pub not_refused : (book : Bytes) (s : ℕ) → is_refused (status_in (look book s)) ≡ false → Allowed book s
unfolding look
not_refused book s h = go (eqb (length book) book_size) (ltb s series_count) h
  where
    go : (b d : Bool) → is_refused (status_in (if not b then refused 35 else (if not d then refused 34 else ok (record_at s book)))) ≡ false
        → (if not b then refused 35 else (if not d then refused 34 else ok (record_at s book))) ≡ ok (record_at s book)
    go true true e = refl
    go true false e = cc
    go false d e = cc

-- where it was allowed, the status is that of the record
pub looked : (book : Bytes) (s : ℕ) → Allowed book s → status_in (look book s) ≡ status_of (record_at s book)
looked book s h = ap status_in h

-- ---- the decision on a record

module _ (bs : Bytes) (now : ℤ) where
  pub decision_of_lem : length bs ≡ record_size → decision_in bs now ≡ decide_call (order_in bs) (opening_in bs).terms (opening_in bs).expiry (parts_in bs) now
  decision_of_lem e = rw (eq-eqb (length bs) record_size e)

  pub no_decision : (length bs ≡ record_size → ⊥) → decision_in bs now ≡ Refused 11
  no_decision h = rw (ne_eqb (length bs) record_size h)
