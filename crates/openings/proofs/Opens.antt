-- What an open answers and leaves.
use Rattle.std.specs.Prelude.{if◌then◌else◌}
use Prim.Native.Nat.{ℕ}
use mathlib.Core.Path.{◌≡◌, refl, sym, ap, ◌∙◌}
use mathlib.Core.Bool.{Bool, true, false, not, ◌&&◌}
use mathlib.Core.List.{List}
use mathlib.Core.Logic.{◌⊎◌, inl, inr}
use lib.ListN.{length, replicate}
use Rattle.rules.specs.Bytes.{Bytes}
use Rattle.rules.specs.Answers.{Result, ok, refused, Opened, Refused}
use Rattle.rules.specs.Terms.{Terms, good_terms}
use Rattle.rules.specs.State.{Parts, parts_of, good_state, restore}
use Rattle.rules.specs.Series.{Open, Opening, slot_places, Series, empty, no_candidates, step}
use Rattle.rules.specs.Record.{record_size, opening_in, parts_in, prices_in, open_record, bytes_of}
use Rattle.rules.specs.Book.{record_at, replaced, look, stored_answer, written}
use Rattle.rules.proofs.SlotPrices.{no_prices}
use Rattle.core_parts.proofs.Checks.{checks}
use Rattle.book.specs.Refusals.{in_book}
use Rattle.book.proofs.Looks.{part_is, allowed-part, record-whole}
use Rattle.record_test.specs.declared.status.Status.TheVariants as S
use Rattle.record_test.specs.Statuses.{status_in, stored_at}
use Rattle.record_test.proofs.Statuses.{empty_zero, is_refused, not_refused, looked}
use Rattle.answers.specs.Commands.{Untested, answer_at, after_at}
use Rattle.answers.proofs.Commands.{tested_as, tested, may_look, open_found}

-- an empty series has no slot prices
pub none_priced : (book : Bytes) (s : ℕ) → status_in (look book s) ≡ ok S.Empty → prices_in (record_at s book) ≡ replicate slot_places 0
none_priced book s e =
    let may = not_refused book s (ap is_refused e) in
    no_prices (record_at s book) (ap (λ (x : Bytes). length x) (sym (part_is s book)) ∙ allowed-part book s may) (empty_zero (record_at s book) (sym (looked book s may) ∙ e))

-- on an empty series
module _ (book : Bytes) (s : ℕ) (o : Opening) where
  pub open_refused : good_terms o.terms ≡ false → (Refused 12 ≡ stored_answer (ok empty) (Open o)) × (book ≡ written s book (ok empty) (Open o))
  unfolding step
  open_refused e = rw e (refl, refl)

  pub open_done : good_terms o.terms ≡ true
      → (Opened ≡ stored_answer (ok empty) (Open o)) × (replaced s (open_record o (parts_of no_candidates) (replicate slot_places 0)) book ≡ written s book (ok empty) (Open o))
  unfolding step bytes_of
  open_done e = rw e (refl, refl)

-- on a series in use, by the tests of its terms and state
pub on-used : (book : Bytes) (s : ℕ) (o : Opening) (p : Parts) (prices : List ℕ) (b : Bool) → tested o p prices ≡ stored_at book s → good_terms o.terms && good_state o.terms p ≡ b
    → ((q : Opening) → stored_answer (tested_as b o p prices) (Open q) ≡ answer_at book s (Open q)) × ((q : Opening) → written s book (tested_as b o p prices) (Open q) ≡ after_at book s (Open q))
on-used book s o p prices b e g =
    let h : tested_as b o p prices ≡ stored_at book s = ap (λ (x : Bool). tested_as x o p prices) (sym g) ∙ e in
    (λ q. ap (λ (x : Result Series). stored_answer x (Open q)) h, λ q. ap (λ (x : Result Series). written s book x (Open q)) h)

-- by the check of its terms and state: it passed, or gave this number, which the book says as r
module _ (book : Bytes) (s : ℕ) (o : Opening) (p : Parts) (prices : List ℕ) (e : tested o p prices ≡ stored_at book s) where
  pub on_good : ok p ≡ restore o.terms p → ((q : Opening) → Refused 36 ≡ answer_at book s (Open q)) × ((q : Opening) → book ≡ after_at book s (Open q))
  unfolding step
  on_good c =
      let (t, k) = checks o.terms p c in
      on-used book s o p prices true e (rw (t, k))

  pub on_bad : (n : ℕ) {r : ℕ} → refused n ≡ restore o.terms p → r ≡ in_book n → ((q : Opening) → Refused r ≡ answer_at book s (Open q)) × ((q : Opening) → book ≡ after_at book s (Open q))
  unfolding step restore
  on_bad n {r} c i = go (good_terms o.terms) (good_state o.terms p) refl refl c
    where
      go : (g k : Bool) → good_terms o.terms ≡ g → good_state o.terms p ≡ k → refused n ≡ (if not g then refused 12 else if not k then refused 11 else ok p)
          → ((q : Opening) → Refused r ≡ answer_at book s (Open q)) × ((q : Opening) → book ≡ after_at book s (Open q))
      go true true x y h = cc
      go true false x y h =
          let m : n ≡ 11 = cc in
          rw (i ∙ ap in_book m) (on-used book s o p prices false e (rw (x, y)))
      go false k x y h =
          let m : n ≡ 12 = cc in
          rw (i ∙ ap in_book m) (on-used book s o p prices false e (rw x))

-- ---- the same of what stands in its record, by the check of it

-- what a check of terms and state says
pub check_ways : (t : Terms) (p : Parts) → (restore t p ≡ ok p) ⊎ ((restore t p ≡ refused 12) ⊎ (restore t p ≡ refused 11))
unfolding restore
check_ways t p = go (good_terms t) (good_state t p)
  where
    checked : Bool → Bool → Result Parts
    checked g k = if not g then refused 12 else if not k then refused 11 else ok p

    go : (g k : Bool) → (checked g k ≡ ok p) ⊎ ((checked g k ≡ refused 12) ⊎ (checked g k ≡ refused 11))
    go true true = inl refl
    go true false = inr (inr refl)
    go false k = inr (inl refl)

abbrev pub check_in : Bytes → Result Parts
check_in bs = restore (opening_in bs).terms (parts_in bs)

module _ (book : Bytes) (s : ℕ) where
  abbrev bs : Bytes
  bs = record_at s book

  pub used_whole : Untested book s → length (record_at s book) ≡ record_size
  used_whole h = record-whole book s (sym (may_look book s h))

  module _ (o : Opening) (h : Untested book s) where
    passed : ok (parts_in bs) ≡ check_in bs → (Refused 36 ≡ answer_at book s (Open o)) × (book ≡ after_at book s (Open o))
    passed e = let (a, b) = on_good book s (opening_in bs) (parts_in bs) (prices_in bs) (open_found book s h) e in (a o, b o)

    failed : (n : ℕ) → refused n ≡ check_in bs → (Refused (in_book n) ≡ answer_at book s (Open o)) × (book ≡ after_at book s (Open o))
    failed n e = let (a, b) = on_bad book s (opening_in bs) (parts_in bs) (prices_in bs) (open_found book s h) n e refl in (a o, b o)

    pub good_told : ok (parts_in (record_at s book)) ≡ check_in (record_at s book) → Refused 36 ≡ answer_at book s (Open o)
    good_told e = (passed e).0

    pub bad_told : (ok (parts_in (record_at s book)) ≡ check_in (record_at s book) → ⊥) → Refused 11 ≡ answer_at book s (Open o)
    bad_told k = go (check_ways (opening_in bs).terms (parts_in bs))
      where
        go : (check_in bs ≡ ok (parts_in bs)) ⊎ ((check_in bs ≡ refused 12) ⊎ (check_in bs ≡ refused 11)) → Refused 11 ≡ answer_at book s (Open o)
        go (inl e) = absurd (k (sym e))
        go (inr (inl e)) = (failed 12 (sym e)).0
        go (inr (inr e)) = (failed 11 (sym e)).0

    pub used_left : after_at book s (Open o) ≡ book
    used_left = go (check_ways (opening_in bs).terms (parts_in bs))
      where
        go : (check_in bs ≡ ok (parts_in bs)) ⊎ ((check_in bs ≡ refused 12) ⊎ (check_in bs ≡ refused 11)) → after_at book s (Open o) ≡ book
        go (inl e) = sym (passed (sym e)).1
        go (inr (inl e)) = sym (failed 12 (sym e)).1
        go (inr (inr e)) = sym (failed 11 (sym e)).1
