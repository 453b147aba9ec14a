-- What a command answers and leaves, by what was found in the record.
use Rattle.std.specs.Prelude.{if◌then◌else◌}
use Prim.Native.Nat.{ℕ}
use mathlib.Core.Path.{◌≡◌, refl, sym, ap, ◌∙◌}
use mathlib.Core.Bool.{Bool, true, false, ◌&&◌}
use mathlib.Core.List.{List, []}
use lib.ListN.{length}
use lib.IntN.{ℤ}
use Rattle.rules.specs.Bytes.{Bytes}
use Rattle.rules.specs.Answers.{Result, ok, refused, Answer, Refused}
use Rattle.rules.specs.Terms.{good_terms}
use Rattle.rules.specs.Decision.{Order, voted}
use Rattle.rules.specs.State.{Parts, candidates_of, parts_of, good_state, decide_call}
use Rattle.rules.specs.Series.{Command, Opening, Holdings, Series, empty, live, fixed, keeps, step}
use Rattle.rules.specs.Brought.{left_by_prints}
use Rattle.rules.specs.Record.{record_size, good_prices, opening_in, parts_in, prices_in, holdings_in, order_in}
use Rattle.rules.specs.Book.{record_at, look, stored_answer, written}
use Rattle.rules.proofs.Bools.{both}
use Rattle.rules.proofs.State.{parts_kept}
use Rattle.record_test.specs.declared.status.Status.{Status}
use Rattle.record_test.specs.declared.status.Status.TheVariants as S
use Rattle.core_parts.specs.States.{value_or}
use Rattle.book.specs.Looks.{Allowed}
use Rattle.record_read.specs.Records.{Held, contents_from, contents_in}
use Rattle.record_test.specs.Statuses.{status_as, status_in, stored_at, decision_in}
use Rattle.book.proofs.Looks.{part_looked}
use Rattle.record_read.proofs.Records.{contents_whole}
use Rattle.record_test.proofs.Statuses.{untested_left, untested_voted, status_found, is_refused, not_refused, looked, decision_of_lem}
use Rattle.answers.specs.Commands.{Untested, answer_at, after_at, use_of}

-- ---- the status says what is stored

module _ (book : Bytes) (s : ℕ) {r st : Result Status} (h : r ≡ status_in (look book s)) (e : r ≡ st) where
  read : status_in (look book s) ≡ st
  read = sym h ∙ e

  found : status_as st (record_at s book) ≡ stored_at book s
  found = ap (λ (x : Result Status). status_as x (record_at s book)) (sym read) ∙ status_found book s

  pub answered : (c : Command) → stored_answer (status_as st (record_at s book)) c ≡ answer_at book s c
  answered c = ap (λ (x : Result Series). stored_answer x c) found

  pub left : (c : Command) → written s book (status_as st (record_at s book)) c ≡ after_at book s c
  left c = ap (λ (x : Result Series). written s book x c) found

  pub allowed : is_refused st ≡ false → Allowed book s
  allowed k = not_refused book s (ap is_refused read ∙ k)

-- ---- a series in use, and what a command that needs one answers elsewhere

use_cases : (x : Result Status) → ok tt ≡ use_of x → x ≡ ok S.Untested
use_cases (ok S.Empty) e = cc
use_cases (ok S.Untested) e = refl
use_cases (ok S.Fixed) e = cc
use_cases (refused r) e = cc

pub used : (book : Bytes) (s : ℕ) {u : Unit} → ok u ≡ use_of (status_in (look book s)) → Untested book s
used book s e = use_cases (status_in (look book s)) e

module _ (book : Bytes) (s : ℕ) (c : Command) (on_empty : step empty c ≡ keeps (Refused 37))
    (on_fixed : (r : Order) (o : Opening) (h : Holdings) (a : Answer) (at : ℤ) → step (fixed r o h a at) c ≡ keeps (Refused 38)) where
  kept : (x : Result Series) (n : ℕ) → Refused n ≡ stored_answer x c → book ≡ written s book x c → x ≡ stored_at book s → (Refused n ≡ answer_at book s c) × (book ≡ after_at book s c)
  kept x n a b e = (a ∙ ap (λ (x : Result Series). stored_answer x c) e, b ∙ ap (λ (x : Result Series). written s book x c) e)

  by_status : (x : Result Status) (n : ℕ) → refused n ≡ use_of x → status_as x (record_at s book) ≡ stored_at book s → (Refused n ≡ answer_at book s c) × (book ≡ after_at book s c)
  by_status (ok S.Empty) n e f = let k : n ≡ 37 = cc in kept (ok empty) n (rw (k, on_empty)) (rw on_empty) f
  by_status (ok S.Untested) n e f = cc
  by_status (ok S.Fixed) n e f = let k : n ≡ 38 = cc in kept _ n (rw (k, on_fixed)) (rw on_fixed) f
  by_status (refused r) n e f = let k : n ≡ r = cc in kept (refused r) n (rw k) refl f

  pub not_used : (n : ℕ) → refused n ≡ use_of (status_in (look book s)) → (Refused n ≡ answer_at book s c) × (book ≡ after_at book s c)
  not_used n e = by_status (status_in (look book s)) n e (status_found book s)

  pub not_open : (use_of (status_in (look book s)) ≡ ok tt → ⊥) → after_at book s c ≡ book
  not_open h = go (use_of (status_in (look book s))) refl
    where
      go : (x : Result Unit) → x ≡ use_of (status_in (look book s)) → after_at book s c ≡ book
      go (ok u) e = absurd (h (sym e))
      go (refused n) e = sym (not_used n e).1

-- ---- a record that is still to be tested, by what was read of it

-- the state and the slot prices
abbrev pub holding : Parts → List ℕ → Holdings
holding p prices = record { candidates = candidates_of p; slot_prices = prices }

-- what is stored, by the tests of the terms and of the state
abbrev pub tested_as : Bool → Opening → Parts → List ℕ → Result Series
tested_as b o p prices = if b then ok (live o (holding p prices)) else refused 11

abbrev pub tested : Opening → Parts → List ℕ → Result Series
tested o p prices = tested_as (good_terms o.terms && good_state o.terms p) o p prices

module _ (book : Bytes) (s : ℕ) (h : Untested book s) where
  pub may_look : Allowed book s
  may_look = not_refused book s (ap is_refused h)

  abbrev bs : Bytes
  bs = record_at s book

  pub open_found : tested (opening_in bs) (parts_in bs) (prices_in bs) ≡ stored_at book s
  open_found = ap (λ (x : Result Status). status_as x bs) (sym h) ∙ status_found book s

  -- its slot prices were tested
  pub open_priced : good_prices (holdings_in bs) ≡ true
  open_priced = (both (good_prices (holdings_in bs)) (left_by_prints (opening_in bs) (holdings_in bs)) (untested_left bs (sym (looked book s may_look) ∙ h))).0

  -- its state goes back into the same bytes
  pub open_kept : good_state (opening_in bs).terms (parts_in bs) ≡ true → parts_of (candidates_of (parts_in bs)) ≡ parts_in bs
  unfolding parts_in
  open_kept g = parts_kept (opening_in bs).terms (parts_in bs) g refl refl

  -- by the bytes that a look at it gave
  module _ {r : Bytes} (l : r ≡ value_or [] (look book s)) where
    own : r ≡ bs
    own = l ∙ ap (value_or []) may_look

    own_whole : length r ≡ record_size
    own_whole = (part_looked book s (sym may_look) l).1

    pub held_in : {x : Held} → x ≡ contents_from r → x ≡ contents_in bs
    held_in e = e ∙ contents_whole r own_whole ∙ ap contents_in own

    pub held_found : {x : Held} → x ≡ contents_from r → tested x.opening x.parts (prices_in bs) ≡ stored_at book s
    held_found k = let e = held_in k in (λ i. tested (e i).opening (e i).parts (prices_in bs)) ∙ open_found

    -- and the decision on it
    pub decided_in : (now : ℤ) → decision_in r now ≡ decide_call voted (opening_in bs).terms (opening_in bs).expiry (parts_in bs) now
    decided_in now =
        decision_of_lem r now own_whole
        ∙ ap (λ (x : Bytes). decide_call (order_in x) (opening_in x).terms (opening_in x).expiry (parts_in x) now) own
        ∙ ap (λ (r : Order). decide_call r (opening_in bs).terms (opening_in bs).expiry (parts_in bs) now) (untested_voted bs (sym (looked book s may_look) ∙ h))
