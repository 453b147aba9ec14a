-- What a record is found to be, and the decision on it.
use Rattle.std.specs.Prelude.{ℕ, Bool, not, ◌&&◌, ℤ, length, ltb, eqb, if◌then◌else◌}
use Rattle.rules.specs.Log.{every}
use Rattle.rules.specs.Bytes.{Bytes, all_zero, unsigned_at}
use Rattle.rules.specs.Answers as R
use Rattle.rules.specs.Terms.{good_terms}
use Rattle.rules.specs.State.{good_state, decide_call}
use Rattle.rules.specs.Series.{Series, empty, live, fixed}
use Rattle.rules.specs.Brought.{left_by_prints}
use Rattle.rules.specs.Record.{record_size, good_prices, opening_in, parts_in, holdings_in, tag_in, fixing_time_in, order_in, open_tests, fixed_tests, stored}
use Rattle.rules.specs.Book.{look}
use Rattle.record_read.specs.Records.{outcome_in}
use Rattle.record_test.specs.declared.status.Status.{Status}
use Rattle.record_test.specs.declared.status.Status.TheVariants as S

-- ---- what a record is

-- the terms and the state are good
abbrev pub good_body : Bytes → Bool
good_body bs = good_terms (opening_in bs).terms && good_state (opening_in bs).terms (parts_in bs)

-- the slot prices are right, and slots, links and fallback are such as prints leave
abbrev pub good_holdings : Bytes → Bool
good_holdings bs = good_prices (holdings_in bs) && left_by_prints (opening_in bs) (holdings_in bs)

-- what is stored in a record of this status, or the refusal; untested are the terms and the state
abbrev pub status_as : R.Result Status → Bytes → R.Result Series
status_as (R.ok S.Empty) bs = R.ok empty
status_as (R.ok S.Untested) bs = if good_body bs then R.ok (live (opening_in bs) (holdings_in bs)) else R.refused 11
status_as (R.ok S.Fixed) bs = R.ok (fixed (order_in bs) (opening_in bs) (holdings_in bs) (outcome_in bs) (fixing_time_in bs))
status_as (R.refused r) bs = R.refused r

-- the status of a record's bytes, or 11
abbrev pub status_of : Bytes → R.Result Status
status_of bs =
    if eqb (tag_in bs) 0 then (if all_zero bs then R.ok S.Empty else R.refused 11) else
    if ltb 3 (tag_in bs) then R.refused 11 else
    if not (eqb (unsigned_at bs 37 3) 0) then R.refused 11 else
    if not (good_holdings bs) then R.refused 11 else
    if eqb (tag_in bs) 1 then (if every (open_tests bs) then R.ok S.Untested else R.refused 11) else
    if good_body bs && every (fixed_tests bs) then R.ok S.Fixed else R.refused 11

-- ---- a record of the book

-- the status of the record that a look gave, or the look's refusal
abbrev pub status_in : R.Result Bytes → R.Result Status
status_in (R.ok bytes) = status_of bytes
status_in (R.refused r) = R.refused r

-- the series of a record's bytes that a look gave, or the look's refusal
abbrev pub stored_in : R.Result Bytes → R.Result Series
stored_in (R.ok bytes) = stored bytes
stored_in (R.refused r) = R.refused r

abbrev pub stored_at : Bytes → ℕ → R.Result Series
stored_at book s = stored_in (look book s)

-- ---- the decision on a record

-- the core's decision on its fields, by its order; and of no record 11
abbrev pub decision_in : Bytes → ℤ → R.Answer
decision_in bs now = if eqb (length bs) record_size then decide_call (order_in bs) (opening_in bs).terms (opening_in bs).expiry (parts_in bs) now else R.Refused 11
