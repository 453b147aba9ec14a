-- The stored parts, read as the rules' parts.
use Rattle.std.specs.Prelude.{ℕ, zero, suc, ◌-◌, Bool, true, ◌&&◌, ◌||◌, List, get_or, ℤ, pos, ltb, eqb, if◌then◌else◌, Result}
use Rattle.std.specs.Int.Signed.{lt_z}
use Rattle.rules.specs.Answers as R
use Rattle.rules.specs.Prints.{eq_z}
use Rattle.rules.specs.State.{Parts}
use Rattle.core_terms.specs.Errors.{answered}
use Rattle.core_terms.specs.declared.error.CoreError.{CoreError}
use Rattle.core_parts.specs.declared.state.SettlementParts.{SettlementParts}

unfoldable pub stored_of : SettlementParts → Parts
stored_of s =
    record {
      bits = s.filled_slots;
      sum = s.sample_sum;
      links = s.next_len;
      times = s.next_times;
      prices = s.next_prices;
      fallback_time = s.fallback_time;
      fallback_price = s.fallback_price;
      window_changed = s.window_changed;
      link_changed = s.next_print_changed;
      fallback_changed = s.fallback_changed;
    }

-- the value, or d on a refusal
abbrev pub value_or : {A : Type 0} → A → R.Result A → A
value_or d (R.ok a) = a
value_or d (R.refused r) = d

-- the parts, where a check of them passed
abbrev pub checked_of : Parts → Result Unit CoreError → R.Result Parts
checked_of s = answered (λ u. s)

-- ---- the links' five places, one by one

-- place i of n links: a price, and a time after the one before it; or zeros
unfoldable pub link_place : List ℤ → List ℕ → ℕ → ℕ → Bool
link_place times prices n i =
    if ltb i n then ltb 0 (get_or prices i 0) && (eqb i 0 || lt_z (get_or times (i - 1) (pos 0)) (get_or times i (pos 0)))
    else eq_z (get_or times i (pos 0)) (pos 0) && eqb (get_or prices i 0) 0

-- every place below n passes the test
unfoldable pub all_places : (ℕ → Bool) → ℕ → Bool
all_places test zero = true
all_places test (suc n) = all_places test n && test n
