-- 02, #111: what the prints that a series takes always leave. A book that a member brings in is held to it; `restore` asks none of it.
use Rattle.std.specs.Prelude.{ℕ, ◌^◌, Bool, not, ◌||◌, List, [], ◌∷◌, get_or, ℤ, pos, ◌-ℤ◌, ltb, eqb}
use Rattle.std.specs.Int.Signed.{lt_z, le_z}
use Rattle.rules.specs.Log.{size, all, every, all<}
use Rattle.rules.specs.Prints.{eq_z}
use Rattle.rules.specs.Taking.{bit, boundary, times_fit}
use Rattle.rules.specs.Series.{Opening, Holdings, slot_places}

-- the price of a print came as an i64
abbrev pub low_price : ℕ → Bool
low_price price = ltb price (2 ^ 63)

module _ (h : Holdings) where
  abbrev pub no_slot : Bool
  no_slot = eqb h.candidates.bits 0

  abbrev pub no_link : Bool
  no_link = eqb (size h.candidates.times) 0

  abbrev pub no_fallback : Bool
  no_fallback = eqb h.candidates.fallback_price 0

  unfoldable pub low_slots : Bool
  low_slots = all< slot_places (λ i. low_price (get_or h.slot_prices i 0))

  abbrev pub low_links : Bool
  low_links = all low_price h.candidates.prices

  abbrev pub low_fallback : Bool
  low_fallback = low_price h.candidates.fallback_price

  -- only a link sets link changed, and only a fallback sets fallback changed; window changed stays where the last slot is withdrawn (#103), so it is not asked
  abbrev pub link_unchanged : Bool
  link_unchanged = not no_link || eq_z h.candidates.link_changed (pos 0)

  abbrev pub fallback_unchanged : Bool
  fallback_unchanged = not no_fallback || eq_z h.candidates.fallback_changed (pos 0)

-- a fallback of this time was published from E − lookback to E, and after its prev, which is 1 or later
abbrev pub fallback_time_tests : Opening → ℤ → List Bool
fallback_time_tests o time = le_z (o.expiry -ℤ pos o.terms.lookback) time ∷ le_z time o.expiry ∷ le_z (pos 2) time ∷ []

module _ (o : Opening) (h : Holdings) where
  -- every link was published after E
  abbrev pub links_after : Bool
  links_after = all (lt_z o.expiry) h.candidates.times

  -- the first link's prev is 1 or later, and E is not before it
  abbrev pub link_expiry : Bool
  link_expiry = no_link h || le_z (pos 1) o.expiry

  -- the prev of slot i's print is 1 or later, and before the boundary, a whole number of any size
  abbrev pub slot_after : ℕ → Bool
  slot_after i = not (bit i h.candidates.bits) || le_z (pos 2) (boundary o.terms o.expiry i)

  unfoldable pub slots_after : Bool
  slots_after = all< slot_places slot_after

  abbrev pub fallback_within : Bool
  fallback_within = no_fallback h || every (fallback_time_tests o h.candidates.fallback_time)

  -- no print is taken where E − window or E − lookback does not fit
  abbrev pub none_untimely : Bool
  none_untimely = times_fit o.terms o.expiry || every (no_slot h ∷ no_link h ∷ no_fallback h ∷ [])

  abbrev pub brought_tests : List Bool
  brought_tests =
      links_after ∷ link_expiry ∷ slots_after ∷ fallback_within
      ∷ low_slots h ∷ low_links h ∷ low_fallback h
      ∷ link_unchanged h ∷ fallback_unchanged h
      ∷ none_untimely ∷ []

  unfoldable pub left_by_prints : Bool
  left_by_prints = every brought_tests
