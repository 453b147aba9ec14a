-- The uses of a print one by one, from the numbers that each is found by.
use Rattle.std.specs.Prelude.{ℕ, ◌/◌, ◌%◌, Bool, not, ◌&&◌, ℤ, pos, ◌-ℤ◌, ltb, leb, if◌then◌else◌, Option, None, Some}
use Rattle.std.specs.Int.Signed.{lt_z, le_z}
use Rattle.rules.specs.Bytes.{fits}
use Rattle.rules.specs.Answers.{Result, ok, refused}
use Rattle.rules.specs.Prints.{eq_z}
use Rattle.rules.specs.Taking.{bit}
use Rattle.numbers.specs.Times.{gap_of}

-- ---- the slot

-- by a division, for a print that lies offset after the window's start and back after the print before it: one of 32 slots, near its boundary, new, empty
unfoldable pub slot_at : ℕ → ℕ → ℕ → ℕ → ℕ → Option ℕ
slot_at slot tolerance bits offset back =
    if ltb 0 slot && ltb (offset / slot) 32 && leb (offset % slot) tolerance && ltb (offset % slot) back && not (bit (offset / slot) bits) then Some (offset / slot) else None

-- by how far the print lies after the print before it
abbrev pub slot_since : ℕ → ℕ → ℕ → ℕ → Option ℕ → Option ℕ
slot_since slot tolerance bits offset (Some back) = slot_at slot tolerance bits offset back
slot_since slot tolerance bits offset None = None

-- by how far it lies after the window's start, and after the print before it
abbrev pub slot_ahead : ℕ → ℕ → ℕ → ℕ → Option ℕ → Option ℕ → Option ℕ
slot_ahead window slot tolerance bits (Some offset) since = if ltb offset window then slot_since slot tolerance bits offset since else None
slot_ahead window slot tolerance bits None since = None

-- the slot that a print fills, where the window's start fits
unfoldable pub slot_in : ℤ → ℕ → ℕ → ℕ → ℕ → ℤ → ℤ → Result (Option ℕ)
slot_in E window slot tolerance bits published prev =
    if fits (E -ℤ pos window) then ok (slot_ahead window slot tolerance bits (gap_of (E -ℤ pos window) published) (gap_of prev published)) else refused 0

-- ---- the link

unfoldable pub first_link : ℤ → ℤ → ℤ → Option ℕ
first_link E published prev = if le_z prev E && lt_z E published then Some 0 else None

unfoldable pub later_link : ℕ → ℤ → ℤ → ℤ → Option ℕ
later_link n last published prev = if eq_z prev last && lt_z last published then Some n else None

-- ---- the fallback

-- whether a print is later than the stored fallback and qualifies, where the lookback's start fits
unfoldable pub fallback_in : ℤ → ℕ → ℤ → ℤ → ℤ → Result Bool
fallback_in E lookback stored published prev =
    if fits (E -ℤ pos lookback) then ok ((le_z (E -ℤ pos lookback) published && le_z published E && lt_z prev published) && lt_z stored published) else refused 0
