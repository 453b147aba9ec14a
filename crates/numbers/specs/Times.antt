-- Times as whole numbers, where they fit an i64.
use Rattle.std.specs.Prelude.{ℕ, ℤ, nat_abs, ◌-ℤ◌, if◌then◌else◌, Option, None, Some}
use Rattle.std.specs.Int.Signed.{lt_z}
use Rattle.rules.specs.Bytes.{fits}

abbrev pub time_of : ℤ → Option ℤ
time_of z = if fits z then Some z else None

-- to − from where it is not negative
abbrev pub gap_of : ℤ → ℤ → Option ℕ
gap_of from to = if lt_z to from then None else Some (nat_abs (to -ℤ from))
