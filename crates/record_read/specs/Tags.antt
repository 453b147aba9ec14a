-- The tags of records, by their numbers.
use Rattle.std.specs.Prelude.{ℕ, ◌<◌, ◌≡◌, Result, Ok, Err}
use Rattle.core_terms.specs.Errors.{number_of}
use Rattle.core_terms.specs.declared.error.CoreError.{CoreError}
use Rattle.record_read.specs.declared.tag.Tag.{Tag}
use Rattle.record_read.specs.declared.tag.Tag.TheVariants as T

abbrev pub tag_number : Tag → ℕ
tag_number T.Empty = 0
tag_number T.Open = 1
tag_number T.FixedOld = 2
tag_number T.Fixed = 3

-- what a byte is read as: the tag with this number; 11 above the last
abbrev pub IsTag : ℕ → Result Tag CoreError → Type 0
IsTag b (Ok t) = tag_number t ≡ b
IsTag b (Err e) = (3 < b) × (number_of e ≡ 11)
