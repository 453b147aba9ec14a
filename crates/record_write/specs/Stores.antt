-- The fields of a record in the groups that are written, and a record over the bytes that are there.
use Rattle.std.specs.Prelude.{ℕ, ◌+◌, ◌*◌, ◌&&◌, List, [], ◌∷◌, ◌++◌, ℤ, ltb, eqb, length, if◌then◌else◌}
use Rattle.std.proofs.lemmas.List.Edits.{sets}
use Rattle.rules.specs.Bytes.{Bytes, zeros, concat, bytes, signed_bytes}
use Rattle.rules.specs.Terms.{Terms}
use Rattle.rules.specs.State.{Parts}
use Rattle.rules.specs.Series.{Opening, slot_places}
use Rattle.rules.specs.Record.{record_size, slot_prices_at, fields, price_bytes}
use Rattle.record_write.specs.declared.record.Outcome.{Outcome}

-- ---- the groups

abbrev pub head_fields : ℕ → Terms → ℕ → ℕ → ℕ → List Bytes
head_fields tag t links bps samples =
    bytes 1 tag ∷ bytes 1 t.k ∷ signed_bytes 1 t.exponent ∷ bytes 1 links
    ∷ bytes 2 t.tolerance ∷ bytes 2 t.minimum ∷ bytes 2 bps ∷ bytes 2 samples ∷ []

abbrev pub seconds_fields : Terms → ℕ → ℕ → List Bytes
seconds_fields t bits number =
    bytes 4 t.window ∷ bytes 4 t.slot ∷ bytes 4 t.delay ∷ bytes 4 t.lookback ∷ bytes 4 t.hard ∷ bytes 4 bits
    ∷ bytes 1 number ∷ zeros 3 ∷ []

abbrev pub sum_fields : ℤ → ℕ → List Bytes
sum_fields E sum = signed_bytes 8 E ∷ bytes 16 sum ∷ []

abbrev pub last_fields : ℤ → ℕ → ℤ → ℤ → ℤ → ℤ → ℕ → List Bytes
last_fields fallback_time fallback_price window_changed link_changed fallback_changed fixing_time price =
    signed_bytes 8 fallback_time ∷ bytes 8 fallback_price
    ∷ signed_bytes 8 window_changed ∷ signed_bytes 8 link_changed ∷ signed_bytes 8 fallback_changed
    ∷ signed_bytes 8 fixing_time ∷ bytes 8 price ∷ []

-- ---- the record

abbrev pub record_of : Opening → Parts → List ℕ → Outcome → Bytes
record_of o s prices u = concat (fields u.tag o s u.samples u.method u.fixing_time u.price) ++ price_bytes prices

-- a record over the bytes that are there; bytes of another length stay
abbrev pub record_over : Bytes → Bytes → Bytes
record_over old new = if eqb (length old) record_size then new else old

-- the price of slot i over the bytes that are there; bytes of another length stay, and so do all for a number above 31
abbrev pub priced_over : Bytes → ℕ → ℕ → Bytes
priced_over old i price = if eqb (length old) record_size && ltb i slot_places then sets old (slot_prices_at + 8 * i) (bytes 8 price) else old
