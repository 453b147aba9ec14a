-- 01, "Record", and #103: a record has 456 bytes, the last 256 of them for the prices of 32 slots; a book has 64 records.
use Rattle.std.specs.Prelude.{ℕ, ◌+◌, ◌*◌, ◌/◌, ◌%◌, ◌^◌, Bool, true, false, ◌&&◌, List, [], ◌∷◌, ◌++◌, length, get_or, ℤ, pos, ltb, leb, eqb, if◌then◌else◌}
use Rattle.std.specs.Bool.{beq}
use Rattle.rules.specs.Log.{size, all, every, Σ<, all<, list_from}
use Rattle.rules.specs.Bytes.{Bytes, zeros, all_zero, concat, unsigned_at, signed_at, bytes, signed_bytes, fits_unsigned, fits_signed, fits}
use Rattle.rules.specs.Answers.{Result, ok, refused, Method, number, method, Answer, Opened, Used, Wait, Settle, Done, Refused, final}
use Rattle.rules.specs.Terms.{good_terms}
use Rattle.rules.specs.Taking.{Candidates, bit}
use Rattle.rules.specs.Decision.{Order}
use Rattle.rules.specs.State.{Parts, candidates_of, parts_of, good_state}
use Rattle.rules.specs.Series.{Opening, Holdings, slot_places, Series, empty, live, fixed, decided_by}
use Rattle.rules.specs.Brought.{left_by_prints}

abbrev pub record_size : ℕ
record_size = 456

-- where the slot prices begin
abbrev pub slot_prices_at : ℕ
slot_prices_at = 200

abbrev pub series_count : ℕ
series_count = 64

abbrev pub book_size : ℕ
book_size = 29_184

-- ---- writing

-- an outcome's method, samples and price ("Void: method 5, samples and price zero")
abbrev pub method_of : Answer → ℕ
method_of (Settle m p n) = number m
method_of Answer.Void = number Method.Void
method_of Opened = 0
method_of (Used s l f) = 0
method_of (Wait t) = 0
method_of Done = 0
method_of (Refused r) = 0

abbrev pub samples_of : Answer → ℕ
samples_of (Settle m p n) = n
samples_of Answer.Void = 0
samples_of Opened = 0
samples_of (Used s l f) = 0
samples_of (Wait t) = 0
samples_of Done = 0
samples_of (Refused r) = 0

abbrev pub price_of : Answer → ℕ
price_of (Settle m p n) = p
price_of Answer.Void = 0
price_of Opened = 0
price_of (Used s l f) = 0
price_of (Wait t) = 0
price_of Done = 0
price_of (Refused r) = 0

abbrev pub eight : List ℕ → List Bytes
eight [] = []
eight (v ∷ vs) = bytes 8 v ∷ eight vs

abbrev pub eight_signed : List ℤ → List Bytes
eight_signed [] = []
eight_signed (z ∷ zs) = signed_bytes 8 z ∷ eight_signed zs

-- the fields ahead of the slot prices, in the order of their offsets
unfoldable pub fields : ℕ → Opening → Parts → ℕ → ℕ → ℤ → ℕ → List Bytes
fields tag o s samples number fixing_time price =
    let t = o.terms in
    (bytes 1 tag ∷ bytes 1 t.k ∷ signed_bytes 1 t.exponent ∷ bytes 1 s.links
    ∷ bytes 2 t.tolerance ∷ bytes 2 t.minimum ∷ bytes 2 o.bps ∷ bytes 2 samples
    ∷ bytes 4 t.window ∷ bytes 4 t.slot ∷ bytes 4 t.delay ∷ bytes 4 t.lookback ∷ bytes 4 t.hard ∷ bytes 4 s.bits
    ∷ bytes 1 number ∷ zeros 3
    ∷ signed_bytes 8 o.expiry ∷ bytes 8 (s.sum % 2 ^ 64) ∷ bytes 8 (s.sum / 2 ^ 64) ∷ [])
    ++ (eight_signed s.times ++ (eight s.prices
    ++ (signed_bytes 8 s.fallback_time ∷ bytes 8 s.fallback_price
    ∷ signed_bytes 8 s.window_changed ∷ signed_bytes 8 s.link_changed ∷ signed_bytes 8 s.fallback_changed
    ∷ signed_bytes 8 fixing_time ∷ bytes 8 price ∷ [])))

-- #103: the slot prices, eight bytes each: 32 of them, however many the list has
unfoldable pub price_bytes : List ℕ → Bytes
price_bytes prices = concat (eight (list_from 0 slot_places (λ i. get_or prices i 0)))

-- #109: a fixed record's tag says by which order it was decided
abbrev pub tag_of : Order → ℕ
tag_of Order.old = 2
tag_of Order.voted = 3

-- under tag 1 with no outcome; under its order's tag with the answer and its time
abbrev pub open_record : Opening → Parts → List ℕ → Bytes
open_record o s prices = concat (fields 1 o s 0 0 (pos 0) 0) ++ price_bytes prices

abbrev pub fixed_record : Order → Opening → Parts → List ℕ → Answer → ℤ → Bytes
fixed_record r o s prices a at = concat (fields (tag_of r) o s (samples_of a) (method_of a) at (price_of a)) ++ price_bytes prices

unfoldable pub bytes_of : Series → Bytes
bytes_of empty = zeros record_size
bytes_of (live o h) = open_record o (parts_of h.candidates) h.slot_prices
bytes_of (fixed r o h a at) = fixed_record r o (parts_of h.candidates) h.slot_prices a at

-- ---- reading, at 01's offsets

abbrev pub five_from : {A : Type 0} → (ℕ → A) → ℕ → List A
five_from f i = f i ∷ f (i + 8) ∷ f (i + 16) ∷ f (i + 24) ∷ f (i + 32) ∷ []

-- an outcome from its method, price and samples
abbrev pub outcome : Result Method → ℕ → ℕ → Answer
outcome (ok m) price samples = if eqb (number m) (number Method.Void) then Answer.Void else Settle m price samples
outcome (refused r) price samples = Refused r

-- #103: slot i has a price above zero where it is filled, and zero where it is empty
abbrev pub slot_priced : Holdings → ℕ → Bool
slot_priced h i = beq (bit i h.candidates.bits) (ltb 0 (get_or h.slot_prices i 0))

-- #103: each slot's price is right by this, and the sum is their total
unfoldable pub good_prices : Holdings → Bool
good_prices h =
    eqb h.candidates.sum (Σ< slot_places (λ i. get_or h.slot_prices i 0)) && all< slot_places (slot_priced h)

module _ (bs : Bytes) where
  unfoldable pub opening_in : Opening
  opening_in =
      record {
        terms =
            record {
              window = unsigned_at bs 12 4;
              slot = unsigned_at bs 16 4;
              tolerance = unsigned_at bs 4 2;
              minimum = unsigned_at bs 6 2;
              k = unsigned_at bs 1 1;
              delay = unsigned_at bs 20 4;
              lookback = unsigned_at bs 24 4;
              hard = unsigned_at bs 28 4;
              exponent = signed_at bs 2 1;
            };
        bps = unsigned_at bs 8 2;
        expiry = signed_at bs 40 8;
      }

  unfoldable pub parts_in : Parts
  parts_in =
      record {
        bits = unsigned_at bs 32 4;
        sum = unsigned_at bs 56 8 * 2 ^ 64 + unsigned_at bs 48 8;
        links = unsigned_at bs 3 1;
        times = five_from (λ i. signed_at bs i 8) 64;
        prices = five_from (λ i. unsigned_at bs i 8) 104;
        fallback_time = signed_at bs 144 8;
        fallback_price = unsigned_at bs 152 8;
        window_changed = signed_at bs 160 8;
        link_changed = signed_at bs 168 8;
        fallback_changed = signed_at bs 176 8;
      }

  unfoldable pub prices_in : List ℕ
  prices_in = list_from 0 slot_places (λ i. unsigned_at bs (slot_prices_at + 8 * i) 8)

  abbrev pub holdings_in : Holdings
  holdings_in = record { candidates = candidates_of parts_in; slot_prices = prices_in }

  abbrev pub tag_in : ℕ
  tag_in = unsigned_at bs 0 1

  abbrev pub samples_in : ℕ
  samples_in = unsigned_at bs 10 2

  abbrev pub method_in : ℕ
  method_in = unsigned_at bs 36 1

  abbrev pub fixing_time_in : ℤ
  fixing_time_in = signed_at bs 184 8

  abbrev pub price_in : ℕ
  price_in = unsigned_at bs 192 8

  -- #109: the order of a fixed record, by its tag
  abbrev pub order_in : Order
  order_in = if eqb tag_in (tag_of Order.old) then Order.old else Order.voted

  -- "0 tag": 0 an empty series, 1 an open one, and with #109 both 2 and 3 a fixed one
  unfoldable pub series_in : Series
  series_in =
      if eqb tag_in 0 then empty else
      if eqb tag_in 1 then live opening_in holdings_in else
      fixed order_in opening_in holdings_in (outcome (method method_in) price_in samples_in) fixing_time_in

  -- ---- the acceptable records

  -- "Otherwise terms accepted and state accepted by `restore`"; "37–39 zero"; #103's test of the slot prices; #111's of what prints leave
  abbrev pub body_tests : List Bool
  body_tests =
      good_terms opening_in.terms ∷ good_state opening_in.terms parts_in ∷ eqb (unsigned_at bs 37 3) 0
      ∷ good_prices holdings_in ∷ left_by_prints opening_in holdings_in ∷ []

  -- "Tag 1: samples, method, fixing time and price zero."
  abbrev pub open_tests : List Bool
  open_tests = eqb samples_in 0 ∷ eqb method_in 0 ∷ eqb (unsigned_at bs 184 8) 0 ∷ eqb price_in 0 ∷ []

  -- it has these samples, this method and this price
  abbrev pub outcome_tests : ℕ → ℕ → ℕ → List Bool
  outcome_tests samples number price = eqb samples_in samples ∷ eqb method_in number ∷ eqb price_in price ∷ []

  -- the answer is final and is what stands there
  abbrev pub standing : Answer → List Bool
  standing a = final a ∷ outcome_tests (samples_of a) (method_of a) (price_of a)

  -- of a fixed record: the outcome that stands there is the decision at the fixing time (01), by the tag's order (#109)
  abbrev pub fixed_tests : List Bool
  fixed_tests = standing (decided_by order_in opening_in (candidates_of parts_in) fixing_time_in)

  -- "Tag 0: all zero."; #109: 3 is the last tag
  unfoldable pub acceptable : Bool
  acceptable =
      if eqb tag_in 0 then all_zero bs else
      if eqb tag_in 1 then every body_tests && every open_tests else
      if leb tag_in 3 then every body_tests && every fixed_tests else
      false

-- the series of a record: "11 the command's own record not acceptable"
unfoldable pub stored : Bytes → Result Series
stored bs = if acceptable bs then ok (series_in bs) else refused 11

-- ---- the series that fit their fields

abbrev pub opening_fields : Opening → List Bool
opening_fields o =
    let t = o.terms in
    fits_unsigned 4 t.window ∷ fits_unsigned 4 t.slot ∷ fits_unsigned 2 t.tolerance ∷ fits_unsigned 2 t.minimum ∷ fits_unsigned 1 t.k
    ∷ fits_unsigned 4 t.delay ∷ fits_unsigned 4 t.lookback ∷ fits_unsigned 4 t.hard ∷ fits_signed 1 t.exponent
    ∷ fits_unsigned 2 o.bps ∷ fits o.expiry ∷ []

abbrev pub candidates_fields : Candidates → List Bool
candidates_fields c =
    fits_unsigned 4 c.bits ∷ fits_unsigned 16 c.sum
    ∷ leb (size c.times) 5 ∷ eqb (size c.prices) (size c.times) ∷ all fits c.times ∷ all (fits_unsigned 8) c.prices
    ∷ fits c.fallback_time ∷ fits_unsigned 8 c.fallback_price
    ∷ fits c.window_changed ∷ fits c.link_changed ∷ fits c.fallback_changed ∷ []

unfoldable pub opening_fits : Opening → Bool
opening_fits o = every (opening_fields o)

unfoldable pub candidates_fit : Candidates → Bool
candidates_fit c = every (candidates_fields c)

unfoldable pub prices_fit : List ℕ → Bool
prices_fit prices = eqb (length prices) slot_places && all< slot_places (λ i. fits_unsigned 8 (get_or prices i 0))

-- Settle by one of the first five methods, or Void
abbrev pub outcome_fits : Answer → Bool
outcome_fits (Settle m p n) = ltb (number m) (number Method.Void) && (fits_unsigned 8 p && fits_unsigned 2 n)
outcome_fits Answer.Void = true
outcome_fits Opened = false
outcome_fits (Used s l f) = false
outcome_fits (Wait t) = false
outcome_fits Done = false
outcome_fits (Refused r) = false

abbrev pub series_fits : Series → Bool
series_fits empty = true
series_fits (live o h) = every (opening_fits o ∷ candidates_fit h.candidates ∷ prices_fit h.slot_prices ∷ [])
series_fits (fixed r o h a at) = every (opening_fits o ∷ candidates_fit h.candidates ∷ prices_fit h.slot_prices ∷ outcome_fits a ∷ fits at ∷ [])
