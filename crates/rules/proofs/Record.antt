-- What is written into a record is read back from it, and the ledger's record is acceptable.
use Rattle.std.specs.Prelude.{if◌then◌else◌, Option, None, Some}
use Prim.Native.Nat.{ℕ, zero, suc, ◌+◌, ◌*◌, ◌/◌, ◌%◌, ◌^◌, ◌<◌, ◌≤◌}
use mathlib.Core.Path.{◌≡◌, refl, ap, ◌∙◌}
use mathlib.Core.Bool.{Bool, true, false, ◌&&◌}
use mathlib.Core.List.{List, [], ◌∷◌, ◌++◌}
use lib.ListN.{length, get_or, take}
use lib.Seq.{take_at, drop-append-add}
use native.Mathlib.Omega.{arith}
use native.Mathlib.Nat.{div-add-mod', mod-lt}
use lib.IntN.{ℤ, pos}
use lib.Signed.{mag}
use lib.Dec.{ltb, leb, eqb, lit<}
use lib.Pow.{shr_lt}
use borrow.Author.Tests.{ltb-true, lt-ltb, leb-true, eqb-true, eqb-false, eq-eqb, ne_eqb}
use Rattle.rules.proofs.Bools.{both, not_both, test, every_at}
use Rattle.rules.proofs.Bytes.{length-bytes, little-bytes, signed_word, word_below}
use Rattle.rules.proofs.Logs.{length_list, list_at, list_is}
use Rattle.rules.proofs.Sums.{all<_at}
use Rattle.rules.proofs.State.{fit_at, few_times, parts-back}
use Rattle.rules.proofs.Decision.{by_price, decide_by_price}
use Rattle.rules.proofs.Fields.{command_fits, ledger-fits}
use Rattle.rules.proofs.Acceptable.{sound_tests, sound, ledger_sound}
use Rattle.rules.specs.Log.{Log, ε, ◌▹◌, maybe, size, all, nth, every, all<, list_from}
use Rattle.rules.specs.Bytes.{Bytes, zeros, all_zero, concat, little, signed, unsigned_at, signed_at, bytes, word, signed_bytes, fits_unsigned, fits}
use Rattle.rules.specs.Answers.{ok, Method, number, method, Answer, Opened, Used, Wait, Settle, Done, Refused, final}
use Rattle.rules.specs.Taking.{Candidates}
use Rattle.rules.specs.Decision.{Order}
use Rattle.rules.specs.State.{candidates_of, parts_of}
use Rattle.rules.specs.Series.{Opening, Command, Holdings, slot_places, Series, empty, live, fixed, decided_by}
use Rattle.rules.specs.Brought.{left_by_prints}
use Rattle.rules.specs.Record.{method_of, samples_of, price_of, eight, fields, tag_of, price_bytes, bytes_of, outcome, good_prices, opening_in, parts_in, prices_in, holdings_in, tag_in, samples_in, method_in, fixing_time_in, price_in, order_in, series_in, body_tests, open_tests, fixed_tests, acceptable, stored, opening_fields, opening_fits, candidates_fit, prices_fit, outcome_fits, series_fits}
use Rattle.rules.specs.Ledger.{opening, taken_events, holdings, Freeze, freeze, since, ledger}

-- ---- single fields

-- a time in eight bytes, an exponent in one
signed_8 : (z : ℤ) → fits z ≡ true → signed 64 (little (signed_bytes 8 z)) ≡ z
signed_8 z f = ap (signed 64) (little-bytes 8 (word 64 z) (lt-ltb (word 64 z) (2 ^ 64) (word_below 63 z f))) ∙ signed_word 63 z f

signed_1 : (z : ℤ) → ltb (mag z) (2 ^ 7) ≡ true → signed 8 (little (signed_bytes 1 z)) ≡ z
signed_1 z f = ap (signed 8) (little-bytes 1 (word 8 z) (lt-ltb (word 8 z) (2 ^ 8) (word_below 7 z f))) ∙ signed_word 7 z f

nth-all : {A : Type 0} (Q : A → Bool) (d : A) (l : Log A) (j : ℕ) → Q d ≡ true → all Q l ≡ true → Q (nth d l j) ≡ true
unfolding nth
nth-all Q d ε j z h = z
nth-all Q d (l ▹ x) j z h = let (a, b) = both (all Q l) (Q x) h in go (eqb j (size l)) (nth-all Q d l j z a) b
  where
    go : (t : Bool) → Q (nth d l j) ≡ true → Q x ≡ true → Q (if t then x else nth d l j) ≡ true
    go true r b = b
    go false r b = r

-- ---- the opening and the state

-- the prices one after the other
price-read_at : (prices : List ℕ) (i : ℕ) → i < length prices → fits_unsigned 8 (get_or prices i 0) ≡ true → unsigned_at (concat (eight prices)) (8 * i) 8 ≡ get_or prices i 0
unfolding unsigned_at
price-read_at [] i l f = absurd (omega arith)
price-read_at (v ∷ vs) zero l f = rw (take_at (bytes 8 v) (concat (eight vs)) 8 (length-bytes 8 v)) (little-bytes 8 v f)
price-read_at (v ∷ vs) (suc i) l f =
    let n : 8 * suc i ≡ length (bytes 8 v) + 8 * i = omega (arith, length-bytes 8 v) in
    rw (n, drop-append-add (bytes 8 v) (concat (eight vs)) (8 * i)) (price-read_at vs i (omega arith) f)

module _ (tag : ℕ) (o : Opening) (h : Holdings) (samples num : ℕ) (time : ℤ) (price : ℕ)
    (fo : opening_fits o ≡ true) (fc : candidates_fit h.candidates ≡ true) (fp : prices_fit h.slot_prices ≡ true) where
  abbrev c : Candidates
  c = h.candidates

  abbrev front : Bytes
  front = concat (fields tag o (parts_of c) samples num time price)

  abbrev R : Bytes
  R = front ++ price_bytes h.slot_prices

  o_at : (j : ℕ) → test (opening_fields o) j ≡ true
  unfolding opening_fits
  o_at j = every_at (opening_fields o) j fo

  pub opening-back : opening_in R ≡ o
  unfolding opening_in unsigned_at signed_at fields zeros bytes parts_of
  opening-back =
      λ i. record {
        terms =
            record {
              window = little-bytes 4 o.terms.window (o_at 0) i;
              slot = little-bytes 4 o.terms.slot (o_at 1) i;
              tolerance = little-bytes 2 o.terms.tolerance (o_at 2) i;
              minimum = little-bytes 2 o.terms.minimum (o_at 3) i;
              k = little-bytes 1 o.terms.k (o_at 4) i;
              delay = little-bytes 4 o.terms.delay (o_at 5) i;
              lookback = little-bytes 4 o.terms.lookback (o_at 6) i;
              hard = little-bytes 4 o.terms.hard (o_at 7) i;
              exponent = signed_1 o.terms.exponent (o_at 8) i;
            };
        bps = little-bytes 2 o.bps (o_at 9) i;
        expiry = signed_8 o.expiry (o_at 10) i;
      }

  time_back : (j : ℕ) → signed 64 (little (signed_bytes 8 (nth (pos 0) c.times j))) ≡ nth (pos 0) c.times j
  time_back j = signed_8 (nth (pos 0) c.times j) (nth-all fits (pos 0) c.times j refl (fit_at c fc 4))

  price-back : (j : ℕ) → little (bytes 8 (nth 0 c.prices j)) ≡ nth 0 c.prices j
  price-back j = little-bytes 8 (nth 0 c.prices j) (nth-all (fits_unsigned 8) 0 c.prices j refl (fit_at c fc 5))

  sum_back : little (bytes 8 (c.sum / 2 ^ 64)) * 2 ^ 64 + little (bytes 8 (c.sum % 2 ^ 64)) ≡ c.sum
  sum_back =
      rw (
        little-bytes 8 (c.sum / 2 ^ 64) (lt-ltb (c.sum / 2 ^ 64) (2 ^ 64) (shr_lt {n = c.sum} 64 64 (ltb-true c.sum (2 ^ 128) (fit_at c fc 1)))),
        little-bytes 8 (c.sum % 2 ^ 64) (lt-ltb (c.sum % 2 ^ 64) (2 ^ 64) (mod-lt c.sum (lit< tt))),
      )
      (div-add-mod' c.sum (2 ^ 64))

  links_fit : fits_unsigned 1 (size c.times) ≡ true
  links_fit = lt-ltb (size c.times) 256 (omega (arith, few_times c fc))

  pub parts-read : parts_in R ≡ parts_of c
  unfolding parts_in unsigned_at signed_at fields zeros bytes parts_of
  parts-read =
      λ i. record {
        bits = little-bytes 4 c.bits (fit_at c fc 0) i;
        sum = sum_back i;
        links = little-bytes 1 (size c.times) links_fit i;
        times = time_back 0 i ∷ time_back 1 i ∷ time_back 2 i ∷ time_back 3 i ∷ time_back 4 i ∷ [];
        prices = price-back 0 i ∷ price-back 1 i ∷ price-back 2 i ∷ price-back 3 i ∷ price-back 4 i ∷ [];
        fallback_time = signed_8 c.fallback_time (fit_at c fc 6) i;
        fallback_price = little-bytes 8 c.fallback_price (fit_at c fc 7) i;
        window_changed = signed_8 c.window_changed (fit_at c fc 8) i;
        link_changed = signed_8 c.link_changed (fit_at c fc 9) i;
        fallback_changed = signed_8 c.fallback_changed (fit_at c fc 10) i;
      }

  pub candidates-read : candidates_of (parts_in R) ≡ c
  candidates-read = ap candidates_of parts-read ∙ parts-back c fc

  length_front : length front ≡ 200
  unfolding fields zeros bytes parts_of
  length_front = refl

  prices-length : length h.slot_prices ≡ slot_places
  unfolding prices_fit
  prices-length = eqb-true (length h.slot_prices) slot_places (both (eqb (length h.slot_prices) slot_places) _ fp).0

  price_small : (i : ℕ) → i < slot_places → fits_unsigned 8 (get_or h.slot_prices i 0) ≡ true
  unfolding prices_fit
  price_small i l =
      all<_at slot_places (λ j. fits_unsigned 8 (get_or h.slot_prices j 0))
      (both (eqb (length h.slot_prices) slot_places) (all< slot_places (λ j. fits_unsigned 8 (get_or h.slot_prices j 0))) fp).1 i l

  pub prices-read : prices_in R ≡ h.slot_prices
  unfolding prices_in price_bytes unsigned_at
  prices-read = list_is 0 slot_places (λ i. unsigned_at R (200 + 8 * i) 8) h.slot_prices prices-length at
    where
      places : List ℕ
      places = list_from 0 slot_places (λ i. get_or h.slot_prices i 0)

      at : (i : ℕ) → i < slot_places → unsigned_at R (200 + 8 * i) 8 ≡ get_or h.slot_prices i 0
      at i l =
          let same : get_or places i 0 ≡ get_or h.slot_prices i 0 = list_at slot_places (λ j. get_or h.slot_prices j 0) i 0 l in
          let m = length_list 0 slot_places (λ j. get_or h.slot_prices j 0) in
          rw (← length_front) (ap (λ (x : Bytes). little (take 8 x)) (drop-append-add front (concat (eight places)) (8 * i)))
          ∙ price-read_at places i (omega arith) (rw same (price_small i l)) ∙ same

  pub holdings-read : holdings_in R ≡ h
  holdings-read = λ i. record { candidates = candidates-read i; slot_prices = prices-read i }

  -- ---- the outcome's fields

  samples_read : fits_unsigned 2 samples ≡ true → samples_in R ≡ samples
  unfolding unsigned_at fields zeros bytes parts_of
  samples_read f = little-bytes 2 samples f

  method-read : fits_unsigned 1 num ≡ true → method_in R ≡ num
  unfolding unsigned_at fields zeros bytes parts_of
  method-read f = little-bytes 1 num f

  time_read : fits time ≡ true → fixing_time_in R ≡ time
  unfolding unsigned_at signed_at fields zeros bytes parts_of
  time_read f = signed_8 time f

  price-read : fits_unsigned 8 price ≡ true → price_in R ≡ price
  unfolding unsigned_at fields zeros bytes parts_of
  price-read f = little-bytes 8 price f

  pad_read : unsigned_at R 37 3 ≡ 0
  unfolding unsigned_at fields zeros bytes parts_of
  pad_read = refl

  tag_read : fits_unsigned 1 tag ≡ true → tag_in R ≡ tag
  unfolding unsigned_at fields zeros bytes parts_of
  tag_read f = little-bytes 1 tag f

  pub body_passes : every (sound_tests o h) ≡ true → every (body_tests R) ≡ true
  body_passes k =
      rw (
        ap good_prices holdings-read,
        opening-back,
        ap (left_by_prints o) holdings-read,
        parts-read,
        pad_read,
        every_at (sound_tests o h) 0 k,
        every_at (sound_tests o h) 1 k,
        every_at (sound_tests o h) 2 k,
        every_at (sound_tests o h) 3 k,
      )

-- ---- outcomes

-- a method is told by its number
method-number : (m : Method) → method (number m) ≡ ok m
unfolding method
method-number Method.Window = refl
method-number Method.NextPrint = refl
method-number Method.PartialNextPrint = refl
method-number Method.PartialWindow = refl
method-number Method.Fallback = refl
method-number Method.Void = refl

number_small : (m : Method) → fits_unsigned 1 (number m) ≡ true
number_small Method.Window = refl
number_small Method.NextPrint = refl
number_small Method.PartialNextPrint = refl
number_small Method.PartialWindow = refl
number_small Method.Fallback = refl
number_small Method.Void = refl

priced-method : (m : Method) → ltb (number m) (number Method.Void) ≡ true → eqb (number m) (number Method.Void) ≡ false
priced-method m h = ne_eqb (number m) 5 (λ e. let z = ltb-true (number m) 5 h in omega arith)

method-fits : (a : Answer) → fits_unsigned 1 (method_of a) ≡ true
method-fits (Settle m p n) = number_small m
method-fits Answer.Void = refl
method-fits Opened = refl
method-fits (Used s l f) = refl
method-fits (Wait t) = refl
method-fits Done = refl
method-fits (Refused r) = refl

outcome-back : (a : Answer) → final a ≡ true → by_price a ≡ true → outcome (method (method_of a)) (price_of a) (samples_of a) ≡ a
outcome-back (Settle m p n) f h = rw (method-number m, priced-method m h)
outcome-back Answer.Void f h = rw (method-number Method.Void)
outcome-back Opened f h = cc
outcome-back (Used s l u) f h = cc
outcome-back (Wait t) f h = cc
outcome-back Done f h = cc
outcome-back (Refused r) f h = cc

-- the outcome that stands in a fixed record is the decision at its fixing time, by its order
pub outcome_stands : (bs : Bytes) → every (fixed_tests bs) ≡ true
    → outcome (method (method_in bs)) (price_in bs) (samples_in bs) ≡ decided_by (order_in bs) (opening_in bs) (candidates_of (parts_in bs)) (fixing_time_in bs)
outcome_stands bs h =
    let o = opening_in bs in
    let c = candidates_of (parts_in bs) in
    let d = decided_by (order_in bs) o c (fixing_time_in bs) in
    rw (
      eqb-true (samples_in bs) (samples_of d) (every_at (fixed_tests bs) 1 h),
      eqb-true (method_in bs) (method_of d) (every_at (fixed_tests bs) 2 h),
      eqb-true (price_in bs) (price_of d) (every_at (fixed_tests bs) 3 h),
    )
    (outcome-back d (every_at (fixed_tests bs) 0 h) (decide_by_price o.terms o.expiry c (fixing_time_in bs) (order_in bs)))

-- what it is for an outcome to fit
fitting : (a : Answer) → outcome_fits a ≡ true → (final a ≡ true) × (by_price a ≡ true) × (fits_unsigned 2 (samples_of a) ≡ true) × (fits_unsigned 8 (price_of a) ≡ true)
fitting (Settle m p n) h =
    let (x, b) = both (ltb (number m) (number Method.Void)) (fits_unsigned 8 p && fits_unsigned 2 n) h in
    let (y, z) = both (fits_unsigned 8 p) (fits_unsigned 2 n) b in
    (refl, x, z, y)
fitting Answer.Void h = (refl, refl, refl, refl)
fitting Opened h = (h, refl, refl, refl)
fitting (Used s l f) h = (h, refl, refl, refl)
fitting (Wait t) h = (h, refl, refl, refl)
fitting Done h = (h, refl, refl, refl)
fitting (Refused r) h = (h, refl, refl, refl)

-- ---- the tag

-- the tag of a fixed record is its order's
pub order_tag : (bs : Bytes) → eqb (tag_in bs) 0 ≡ false → eqb (tag_in bs) 1 ≡ false → leb (tag_in bs) 3 ≡ true → tag_in bs ≡ tag_of (order_in bs)
order_tag bs x y z = go (eqb (tag_in bs) (tag_of Order.old)) refl
  where
    go : (b : Bool) → eqb (tag_in bs) (tag_of Order.old) ≡ b → tag_in bs ≡ tag_of (if b then Order.old else Order.voted)
    go true e = eqb-true (tag_in bs) 2 e
    go false e = omega (arith, eqb-false (tag_in bs) 0 x, eqb-false (tag_in bs) 1 y, eqb-false (tag_in bs) 2 e, leb-true (tag_in bs) 3 z)

-- no tag above 3
pub tag_within : (bs : Bytes) → acceptable bs ≡ true → tag_in bs ≤ 3
unfolding acceptable
tag_within bs h = go (eqb (tag_in bs) 0) (eqb (tag_in bs) 1) (leb (tag_in bs) 3) refl refl refl h
  where
    go : (x y z : Bool) → eqb (tag_in bs) 0 ≡ x → eqb (tag_in bs) 1 ≡ y → leb (tag_in bs) 3 ≡ z
        → (if x then all_zero bs else if y then every (body_tests bs) && every (open_tests bs) else if z then every (body_tests bs) && every (fixed_tests bs) else false) ≡ true
        → tag_in bs ≤ 3
    go true y z ex ey ez h = omega (arith, eqb-true (tag_in bs) 0 ex)
    go false true z ex ey ez h = omega (arith, eqb-true (tag_in bs) 1 ey)
    go false false true ex ey ez h = leb-true (tag_in bs) 3 ez
    go false false false ex ey ez h = absurd (not_both h refl)

-- ---- the series

-- the tag of a fixed series: a byte that is neither of the other two, at most 3, and says the order
tags : (r : Order) → (fits_unsigned 1 (tag_of r) ≡ true) × (eqb (tag_of r) 0 ≡ false) × (eqb (tag_of r) 1 ≡ false) × (leb (tag_of r) 3 ≡ true)
    × ((if eqb (tag_of r) (tag_of Order.old) then Order.old else Order.voted) ≡ r)
tags Order.old = (refl, refl, refl, refl, refl)
tags Order.voted = (refl, refl, refl, refl, refl)

live-read : (o : Opening) (h : Holdings) → opening_fits o ≡ true → candidates_fit h.candidates ≡ true → prices_fit h.slot_prices ≡ true → series_in (bytes_of (live o h)) ≡ live o h
unfolding series_in bytes_of
live-read o h fo fc fp =
    rw (tag_read 1 o h 0 0 (pos 0) 0 fo fc fp refl, opening-back 1 o h 0 0 (pos 0) 0 fo fc fp, holdings-read 1 o h 0 0 (pos 0) 0 fo fc fp)

module _ (r : Order) (o : Opening) (h : Holdings) (a : Answer) (at : ℤ) (fo : opening_fits o ≡ true) (fc : candidates_fit h.candidates ≡ true) (fp : prices_fit h.slot_prices ≡ true) (fa : outcome_fits a ≡ true) (ft : fits at ≡ true) where
  samples_back : samples_in (bytes_of (fixed r o h a at)) ≡ samples_of a
  unfolding bytes_of
  samples_back = samples_read (tag_of r) o h (samples_of a) (method_of a) at (price_of a) fo fc fp (fitting a fa).2

  method-back : method_in (bytes_of (fixed r o h a at)) ≡ method_of a
  unfolding bytes_of
  method-back = method-read (tag_of r) o h (samples_of a) (method_of a) at (price_of a) fo fc fp (method-fits a)

  fixing_time_back : fixing_time_in (bytes_of (fixed r o h a at)) ≡ at
  unfolding bytes_of
  fixing_time_back = time_read (tag_of r) o h (samples_of a) (method_of a) at (price_of a) fo fc fp ft

  fixed-price-back : price_in (bytes_of (fixed r o h a at)) ≡ price_of a
  unfolding bytes_of
  fixed-price-back = price-read (tag_of r) o h (samples_of a) (method_of a) at (price_of a) fo fc fp (fitting a fa).3

  fixed-opening : opening_in (bytes_of (fixed r o h a at)) ≡ o
  unfolding bytes_of
  fixed-opening = opening-back (tag_of r) o h (samples_of a) (method_of a) at (price_of a) fo fc fp

  fixed-holdings : holdings_in (bytes_of (fixed r o h a at)) ≡ h
  unfolding bytes_of
  fixed-holdings = holdings-read (tag_of r) o h (samples_of a) (method_of a) at (price_of a) fo fc fp

  fixed_tag : tag_in (bytes_of (fixed r o h a at)) ≡ tag_of r
  unfolding bytes_of
  fixed_tag = tag_read (tag_of r) o h (samples_of a) (method_of a) at (price_of a) fo fc fp (tags r).0

  fixed_order : order_in (bytes_of (fixed r o h a at)) ≡ r
  fixed_order = rw fixed_tag (tags r).4

  fixed-read : series_in (bytes_of (fixed r o h a at)) ≡ fixed r o h a at
  unfolding series_in
  fixed-read =
      rw (fixed_order, fixed_tag, (tags r).1, (tags r).2, fixed-opening, fixed-holdings, fixing_time_back, method-back, samples_back, fixed-price-back)
      (ap (λ x. fixed r o h x at) (outcome-back a (fitting a fa).0 (fitting a fa).1))

  fixed_body : every (sound_tests o h) ≡ true → every (body_tests (bytes_of (fixed r o h a at))) ≡ true
  unfolding bytes_of
  fixed_body k = body_passes (tag_of r) o h (samples_of a) (method_of a) at (price_of a) fo fc fp k

  fixed-acceptable : every (sound_tests o h) ≡ true
      → final (decided_by r o h.candidates at) ≡ true → a ≡ decided_by r o h.candidates at → acceptable (bytes_of (fixed r o h a at)) ≡ true
  unfolding acceptable
  fixed-acceptable k f e =
      let settles : final a ≡ true = ap final e ∙ f in
      rw (
        fixed_order,
        fixed_tag,
        (tags r).1,
        (tags r).2,
        (tags r).3,
        fixed_body k,
        fixed-opening,
        ap (λ (x : Holdings). x.candidates) fixed-holdings,
        fixing_time_back,
        method-back,
        samples_back,
        fixed-price-back,
        ← e,
        settles,
        eq-eqb (samples_of a) (samples_of a) refl,
        eq-eqb (method_of a) (method_of a) refl,
        eq-eqb (price_of a) (price_of a) refl,
      )

-- reading what was written gives the series back, for every series that fits its fields
pub written_read : (s : Series) → series_fits s ≡ true → series_in (bytes_of s) ≡ s
unfolding series_in bytes_of unsigned_at zeros
written_read empty h = refl
written_read (live o h) f =
    let tests : List Bool = opening_fits o ∷ candidates_fit h.candidates ∷ prices_fit h.slot_prices ∷ [] in
    live-read o h (every_at tests 0 f) (every_at tests 1 f) (every_at tests 2 f)
written_read (fixed r o h a at) f =
    let tests : List Bool = opening_fits o ∷ candidates_fit h.candidates ∷ prices_fit h.slot_prices ∷ outcome_fits a ∷ fits at ∷ [] in
    fixed-read r o h a at (every_at tests 0 f) (every_at tests 1 f) (every_at tests 2 f) (every_at tests 3 f) (every_at tests 4 f)

-- ---- acceptable records

-- a fixed series' outcome is the decision at its fixing time
abbrev pub honest : Series → Type 0
honest empty = Unit
honest (live o h) = Unit
honest (fixed r o h a at) = a ≡ decided_by r o h.candidates at

live-acceptable : (o : Opening) (h : Holdings) → opening_fits o ≡ true → candidates_fit h.candidates ≡ true → prices_fit h.slot_prices ≡ true
    → every (sound_tests o h) ≡ true → acceptable (bytes_of (live o h)) ≡ true
unfolding acceptable bytes_of
live-acceptable o h fo fc fp k =
    rw (tag_read 1 o h 0 0 (pos 0) 0 fo fc fp refl, body_passes 1 o h 0 0 (pos 0) 0 fo fc fp k)
    (unfold unsigned_at fields zeros bytes parts_of word in refl)

written-acceptable : (s : Series) → series_fits s ≡ true → sound s ≡ true → honest s → acceptable (bytes_of s) ≡ true
unfolding acceptable bytes_of unsigned_at zeros
written-acceptable empty f k e = refl
written-acceptable (live o h) f k e =
    let tests : List Bool = opening_fits o ∷ candidates_fit h.candidates ∷ prices_fit h.slot_prices ∷ [] in
    live-acceptable o h (every_at tests 0 f) (every_at tests 1 f) (every_at tests 2 f) k
written-acceptable (fixed r o h a at) f k e =
    let tests : List Bool = opening_fits o ∷ candidates_fit h.candidates ∷ prices_fit h.slot_prices ∷ outcome_fits a ∷ fits at ∷ [] in
    let (x, y) = both (every (sound_tests o h)) (final (decided_by r o h.candidates at)) k in
    fixed-acceptable r o h a at (every_at tests 0 f) (every_at tests 1 f) (every_at tests 2 f) (every_at tests 3 f) (every_at tests 4 f) x y e

pub written-stored : (s : Series) → series_fits s ≡ true → sound s ≡ true → honest s → stored (bytes_of s) ≡ ok s
unfolding stored
written-stored s h k e = rw (written-acceptable s h k e, written_read s h)

-- ---- the ledger's record

ledger_honest : (j : Log Command) → honest (ledger j)
unfolding ledger
ledger_honest j = go (opening j) (freeze j)
  where
    go : (o : Option Opening) (z : Option Freeze) → honest (maybe empty (λ q. since q (holdings q (taken_events j)) z) o)
    go None z = tt
    go (Some o) None = tt
    go (Some o) (Some z) = refl

pub ledger-stored : (j : Log Command) → all command_fits j ≡ true → stored (bytes_of (ledger j)) ≡ ok (ledger j)
ledger-stored j h = written-stored (ledger j) (ledger-fits j h) (ledger_sound j h) (ledger_honest j)
