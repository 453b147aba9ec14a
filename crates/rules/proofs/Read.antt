-- What is read from bytes fits its fields, and what is read from an acceptable record is sound.
use Rattle.std.specs.Prelude.{if◌then◌else◌}
use Prim.Native.Nat.{ℕ, zero, suc, ◌+◌, ◌*◌, ◌/◌, ◌^◌, ◌<◌}
use mathlib.Core.Path.{◌≡◌, refl, ap}
use mathlib.Core.Bool.{Bool, true, false, ◌&&◌}
use native.Mathlib.Omega.{arith}
use native.Mathlib.Nat.{div-lt_iff_lt-mul}
use lib.ListN.{get_or, get_or-eq_default}
use lib.IntN.{pos}
use lib.Pow.{high}
use lib.Dec.{ltb, leb, eqb, lit<}
use borrow.Author.Tests.{ltb-true, ltb-false, lt-ltb, leb-true, le-leb, eq-eqb}
use Rattle.rules.proofs.Bools.{both, every_at}
use Rattle.rules.proofs.Logs.{size-front, front-all}
use Rattle.rules.proofs.Sums.{all<_yes}
use Rattle.rules.proofs.Bytes.{unsigned_fits, signed-fits_8, signed-fits_1}
use Rattle.rules.proofs.State.{parts_kept}
use Rattle.rules.proofs.SlotPrices.{prices_are, price_at_lem}
use Rattle.rules.proofs.Fields.{outcome_fits_lem}
use Rattle.rules.proofs.Acceptable.{sound_tests, sound}
use Rattle.rules.proofs.Record.{outcome_stands}
use Rattle.rules.specs.Log.{all, front, every}
use Rattle.rules.specs.Bytes.{Bytes, are_bytes, all_zero, unsigned_at, signed_at, fits_unsigned, fits}
use Rattle.rules.specs.Answers.{ok, refused, method}
use Rattle.rules.specs.Terms.{good_terms, terms_tests}
use Rattle.rules.specs.State.{candidates_of, restore_tests, good_state}
use Rattle.rules.specs.Series.{slot_places, Series, empty, live, fixed}
use Rattle.rules.specs.Record.{slot_prices_at, five_from, outcome, opening_in, parts_in, prices_in, holdings_in, tag_in, samples_in, method_in, fixing_time_in, price_in, order_in, series_in, body_tests, open_tests, fixed_tests, acceptable, stored, opening_fits, candidates_fit, prices_fit, series_fits}

-- ---- five places, eight bytes apart

pub five-from : {A : Type 0} (g : ℕ → A) (i : ℕ) (d : A) (j : ℕ) → j < 5 → get_or (five_from g i) j d ≡ g (i + 8 * j)
five-from g i d zero l = ap g (omega arith)
five-from g i d (suc zero) l = refl
five-from g i d (suc (suc zero)) l = refl
five-from g i d (suc (suc (suc zero))) l = refl
five-from g i d (suc (suc (suc (suc zero)))) l = refl
five-from g i d (suc (suc (suc (suc (suc j))))) l = absurd (omega arith)

-- what holds of each holds of the first so many, and of the default behind them
five-all : {A : Type 0} (Q : A → Bool) (d : A) (g : ℕ → A) (i : ℕ) → Q d ≡ true → ((j : ℕ) → Q (g j) ≡ true) → (n : ℕ) → Q (get_or (five_from g i) n d) ≡ true
five-all Q d g i z h n = go (ltb n 5) refl
  where
    go : (b : Bool) → ltb n 5 ≡ b → Q (get_or (five_from g i) n d) ≡ true
    go true e = rw (five-from g i d n (ltb-true n 5 e)) (h (i + 8 * n))
    go false e = rw (get_or-eq_default (five_from g i) d (ltb-false n 5 e)) z

-- ---- the fields

module _ (bs : Bytes) (are : are_bytes bs ≡ true) where
  u : (i n : ℕ) → fits_unsigned n (unsigned_at bs i n) ≡ true
  u i n = unsigned_fits bs i n are

  pub opening-fits : opening_fits (opening_in bs) ≡ true
  unfolding opening_fits opening_in
  opening-fits =
      rw (
        u 12 4,
        u 16 4,
        u 4 2,
        u 6 2,
        u 1 1,
        u 20 4,
        u 24 4,
        u 28 4,
        signed-fits_1 bs 2,
        u 8 2,
        signed-fits_8 bs 40,
      )

  pub bits_fit : fits_unsigned 4 (parts_in bs).bits ≡ true
  unfolding parts_in
  bits_fit = u 32 4

  sum_fits_lem : fits_unsigned 16 (parts_in bs).sum ≡ true
  unfolding parts_in
  sum_fits_lem =
      let hi = unsigned_at bs 56 8 in
      let lo = unsigned_at bs 48 8 in
      let top : (hi * 2 ^ 64 + lo) / 2 ^ 64 < 2 ^ 64 = rw (high hi 64 (ltb-true lo (2 ^ 64) (u 48 8))) (ltb-true hi (2 ^ 64) (u 56 8)) in
      lt-ltb (hi * 2 ^ 64 + lo) (2 ^ 128) ((div-lt_iff_lt-mul {x = hi * 2 ^ 64 + lo} (lit< tt)).0 top)

  pub prices_fit_lem : prices_fit (prices_in bs) ≡ true
  unfolding prices_fit
  prices_fit_lem =
      rw (eq-eqb _ _ (prices_are bs))
      (all<_yes slot_places (λ i. fits_unsigned 8 (get_or (prices_in bs) i 0)) (λ i l. rw (price_at_lem bs i l) (u (slot_prices_at + 8 * i) 8)))

  -- ---- the links

  times_fit_lem : all fits (front (pos 0) (parts_in bs).links (parts_in bs).times) ≡ true
  unfolding parts_in
  times_fit_lem = front-all fits (pos 0) _ _ (five-all fits (pos 0) (λ i. signed_at bs i 8) 64 refl (λ j. signed-fits_8 bs j))

  links_fit : all (fits_unsigned 8) (front 0 (parts_in bs).links (parts_in bs).prices) ≡ true
  unfolding parts_in
  links_fit = front-all (fits_unsigned 8) 0 _ _ (five-all (fits_unsigned 8) 0 (λ i. unsigned_at bs i 8) 104 refl (λ j. u j 8))

  module _ (g : good_terms (opening_in bs).terms ≡ true) (s : good_state (opening_in bs).terms (parts_in bs) ≡ true) where
    few : leb (parts_in bs).links 5 ≡ true
    unfolding good_state good_terms
    few =
        let k = leb-true (opening_in bs).terms.k 5 (every_at (terms_tests (opening_in bs).terms) 8 g) in
        let l = leb-true (parts_in bs).links (opening_in bs).terms.k (every_at (restore_tests (opening_in bs).terms (parts_in bs)) 2 s) in
        le-leb (parts_in bs).links 5 (omega arith)

    pub candidates_fit_lem : candidates_fit (candidates_of (parts_in bs)) ≡ true
    unfolding candidates_fit candidates_of
    candidates_fit_lem =
        rw (
          size-front (pos 0) (parts_in bs).links (parts_in bs).times,
          size-front 0 (parts_in bs).links (parts_in bs).prices,
          bits_fit,
          sum_fits_lem,
          few,
          eq-eqb (parts_in bs).links (parts_in bs).links refl,
          times_fit_lem,
          links_fit,
        )
        (unfold parts_in in rw (signed-fits_8 bs 144, u 152 8, signed-fits_8 bs 160, signed-fits_8 bs 168, signed-fits_8 bs 176))

-- ---- an acceptable record

module _ (bs : Bytes) where
  pub stored_is : (s : Series) → stored bs ≡ ok s → (acceptable bs ≡ true) × (series_in bs ≡ s)
  unfolding stored
  stored_is s e = go (acceptable bs) refl e
    where
      go : (b : Bool) → acceptable bs ≡ b → (if b then ok (series_in bs) else refused 11) ≡ ok s → (acceptable bs ≡ true) × (series_in bs ≡ s)
      go true a e = (a, cc)
      go false a e = (cc, cc)

  abbrev pub fixed_in : Series
  fixed_in = fixed (order_in bs) (opening_in bs) (holdings_in bs) (outcome (method (method_in bs)) (price_in bs) (samples_in bs)) (fixing_time_in bs)

  -- what holds by the tests of each tag holds of what is read
  pub by_tag : (P : Series → Type 0) → acceptable bs ≡ true → P empty
      → (every (body_tests bs) ≡ true → P (live (opening_in bs) (holdings_in bs)))
      → (every (body_tests bs) ≡ true → every (fixed_tests bs) ≡ true → P fixed_in)
      → P (series_in bs)
  unfolding acceptable series_in
  by_tag P h e l f = go (eqb (tag_in bs) 0) (eqb (tag_in bs) 1) (leb (tag_in bs) 3) h
    where
      go : (x y z : Bool)
          → (if x then all_zero bs else if y then every (body_tests bs) && every (open_tests bs) else if z then every (body_tests bs) && every (fixed_tests bs) else false) ≡ true
          → P (if x then empty else if y then live (opening_in bs) (holdings_in bs) else fixed_in)
      go true y z h = e
      go false true z h = l (both (every (body_tests bs)) (every (open_tests bs)) h).0
      go false false true h = let (x, y) = both (every (body_tests bs)) (every (fixed_tests bs)) h in f x y
      go false false false h = let z : ◌≡◌ {A = ℕ} 0 1 = cc in absurd (omega arith)

  body_sound : every (body_tests bs) ≡ true → every (sound_tests (opening_in bs) (holdings_in bs)) ≡ true
  body_sound k =
      let good = every_at (body_tests bs) 1 k in
      rw (
        every_at (body_tests bs) 0 k,
        parts_kept (opening_in bs).terms (parts_in bs) good (unfold parts_in in refl) (unfold parts_in in refl),
        good,
        every_at (body_tests bs) 3 k,
        every_at (body_tests bs) 4 k,
      )

  pub read_sound : acceptable bs ≡ true → sound (series_in bs) ≡ true
  read_sound h = by_tag (λ s. sound s ≡ true) h refl body_sound (λ k j. rw (body_sound k, every_at (fixed_tests bs) 0 j))

  pub read_fits : are_bytes bs ≡ true → acceptable bs ≡ true → series_fits (series_in bs) ≡ true
  read_fits are h =
      by_tag (λ s. series_fits s ≡ true) h refl
      (λ k. rw (opening-fits bs are, held k, prices_fit_lem bs are))
      (λ k j. rw (opening-fits bs are, held k, prices_fit_lem bs are, outcome_stands bs j, outcome_fits_lem (order_in bs) (opening_in bs) _ (held k) (fixing_time_in bs) (every_at (fixed_tests bs) 0 j), signed-fits_8 bs 184))
    where
      held : every (body_tests bs) ≡ true → candidates_fit (candidates_of (parts_in bs)) ≡ true
      held k = candidates_fit_lem bs are (every_at (body_tests bs) 0 k) (every_at (body_tests bs) 1 k)
