-- What a withdraw is answered, and that it leaves an acceptable record. That what it takes away is there: the bit by Bits, the price by Sound.
use Prim.Native.Nat.{ℕ, ◌+◌, ◌-◌, ◌/◌, ◌%◌, ◌^◌, ◌<◌, ◌≤◌}
use mathlib.Core.Path.{◌≡◌, refl, sym, ap, ◌∙◌}
use mathlib.Core.Bool.{Bool, true, false, not, ◌||◌, beq}
use mathlib.Core.List.{List, [], ◌∷◌}
use native.Mathlib.Omega.{arith}
use native.Mathlib.Nat.{add-div_right}
use lib.IntN.{ℤ, pos}
use lib.Signed.{le_z}
use lib.ListN.{get_or, set}
use lib.Seq.{get_or-set_same, get_or-set_other}
use lib.Pow.{pow_pos}
use lib.Dec.{ltb, eqb}
use borrow.Author.Tests.{ltb-true, lt-ltb, le-leb, lt-leb, eq-eqb, ne_eqb, eqb-true, eqb-false}
use Rattle.rules.proofs.Bools.{test, every_at}
use Rattle.rules.proofs.Sums.{Σ<-one, all<_yes}
use Rattle.rules.proofs.Bits.{put_other, bit_within}
use Rattle.rules.proofs.State.{fit_at, state_tests, state_tests_lem}
use Rattle.rules.proofs.Acceptable.{sound}
use Rattle.rules.proofs.Sound.{opening-fits, candidates_fit_lem, prices_fit_lem, terms_good, state_at, bits_below, prices_good, left_at, slot-after, slot_low, set_all, prices-length, set-fits, total_is, slot_is, zero_both}
use Rattle.rules.specs.Log.{Σ<, every}
use Rattle.rules.specs.Bytes.{fits}
use Rattle.rules.specs.Answers.{Answer, Done, Refused}
use Rattle.rules.specs.Terms.{slots}
use Rattle.rules.specs.Taking.{Candidates, bit, vacate, boundary, times_fit}
use Rattle.rules.specs.Decision.{Order}
use Rattle.rules.specs.State.{parts_of, good_state}
use Rattle.rules.specs.Series.{Opening, Withdraw, Holdings, slot_places, empty, live, fixed, keeps, leaves, withdrawn, step}
use Rattle.rules.specs.Brought.{low_price, no_slot, no_link, no_fallback, low_slots, slots_after, brought_tests, left_by_prints}
use Rattle.rules.specs.Record.{good_prices, candidates_fit, prices_fit, series_fits}

-- ---- the answers, in their order

module _ (o : Opening) (h : Holdings) (now : ℤ) (i : ℕ) where
  pub on-empty : step empty (Withdraw now i) ≡ keeps (Refused 37)
  unfolding step
  on-empty = refl

  pub on-fixed : (r : Order) (a : Answer) (at : ℤ) → step (fixed r o h a at) (Withdraw now i) ≡ keeps (Refused 38)
  unfolding step
  on-fixed r a at = refl

  pub no_slot_lem : slots o.terms ≤ i → step (live o h) (Withdraw now i) ≡ keeps (Refused 40)
  unfolding step
  no_slot_lem l = rw (le-leb (slots o.terms) i l)

  pub no_print : i < slots o.terms → bit i h.candidates.bits ≡ false → step (live o h) (Withdraw now i) ≡ keeps (Refused 41)
  unfolding step
  no_print l e = rw (lt-leb (slots o.terms) i l, e)

  pub print_freed : i < slots o.terms → bit i h.candidates.bits ≡ true → step (live o h) (Withdraw now i) ≡ leaves Done (live o (withdrawn h now i))
  unfolding step
  print_freed l e = rw (lt-leb (slots o.terms) i l, e)

-- ---- what it leaves

less : (a b n : ℕ) → a < n → a - b < n
less a b n h = omega arith

module _ (o : Opening) (h : Holdings) (f : series_fits (live o h) ≡ true) (k : sound (live o h) ≡ true) (now : ℤ) (i : ℕ) (fn : fits now ≡ true)
    (l : i < slot_places) (filled : bit i h.candidates.bits ≡ true) where
  abbrev c : Candidates
  c = h.candidates

  abbrev ps : List ℕ
  ps = h.slot_prices

  abbrev there : Holdings
  there = withdrawn h now i

  fit : candidates_fit c ≡ true
  fit = candidates_fit_lem o h f k

  state : (j : ℕ) → test (state_tests o.terms c) j ≡ true
  state j = state_at o h f k j

  left : (j : ℕ) → test (brought_tests o h) j ≡ true
  left j = left_at o h f k j

  -- ---- the bits

  back : c.bits - 2 ^ i + 2 ^ i ≡ c.bits
  back = omega (arith, bit_within c.bits i filled)

  cleared : bit i (c.bits - 2 ^ i) ≡ false
  unfolding bit
  cleared =
      let m = c.bits - 2 ^ i in
      let one : c.bits / 2 ^ i ≡ m / 2 ^ i + 1 = ap (λ (x : ℕ). x / 2 ^ i) (sym back) ∙ add-div_right m (pow_pos i) in
      let odd : (m / 2 ^ i + 1) % 2 ≡ 1 = ap (λ (x : ℕ). x % 2) (sym one) ∙ eqb-true (c.bits / 2 ^ i % 2) 1 filled in
      ne_eqb (m / 2 ^ i % 2) 1 (λ e. omega arith)

  bit-other : (j : ℕ) → (j ≡ i → ⊥) → bit j (c.bits - 2 ^ i) ≡ bit j c.bits
  bit-other j ne = sym (put_other (c.bits - 2 ^ i) i cleared j ne) ∙ ap (bit j) back

  -- ---- the prices

  right : good_prices there ≡ true
  unfolding good_prices withdrawn vacate
  right =
      let len = prices-length ps (prices_fit_lem o h f k) in
      let g = prices_good o h f k in
      let here : get_or (set ps i 0) i 0 ≡ 0 = get_or-set_same ps i 0 0 (omega arith) in
      let added : Σ< slot_places (λ j. get_or ps j 0) ≡ Σ< slot_places (λ j. get_or (set ps i 0) j 0) + get_or ps i 0 =
      Σ<-one slot_places i (λ j. get_or (set ps i 0) j 0) (λ j. get_or ps j 0) l here (λ j _ ne. sym (get_or-set_other ps i j 0 0 ne)) in
      rw (eq-eqb (c.sum - get_or ps i 0) (Σ< slot_places (λ j. get_or (set ps i 0) j 0)) (taken c.sum (get_or ps i 0) _ (total_is h g ∙ added)))
      (set_all slot_places (λ j x. beq (bit j (c.bits - 2 ^ i)) (ltb 0 x)) ps i 0 len (rw cleared) (λ j m ne. rw (bit-other j ne) (slot_is h g j m)))
    where
      taken : (a b d : ℕ) → a ≡ d + b → a - b ≡ d
      taken a b d e = omega arith

  -- ---- all of it

  bits_32 : c.bits < 2 ^ slot_places
  bits_32 = ltb-true c.bits (2 ^ slot_places) (fit_at c fit 0)

  still_fits : candidates_fit there.candidates ≡ true
  unfolding candidates_fit withdrawn vacate
  still_fits =
      rw (
        lt-ltb (c.bits - 2 ^ i) (2 ^ slot_places) (less c.bits (2 ^ i) (2 ^ slot_places) bits_32),
        lt-ltb (c.sum - get_or ps i 0) (2 ^ 128) (less c.sum (get_or ps i 0) (2 ^ 128) (ltb-true c.sum (2 ^ 128) (fit_at c fit 1))),
        fit_at c fit 2,
        fit_at c fit 3,
        fit_at c fit 4,
        fit_at c fit 5,
        fit_at c fit 6,
        fit_at c fit 7,
        fn,
        fit_at c fit 9,
        fit_at c fit 10,
      )

  still_priced : prices_fit there.slot_prices ≡ true
  unfolding withdrawn
  still_priced = set-fits ps (prices_fit_lem o h f k) i 0 refl

  pub withdrawn-fits : series_fits (live o there) ≡ true
  withdrawn-fits = rw (opening-fits o h f k, still_fits, still_priced)

  zero_still : beq (eqb (c.bits - 2 ^ i) 0) (eqb (c.sum - get_or ps i 0) 0) ≡ true
  zero_still = unfold withdrawn vacate in zero_both there right (less c.bits (2 ^ i) (2 ^ slot_places) bits_32)

  still_good : good_state o.terms (parts_of there.candidates) ≡ true
  still_good =
      state_tests_lem o.terms there.candidates still_fits
      ∙ unfold withdrawn vacate in rw (
        lt-ltb (c.bits - 2 ^ i) (2 ^ slots o.terms) (less c.bits (2 ^ i) (2 ^ slots o.terms) (bits_below o h f k)),
        zero_still,
        state 2,
        state 3,
        state 4,
        state 5,
      )

  -- a slot was filled, so the times fit
  times_fit_lem : times_fit o.terms o.expiry ≡ true
  times_fit_lem = go (times_fit o.terms o.expiry) (left 9)
    where
      go : (b : Bool) → b || every (no_slot h ∷ no_link h ∷ no_fallback h ∷ []) ≡ true → b ≡ true
      go true e = refl
      go false e =
          let z = eqb-true c.bits 0 (every_at (no_slot h ∷ no_link h ∷ no_fallback h ∷ []) 0 e) in
          absurd (omega (arith, bit_within c.bits i filled, pow_pos i))

  slots-after : slots_after o there ≡ true
  unfolding slots_after withdrawn vacate
  slots-after = all<_yes slot_places _ (λ j m. go j m (eqb j i) refl)
    where
      go : (j : ℕ) → j < slot_places → (b : Bool) → eqb j i ≡ b → not (bit j (c.bits - 2 ^ i)) || le_z (pos 2) (boundary o.terms o.expiry j) ≡ true
      go j m true q = rw (eqb-true j i q, cleared)
      go j m false q = rw (bit-other j (eqb-false j i q)) (slot-after o h f k j m)

  slots_low : low_slots there ≡ true
  unfolding low_slots withdrawn
  slots_low = set_all slot_places (λ j x. low_price x) ps i 0 (prices-length ps (prices_fit_lem o h f k)) refl (λ j m _. slot_low o h f k j m)

  still_left : left_by_prints o there ≡ true
  unfolding left_by_prints
  still_left = rw (slots-after, slots_low, times_fit_lem) (unfold withdrawn vacate in rw (left 0, left 1, left 3, left 5, left 6, left 7, left 8))

  pub withdrawn_sound : sound (live o there) ≡ true
  withdrawn_sound = rw (terms_good o h f k, still_good, right, still_left)
