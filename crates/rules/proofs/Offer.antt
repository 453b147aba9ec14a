-- A print that is used leaves an acceptable record where it finds one, whatever made that (#111); and as a link it has no other use.
use Rattle.std.specs.Prelude.{if◌then◌else◌, Option, None, Some}
use Prim.Native.Nat.{ℕ, suc, ◌+◌, ◌*◌, ◌^◌, ◌<◌, ◌≤◌}
use mathlib.Core.Path.{◌≡◌, refl, sym, ap, ◌∙◌}
use mathlib.Core.Bool.{Bool, true, false, not, ◌&&◌, ◌||◌, beq}
use mathlib.Core.List.{List}
use native.Mathlib.Omega.{arith}
use native.Mathlib.Nat.{lt_of_lt_of_le, mul-le-mul_right, div-add-mod', suc-mul}
use lib.ListN.{length, get_or, set}
use lib.Seq.{get_or-set_same, get_or-set_other}
use lib.IntN.{ℤ, pos, ◌+ℤ◌, ◌-ℤ◌}
use lib.Signed.{lt_z, le_z}
use lib.Dec.{ltb, leb, eqb}
use lib.Pow.{pow_mono}
use borrow.Author.Tests.{ltb-true, lt-ltb, leb-true, le-leb, ne_eqb, eq-eqb, eqb-true, eqb-false}
use Rattle.rules.proofs.Bools.{both, and_false, or_true, test, every_at}
use Rattle.rules.proofs.Integers.{sum_law, difference_law, lt_yes, lt_true}
use Rattle.rules.proofs.Sums.{Σ<-one, all<_yes, find_some}
use Rattle.rules.proofs.Bits.{put-fits, put_same, put_other}
use Rattle.rules.proofs.Series.{good_positive}
use Rattle.rules.proofs.State.{fit_at, same_sizes, state_tests, state_tests_lem}
use Rattle.rules.proofs.Brought.{at_least_1, at_least_2, after_more}
use Rattle.rules.proofs.Acceptable.{rises_more, sound}
use Rattle.rules.proofs.Sound.{opening-fits, candidates_fit_lem, prices_fit_lem, terms_good, slots_32, links_5, state_at, bits_below, prices_good, left_at, slot-after, slot_low, set_all, prices-length, set-fits, total_is, slot_is, empty-price, zero_both}
use Rattle.rules.specs.Log.{Log, ε, ◌▹◌, maybe, size, all, every, Σ<, all<}
use Rattle.rules.specs.Answers.{ok}
use Rattle.rules.specs.Bytes.{fits_unsigned, fits}
use Rattle.rules.specs.Terms.{Terms, slots}
use Rattle.rules.specs.Prints.{Print, good_print, eq_z}
use Rattle.rules.specs.Taking.{Candidates, bit, boundary, canonical_tests, canonical, links, follows, qualifies, slot_for, is_link, is_fallback, times_fit, sum_fits, place}
use Rattle.rules.specs.State.{parts_of, rising, good_state}
use Rattle.rules.specs.Series.{Opening, Holdings, slot_places, live, offer_held}
use Rattle.rules.specs.Brought.{low_price, low_slots, low_links, low_fallback, link_unchanged, fallback_unchanged, links_after, link_expiry, slot_after, slots_after, fallback_time_tests, fallback_within, brought_tests, left_by_prints}
use Rattle.rules.specs.Record.{good_prices, candidates_fields, candidates_fit, prices_fit, series_fits}

choose : (P : Bool → Type 0) (b : Bool) → (b ≡ true → P true) → P false → P b
choose P true f g = f refl
choose P false f g = g

-- the slot that a print fills is one of the slots, which the print is canonical for, and was empty
slot_case : (t : Terms) (E : ℤ) (c : Candidates) (p : Print) (P : Option ℕ → Type 0) → P None
    → ((i : ℕ) → i < slots t → canonical t E i p ≡ true → bit i c.bits ≡ false → slot_for t E c p ≡ Some i → P (Some i)) → P (slot_for t E c p)
unfolding slot_for
slot_case t E c p P n s = go (slot_for t E c p) refl
  where
    clear : (b : Bool) → not b ≡ true → b ≡ false
    clear true e = cc
    clear false e = refl

    go : (x : Option ℕ) → slot_for t E c p ≡ x → P x
    go None e = n
    go (Some i) e =
        let (l, h) = find_some (slots t) (λ i. canonical t E i p && not (bit i c.bits)) i e in
        let (a, b) = both (canonical t E i p) (not (bit i c.bits)) h in
        s i l a (clear (bit i c.bits) b) e

module _ (o : Opening) (h : Holdings) (f : series_fits (live o h) ≡ true) (k : sound (live o h) ≡ true) (p : Print) (now : ℤ)
    (gp : good_print p ≡ true) (low : low_price p.price ≡ true) (ft : fits p.published ≡ true) (fn : fits now ≡ true)
    (tf : times_fit o.terms o.expiry ≡ true) (sf : sum_fits o.terms o.expiry h.candidates p ≡ true) where
  abbrev c : Candidates
  c = h.candidates

  abbrev ps : List ℕ
  ps = h.slot_prices

  abbrev t : Terms
  t = o.terms

  abbrev E : ℤ
  E = o.expiry

  abbrev next : Candidates
  next = place t E c p now

  abbrev there : Holdings
  there = offer_held o h now (ok p)

  priced : 0 < p.price
  priced = ltb-true 0 p.price (good_positive p gp).0

  price-fits : fits_unsigned 8 p.price ≡ true
  price-fits = lt-ltb p.price (2 ^ 64) (lt_of_lt_of_le (ltb-true p.price (2 ^ 63) low) (omega arith))

  -- ---- what was there passes

  fit : (j : ℕ) → test (candidates_fields c) j ≡ true
  fit j = fit_at c (candidates_fit_lem o h f k) j

  state : (j : ℕ) → test (state_tests t c) j ≡ true
  state j = state_at o h f k j

  left : (j : ℕ) → test (brought_tests o h) j ≡ true
  left j = left_at o h f k j

  slots_few : slots t ≤ 32
  slots_few = slots_32 o h f k

  prices_are : length ps ≡ slot_places
  prices_are = prices-length ps (prices_fit_lem o h f k)

  -- ---- slots

  bits_still : next.bits < 2 ^ slots t
  unfolding place
  bits_still =
      slot_case t E c p (λ x. maybe c.bits (λ i. c.bits + 2 ^ i) x < 2 ^ slots t) (bits_below o h f k)
      (λ i l _ e _. put-fits c.bits i (slots t) e l (bits_below o h f k))

  sum_fits_lem : fits_unsigned 16 next.sum ≡ true
  unfolding place
  sum_fits_lem = slot_case t E c p (λ x. fits_unsigned 16 (maybe c.sum (λ i. c.sum + p.price) x) ≡ true) (fit 1) (λ i l _ e q. rw q at sf)

  window-fits : fits next.window_changed ≡ true
  unfolding place
  window-fits = slot_case t E c p (λ x. fits (maybe c.window_changed (λ i. now) x) ≡ true) (fit 8) (λ i l _ e q. fn)

  prices_still : prices_fit there.slot_prices ≡ true
  prices_still = slot_case t E c p (λ x. prices_fit (maybe ps (λ i. set ps i p.price) x) ≡ true) (prices_fit_lem o h f k) (λ i l _ e q. set-fits ps (prices_fit_lem o h f k) i p.price price-fits)

  prices_right : good_prices there ≡ true
  unfolding good_prices place
  prices_right =
      slot_case t E c p
      (λ x. eqb (maybe c.sum (λ i. c.sum + p.price) x) (Σ< slot_places (λ j. get_or (maybe ps (λ i. set ps i p.price) x) j 0))
      && all< slot_places (λ j. beq (bit j (maybe c.bits (λ i. c.bits + 2 ^ i) x)) (ltb 0 (get_or (maybe ps (λ i. set ps i p.price) x) j 0))) ≡ true)
      (prices_good o h f k) filled
    where
      filled : (i : ℕ) → i < slots t → canonical t E i p ≡ true → bit i c.bits ≡ false → slot_for t E c p ≡ Some i
          → eqb (c.sum + p.price) (Σ< slot_places (λ j. get_or (set ps i p.price) j 0))
          && all< slot_places (λ j. beq (bit j (c.bits + 2 ^ i)) (ltb 0 (get_or (set ps i p.price) j 0))) ≡ true
      filled i l _ e _ =
          let i_32 : i < slot_places = omega (arith, slots_few) in
          let len = prices_are in
          let here : get_or (set ps i p.price) i 0 ≡ p.price = get_or-set_same ps i p.price 0 (omega arith) in
          let added : Σ< slot_places (λ j. get_or (set ps i p.price) j 0) ≡ Σ< slot_places (λ j. get_or ps j 0) + get_or (set ps i p.price) i 0 =
          Σ<-one slot_places i (λ j. get_or ps j 0) (λ j. get_or (set ps i p.price) j 0) i_32 (empty-price h (prices_good o h f k) i i_32 e) (λ j _ ne. get_or-set_other ps i j p.price 0 ne) in
          let same : c.sum + p.price ≡ Σ< slot_places (λ j. get_or (set ps i p.price) j 0) =
          ap (λ (x : ℕ). x + p.price) (total_is h (prices_good o h f k)) ∙ sym (added ∙ ap (λ (x : ℕ). Σ< slot_places (λ j. get_or ps j 0) + x) here) in
          rw (eq-eqb _ _ same)
          (set_all slot_places (λ j x. beq (bit j (c.bits + 2 ^ i)) (ltb 0 x)) ps i p.price len
          (rw (put_same c.bits i e, (good_positive p gp).0)) (λ j m ne. rw (put_other c.bits i e j ne) (slot_is h (prices_good o h f k) j m)))

  slots-after : slots_after o there ≡ true
  unfolding slots_after place canonical
  slots-after =
      slot_case t E c p (λ x. all< slot_places (λ j. not (bit j (maybe c.bits (λ i. c.bits + 2 ^ i) x)) || le_z (pos 2) (boundary t E j)) ≡ true)
      (all<_yes slot_places (slot_after o h) (slot-after o h f k)) filled
    where
      filled : (i : ℕ) → i < slots t → canonical t E i p ≡ true → bit i c.bits ≡ false → slot_for t E c p ≡ Some i
          → all< slot_places (λ j. not (bit j (c.bits + 2 ^ i)) || le_z (pos 2) (boundary t E j)) ≡ true
      filled i l g e _ = all<_yes slot_places _ (λ j m. go j m (eqb j i) refl)
        where
          go : (j : ℕ) → j < slot_places → (b : Bool) → eqb j i ≡ b → not (bit j (c.bits + 2 ^ i)) || le_z (pos 2) (boundary t E j) ≡ true
          go j m true q =
              rw (eqb-true j i q, at_least_2 p.prev (boundary t E i) (good_positive p gp).2 (every_at (canonical_tests t E i p) 3 g)) (or_true (not (bit i (c.bits + 2 ^ i))))
          go j m false q = rw (put_other c.bits i e j (eqb-false j i q)) (slot-after o h f k j m)

  slots_low : low_slots there ≡ true
  unfolding low_slots
  slots_low =
      slot_case t E c p (λ x. all< slot_places (λ j. low_price (get_or (maybe ps (λ i. set ps i p.price) x) j 0)) ≡ true)
      (all<_yes slot_places (λ j. low_price (get_or ps j 0)) (slot_low o h f k))
      (λ i l _ e _. set_all slot_places (λ j x. low_price x) ps i p.price prices_are low (λ j m _. slot_low o h f k j m))

  -- ---- links

  link_case : (P : Bool → Type 0) → (size c.times < t.k → follows t E c.times p ≡ true → P true) → P false → P (is_link t E c p)
  unfolding links
  link_case P y n =
      choose P (is_link t E c p)
      (λ e. let (a, b) = both (ltb (size c.times) t.k) (follows t E c.times p) e in y (ltb-true (size c.times) t.k a) b) n

  few : leb (size next.times) t.k ≡ true
  unfolding place
  few = link_case (λ b. leb (size (if b then c.times ▹ p.published else c.times)) t.k ≡ true) (λ l _. le-leb (suc (size c.times)) t.k l) (state 2)

  same_size : size next.prices ≡ size next.times
  unfolding place
  same_size =
      link_case (λ b. size (if b then c.prices ▹ p.price else c.prices) ≡ size (if b then c.times ▹ p.published else c.times))
      (λ _ _. ap suc (same_sizes c (candidates_fit_lem o h f k))) (same_sizes c (candidates_fit_lem o h f k))

  rises : rising next.times ≡ true
  unfolding place
  rises = link_case (λ b. rising (if b then c.times ▹ p.published else c.times) ≡ true) (λ _ h. rises_more o c.times p (state 3) h) (state 3)

  positive : all (λ price. ltb 0 price) next.prices ≡ true
  unfolding place
  positive =
      link_case (λ b. all (λ price. ltb 0 price) (if b then c.prices ▹ p.price else c.prices) ≡ true)
      (λ _ _. rw (state 4, (good_positive p gp).0)) (state 4)

  times_fit_lem : all fits next.times ≡ true
  unfolding place
  times_fit_lem = link_case (λ b. all fits (if b then c.times ▹ p.published else c.times) ≡ true) (λ _ _. rw (fit 4, ft)) (fit 4)

  links-priced : all (fits_unsigned 8) next.prices ≡ true
  unfolding place
  links-priced = link_case (λ b. all (fits_unsigned 8) (if b then c.prices ▹ p.price else c.prices) ≡ true) (λ _ _. rw (fit 5, price-fits)) (fit 5)

  link_fits : fits next.link_changed ≡ true
  unfolding place
  link_fits = link_case (λ b. fits (if b then now else c.link_changed) ≡ true) (λ _ _. fn) (fit 9)

  links-after : links_after o there ≡ true
  unfolding place
  links-after = link_case (λ b. all (lt_z E) (if b then c.times ▹ p.published else c.times) ≡ true) (λ _ k. after_more o c.times p (left 0) k) (left 0)

  link_expiry_lem : link_expiry o there ≡ true
  unfolding place
  link_expiry_lem =
      link_case (λ b. eqb (size (if b then c.times ▹ p.published else c.times)) 0 || le_z (pos 1) E ≡ true)
      (λ _ k. rw (first c.times k (left 1)) (or_true (eqb (suc (size c.times)) 0))) (left 1)
    where
      first : (ts : Log ℤ) → follows t E ts p ≡ true → eqb (size ts) 0 || le_z (pos 1) E ≡ true → le_z (pos 1) E ≡ true
      first ε k e = at_least_1 p.prev E (good_positive p gp).2 (both (le_z p.prev E) (lt_z E p.published) k).0
      first (ts ▹ l) k e = rw (ne_eqb (suc (size ts)) 0 (omega arith)) at e

  links_low : low_links there ≡ true
  unfolding place
  links_low = link_case (λ b. all low_price (if b then c.prices ▹ p.price else c.prices) ≡ true) (λ _ _. rw (left 5, low)) (left 5)

  link_unchanged_lem : link_unchanged there ≡ true
  unfolding place
  link_unchanged_lem =
      link_case (λ b. not (eqb (size (if b then c.times ▹ p.published else c.times)) 0) || eq_z (if b then now else c.link_changed) (pos 0) ≡ true)
      (λ _ _. rw (ne_eqb (suc (size c.times)) 0 (omega arith))) (left 7)

  -- ---- the fallback

  fallback_case : (P : Bool → Type 0) → P true → P false → P (is_fallback t E c p)
  fallback_case P y n = choose P (is_fallback t E c p) (λ _. y) n

  fallback_within_lem : fallback_within o there ≡ true
  unfolding place qualifies
  fallback_within_lem =
      choose (λ b. eqb (if b then p.price else c.fallback_price) 0 || every (fallback_time_tests o (if b then p.published else c.fallback_time)) ≡ true) (is_fallback t E c p)
      (λ e.
      let q = (both (qualifies t E p) (lt_z c.fallback_time p.published) e).0 in
      let (ab, l) = both (le_z (E -ℤ pos t.lookback) p.published && le_z p.published E) (lt_z p.prev p.published) q in
      let (a, b) = both (le_z (E -ℤ pos t.lookback) p.published) (le_z p.published E) ab in
      rw (a, b, at_least_2 p.prev p.published (good_positive p gp).2 l) (or_true (eqb p.price 0)))
      (left 3)

  fallback_low : low_fallback there ≡ true
  unfolding place
  fallback_low = fallback_case (λ b. low_price (if b then p.price else c.fallback_price) ≡ true) low (left 6)

  fallback_unchanged_lem : fallback_unchanged there ≡ true
  unfolding place
  fallback_unchanged_lem =
      fallback_case (λ b. not (eqb (if b then p.price else c.fallback_price) 0) || eq_z (if b then now else c.fallback_changed) (pos 0) ≡ true)
      (rw (ne_eqb p.price 0 (omega (arith, priced)))) (left 8)

  fallback_both : beq (eq_z next.fallback_time (pos 0)) (eqb next.fallback_price 0) ≡ true
  unfolding place
  fallback_both =
      fallback_case (λ b. beq (eq_z (if b then p.published else c.fallback_time) (pos 0)) (eqb (if b then p.price else c.fallback_price) 0) ≡ true)
      (rw (lt_true (pos 0) p.published (good_positive p gp).1, ne_eqb p.price 0 (omega (arith, priced)))) (state 5)

  fallback_time_fits : fits next.fallback_time ≡ true
  unfolding place
  fallback_time_fits = fallback_case (λ b. fits (if b then p.published else c.fallback_time) ≡ true) ft (fit 6)

  fallback-price-fits : fits_unsigned 8 next.fallback_price ≡ true
  unfolding place
  fallback-price-fits = fallback_case (λ b. fits_unsigned 8 (if b then p.price else c.fallback_price) ≡ true) price-fits (fit 7)

  fallback-fits : fits next.fallback_changed ≡ true
  unfolding place
  fallback-fits = fallback_case (λ b. fits (if b then now else c.fallback_changed) ≡ true) fn (fit 10)

  -- ---- all of it

  candidates_still : candidates_fit next ≡ true
  unfolding candidates_fit
  candidates_still =
      rw (
        lt-ltb _ _ (lt_of_lt_of_le bits_still (pow_mono slots_few)),
        sum_fits_lem,
        le-leb (size next.times) 5 (omega (arith, leb-true (size next.times) t.k few, links_5 o h f k)),
        eq-eqb (size next.prices) (size next.times) same_size,
        times_fit_lem,
        links-priced,
        fallback_time_fits,
        fallback-price-fits,
        window-fits,
        link_fits,
        fallback-fits,
      )

  state_still : good_state t (parts_of next) ≡ true
  state_still =
      state_tests_lem t next candidates_still
      ∙ rw (
        lt-ltb _ _ bits_still,
        zero_both there prices_right (lt_of_lt_of_le bits_still (pow_mono slots_few)),
        few,
        rises,
        positive,
        fallback_both,
      )

  left_still : left_by_prints o there ≡ true
  unfolding left_by_prints
  left_still = rw (links-after, link_expiry_lem, slots-after, fallback_within_lem, slots_low, links_low, fallback_low, link_unchanged_lem, fallback_unchanged_lem, tf)

  pub placed_fits : series_fits (live o there) ≡ true
  placed_fits = rw (opening-fits o h f k, candidates_still, prices_still)

  pub placed_sound : sound (live o there) ≡ true
  placed_sound = rw (terms_good o h f k, state_still, prices_right, left_still)

-- ---- a print that becomes a link has no other use, where the links are after E

module _ (o : Opening) (h : Holdings) (behind : links_after o h ≡ true) (p : Print) (l : is_link o.terms o.expiry h.candidates p ≡ true) where
  link_after : lt_z o.expiry p.published ≡ true
  unfolding links
  link_after =
      let ts = h.candidates.times in
      let f = (both (ltb (size ts) o.terms.k) (follows o.terms o.expiry ts p) l).1 in
      (both (all (lt_z o.expiry) ts) (lt_z o.expiry p.published) (after_more o ts p behind f)).1

  pub link_no_fallback : is_fallback o.terms o.expiry h.candidates p ≡ false
  unfolding qualifies
  link_no_fallback = simp (lt_true o.expiry p.published link_after, and_false)

  pub link_no_slot : slot_for o.terms o.expiry h.candidates p ≡ None
  unfolding canonical
  link_no_slot = slot_case o.terms o.expiry h.candidates p (λ x. x ≡ None) refl (λ i m c _ _. absurd (too_late i m c))
    where
      too_late : (i : ℕ) → i < slots o.terms → canonical o.terms o.expiry i p ≡ true → ⊥
      too_late i m c =
          let E = o.expiry in
          let w = o.terms.window in
          let s = o.terms.slot in
          let b = boundary o.terms E i in
          let inside : suc i * s ≤ w = omega (arith, mul-le-mul_right {m = suc i} {n = slots o.terms} s m, div-add-mod' w s) in
          omega (
            arith,
            lt_yes p.published (b +ℤ pos s) (every_at (canonical_tests o.terms E i p) 1 c),
            lt_yes E p.published link_after,
            sum_law b (pos s),
            sum_law (E -ℤ pos w) (pos (i * s)),
            difference_law E (pos w),
            suc-mul i s,
          )
