-- The tests of what prints leave, as the code makes them.
use Prim.Native.Nat.{ℕ, zero, suc, ◌+◌, ◌*◌, ◌/◌, ◌%◌, ◌^◌, ◌≤◌, ◌<◌}
use mathlib.Core.Path.{◌≡◌, refl, sym, ap, ap₂, ◌∙◌, fun_ext}
use mathlib.Core.Bool.{Bool, true, false, not, ◌&&◌, ◌||◌}
use mathlib.Core.List.{List, [], ◌∷◌, map}
use native.Mathlib.Omega.{arith}
use native.Mathlib.Numerals.{add-one}
use native.Mathlib.Nat.{le_trans, mul-le-mul_right, pos_of_ne-zero}
use lib.ListN.{length, get_or}
use lib.IntN.{ℤ, pos, ◌+ℤ◌, ◌-ℤ◌}
use lib.Signed.{mag, lt_z, le_z}
use lib.Dec.{ltb, leb, eqb}
use lib.Count.{count_trailing_zeros}
use mir.Syntax.{w32, w64}
use mir.Val.{SFits, of_z, to_z}
use mir.Facts.{to_z-of_z}
use borrow.Author.Tests.{ltb-true, ltb-false, leb-true, leb-false, le-leb, lt-ltb, le-ltb, eq-eqb, ne_eqb}
use Rattle.std.specs.List.{range_with_len, list_all}
use Rattle.std.proofs.lemmas.Nat.Bits.{bit_at-trailing_zeros}
use Rattle.std.proofs.lemmas.List.Folds.{list_all-map, list_all-append}
use Rattle.std.proofs.lemmas.List.FromFn.{map-range_with_len_more}
use Rattle.rules.proofs.Bools.{both, not_both, and_true, and_false, or_true, every_at}
use Rattle.rules.proofs.Integers.{up, dn, sum_law, difference_law, lt_yes, no_lt, le_yes, yes_le, no_le, lt_true}
use Rattle.rules.proofs.Logs.{size-front, front_no}
use Rattle.rules.proofs.Bits.{bit_of_0}
use Rattle.rules.proofs.Sums.{all<_yes, all<_no}
use Rattle.rules.proofs.Brought.{times_follow}
use Rattle.rules.proofs.Read.{five-from, opening-fits, bits_fit}
use Rattle.rules.specs.Log.{all, all<, front, every}
use Rattle.rules.specs.Bytes.{Bytes, are_bytes, unsigned_at, signed_at}
use Rattle.rules.specs.Prints.{eq_z}
use Rattle.rules.specs.Taking.{bit}
use Rattle.rules.specs.State.{candidates_of}
use Rattle.rules.specs.Series.{Opening, Holdings, slot_places}
use Rattle.rules.specs.Brought.{low_price, no_link, low_slots, low_links, low_fallback, link_unchanged, fallback_unchanged, links_after, link_expiry, slot_after, slots_after, fallback_time_tests, fallback_within, none_untimely, left_by_prints}
use Rattle.rules.specs.Record.{record_size, good_prices, opening_in, parts_in, holdings_in}
use Rattle.numbers.specs.Times.{gap_of}
use Rattle.std.specs.Prelude.{None, Some}
use Rattle.numbers.proofs.Times.{gap_is, behind_is}
use Rattle.numbers.proofs.Ranges.{zero_64}
use Rattle.record_holdings.specs.Tests.{all_after, first_links, link_tests, fallback_tests}

-- ---- the slots

pub none_filled : (bits slot seconds : ℕ) → bits ≡ 0 → eqb bits 0 ≡ all_after bits slot seconds
unfolding all_after
none_filled bits slot seconds e = eq-eqb bits 0 e ∙ sym (all<_yes slot_places (λ i. not (bit i bits) || leb seconds (i * slot)) (λ j m. rw (e, bit_of_0 j)))

module _ (bits slot seconds : ℕ) where
  -- slot i is the lowest that is filled: it says the same as all of them
  lowest : (i : ℕ) → i < slot_places → ((j : ℕ) → j < i → bit j bits ≡ false) → bit i bits ≡ true → leb seconds (i * slot) ≡ all_after bits slot seconds
  unfolding all_after
  lowest i l clear set = go (leb seconds (i * slot)) refl
    where
      passes : seconds ≤ i * slot → (j : ℕ) (b : Bool) → ltb j i ≡ b → not (bit j bits) || leb seconds (j * slot) ≡ true
      passes h j true q = rw (clear j (ltb-true j i q))
      passes h j false q = rw (le-leb seconds (j * slot) (le_trans h (mul-le-mul_right slot (ltb-false j i q)))) (or_true (not (bit j bits)))

      go : (b : Bool) → leb seconds (i * slot) ≡ b → b ≡ all_after bits slot seconds
      go true q = sym (all<_yes slot_places _ (λ j m. passes (leb-true seconds (i * slot) q) j (ltb j i) refl))
      go false q = sym (all<_no slot_places (λ j. not (bit j bits) || leb seconds (j * slot)) i l (rw (set, q)))

  pub lowest_filled : {i s : ℕ} → bits < 2 ^ 32 → (bits ≡ 0 → ⊥) → i ≡ count_trailing_zeros 32 bits → s ≡ slot → leb seconds (i * s) ≡ all_after bits slot seconds
  unfolding bit
  lowest_filled h n ei es =
      let (l, set, clear) = bit_at-trailing_zeros w32 bits (pos_of_ne-zero n) h in
      rw (ei, es) (lowest (count_trailing_zeros 32 bits) l (λ j m. ne_eqb (bits / 2 ^ j % 2) 1 (λ e. omega (arith, clear j m))) (eq-eqb (bits / 2 ^ count_trailing_zeros 32 bits % 2) 1 set))

-- a number of four bytes with 2 added, as the code does it
pub least_is : {z : ℤ} {n m : ℕ} → z ≡ pos n → n < 2 ^ 32 → n ≡ m → to_z w64 (of_z w64 (pos 2 +ℤ to_z w64 (of_z w64 z))) ≡ pos (2 + m)
least_is {z} {n} {m} p h e =
    let f : SFits w64 (pos n) = record { sfits = omega arith } in
    let g : SFits w64 (pos 2 +ℤ pos n) = record { sfits = omega arith } in
    rw p (ap (λ (y : ℤ). to_z w64 (of_z w64 (pos 2 +ℤ y))) (to_z-of_z f) ∙ to_z-of_z g ∙ ap (λ (k : ℕ). pos (2 + k)) e)

module _ (E : ℤ) (w n : ℕ) where
  late : lt_z (pos (2 + w)) E ≡ true → le_z (pos 2) (E -ℤ pos w +ℤ pos n) ≡ true
  late h = yes_le (pos 2) (E -ℤ pos w +ℤ pos n) (omega (arith, lt_yes (pos (2 + w)) E h, sum_law (E -ℤ pos w) (pos n), difference_law E (pos w)))

  made_up : (m : ℕ) → Some m ≡ gap_of E (pos (2 + w)) → le_z (pos 2) (E -ℤ pos w +ℤ pos n) ≡ leb m n
  made_up m e = go (leb m n) refl
    where
      gap : 2 + w + dn E ≡ m + up E + 0
      gap = gap_is E (pos (2 + w)) m e

      go : (b : Bool) → leb m n ≡ b → le_z (pos 2) (E -ℤ pos w +ℤ pos n) ≡ b
      go true q = yes_le (pos 2) (E -ℤ pos w +ℤ pos n) (omega (arith, leb-true m n q, gap, sum_law (E -ℤ pos w) (pos n), difference_law E (pos w)))
      go false q = no_le (pos 2) (E -ℤ pos w +ℤ pos n) (omega (arith, leb-false m n q, gap, sum_law (E -ℤ pos w) (pos n), difference_law E (pos w)))

module _ (bs : Bytes) where
  abbrev o : Opening
  o = opening_in bs

  abbrev h : Holdings
  h = holdings_in bs

  pub slots_late : {z L : ℤ} → None ≡ gap_of z L → z ≡ signed_at bs 40 8 → L ≡ pos (2 + unsigned_at bs 12 4) → true ≡ slots_after (opening_in bs) (holdings_in bs)
  unfolding slots_after opening_in
  slots_late gap ez el =
      let e : None ≡ gap_of (signed_at bs 40 8) (pos (2 + unsigned_at bs 12 4)) = rw (ez, el) at gap in
      sym (all<_yes slot_places (slot_after o h) (λ i l. rw (late (signed_at bs 40 8) (unsigned_at bs 12 4) (i * unsigned_at bs 16 4) (behind_is (signed_at bs 40 8) (pos (2 + unsigned_at bs 12 4)) e)) (or_true (not (bit i h.candidates.bits)))))

  pub slots_made_up : {r : Bool} {z L : ℤ} {b s m : ℕ} → r ≡ all_after b s m → Some m ≡ gap_of z L → z ≡ signed_at bs 40 8 → L ≡ pos (2 + unsigned_at bs 12 4)
      → b ≡ unsigned_at bs 32 4 → s ≡ unsigned_at bs 16 4 → r ≡ slots_after (opening_in bs) (holdings_in bs)
  unfolding all_after slots_after opening_in candidates_of parts_in
  slots_made_up {r} {z} {L} {b} {s} {m} er gap ez el eb es =
      let e : Some m ≡ gap_of (signed_at bs 40 8) (pos (2 + unsigned_at bs 12 4)) = rw (ez, el) at gap in
      er ∙ rw (eb, es) (ap (all< slot_places) (fun_ext (λ i. ap (λ (b : Bool). not (bit i (unsigned_at bs 32 4)) || b) (sym (made_up (signed_at bs 40 8) (unsigned_at bs 12 4) (i * unsigned_at bs 16 4) m e)))))

  -- ---- the links

  pub link_time_at : (i : ℕ) → i < 5 → get_or (parts_in bs).times i (pos 0) ≡ signed_at bs (64 + 8 * i) 8
  unfolding parts_in
  link_time_at i l = five-from (λ j. signed_at bs j 8) 64 (pos 0) i l

  pub link_price_at : (i : ℕ) → i < 5 → get_or (parts_in bs).prices i 0 ≡ unsigned_at bs (104 + 8 * i) 8
  unfolding parts_in
  link_price_at i l = five-from (λ j. unsigned_at bs j 8) 104 0 i l

  none_is : no_link (holdings_in bs) ≡ eqb (unsigned_at bs 3 1) 0
  unfolding candidates_of parts_in
  none_is = ap (λ (n : ℕ). eqb n 0) (size-front (pos 0) (unsigned_at bs 3 1) (parts_in bs).times)

  -- the test of one link
  abbrev pub link_test : ℕ → Bool
  link_test i = lt_z (signed_at bs 40 8) (signed_at bs (64 + 8 * i) 8) && low_price (unsigned_at bs (104 + 8 * i) 8)

  range_more : (P : ℕ → Bool) (n : ℕ) → list_all P (range_with_len 0 (n + 1)) ≡ list_all P (range_with_len 0 n) && P n
  range_more P n =
      sym (list_all-map P (λ (x : ℕ). x) (range_with_len 0 (n + 1)))
      ∙ ap (list_all P) (map-range_with_len_more (λ (x : ℕ). x) 0 n n (omega arith))
      ∙ list_all-append P (map (λ (x : ℕ). x) (range_with_len 0 n)) (n ∷ [])
      ∙ ap₂ ◌&&◌ (list_all-map P (λ (x : ℕ). x) (range_with_len 0 n)) (and_true (P n))

  pub links_all : (n : ℕ) → n ≤ 5 → list_all link_test (range_with_len 0 n) ≡ first_links bs n
  unfolding front opening_in
  links_all zero l = refl
  links_all (suc n) l =
      ap (λ (k : ℕ). list_all link_test (range_with_len 0 k)) (sym (add-one n)) ∙ range_more link_test n
      ∙ ap (λ (b : Bool). b && link_test n) (links_all n (omega arith))
      ∙ rw (link_time_at n (omega arith), link_price_at n (omega arith)) (crossed (all (lt_z (signed_at bs 40 8)) (front (pos 0) n (parts_in bs).times)) (all low_price (front 0 n (parts_in bs).prices)) (lt_z (signed_at bs 40 8) (signed_at bs (64 + 8 * n) 8)) (low_price (unsigned_at bs (104 + 8 * n) 8)))
    where
      crossed : (a b x y : Bool) → (a && b) && (x && y) ≡ (a && x) && (b && y)
      crossed true true x y = refl
      crossed true false true y = refl
      crossed true false false y = refl
      crossed false b x y = refl

  pub no_links : {z : ℤ} {n : ℕ} → n ≡ unsigned_at bs 3 1 → n ≡ 0 → mag z < 2 ^ 63 → z ≡ signed_at bs 168 8 → eqb (of_z w64 z) 0 ≡ every (link_tests bs)
  unfolding candidates_of parts_in front
  no_links {z} en e f ez =
      zero_64 z (record { sfits = f }) ∙ ap (λ (y : ℤ). eq_z y (pos 0)) ez
      ∙ sym (rw (sym en ∙ e) (and_true (eq_z (signed_at bs 168 8) (pos 0))))

  module _ {n : ℕ} {z : ℤ} (en : n ≡ unsigned_at bs 3 1) (some : n ≡ 0 → ⊥) (ez : z ≡ signed_at bs 40 8) where
    there : unsigned_at bs 3 1 ≡ 0 → ⊥
    there e = some (en ∙ e)

    pub links_early : le_z (pos 1) z ≡ false → false ≡ every (link_tests bs)
    unfolding opening_in
    links_early h = let e = rw ez at h in sym (simp (none_is, ne_eqb (unsigned_at bs 3 1) 0 there, e, and_false))

    pub links_told : {r : Bool} → le_z (pos 1) z ≡ true → r ≡ first_links bs n → r ≡ every (link_tests bs)
    unfolding opening_in candidates_of parts_in
    links_told h er =
        let e = rw ez at h in
        er ∙ ap (first_links bs) en
        ∙ sym (rw (none_is, ne_eqb (unsigned_at bs 3 1) 0 there, e) (ap (λ (x : Bool). links_after (opening_in bs) (holdings_in bs) && x) (and_true (low_links (holdings_in bs)))))

    -- a sixth link would be at 0
    pub links_many : le_z (pos 1) z ≡ true → 5 < n → false ≡ every (link_tests bs)
    unfolding opening_in
    links_many h l =
        let e = rw ez at h in
        let few : first_links bs n ≡ false =
        ap (λ (x : Bool). x && all low_price (front 0 n (parts_in bs).prices))
        (front_no (lt_z (signed_at bs 40 8)) (pos 0) n (parts_in bs).times 5 l (unfold parts_in in no_lt (signed_at bs 40 8) (pos 0) (omega (arith, le_yes (pos 1) (signed_at bs 40 8) e)))) in
        links_told h (sym few)

  -- ---- the fallback

  pub no_fallback : {z : ℤ} {p : ℕ} → p ≡ unsigned_at bs 152 8 → p ≡ 0 → mag z < 2 ^ 63 → z ≡ signed_at bs 176 8 → eqb (of_z w64 z) 0 ≡ every (fallback_tests bs)
  unfolding candidates_of parts_in
  no_fallback {z} ep e f ez =
      zero_64 z (record { sfits = f }) ∙ ap (λ (y : ℤ). eq_z y (pos 0)) ez
      ∙ sym (rw (sym ep ∙ e) (and_true (eq_z (signed_at bs 176 8) (pos 0))))

  pub fallback_high : {p : ℕ} → p ≡ unsigned_at bs 152 8 → 2 ^ 63 ≤ p → false ≡ every (fallback_tests bs)
  unfolding candidates_of parts_in
  fallback_high ep h = let e = le-ltb (unsigned_at bs 152 8) (2 ^ 63) (omega arith) in sym (simp (e, and_false))

  pub fallback_told : {p : ℕ} {t : ℤ} {r : Bool} → r ≡ every (fallback_time_tests (opening_in bs) t) → t ≡ signed_at bs 144 8
      → p ≡ unsigned_at bs 152 8 → (p ≡ 0 → ⊥) → p < 2 ^ 63 → r ≡ every (fallback_tests bs)
  unfolding candidates_of parts_in
  fallback_told er et ep some low =
      let e = lt-ltb (unsigned_at bs 152 8) (2 ^ 63) (omega arith) in
      er ∙ ap (λ (y : ℤ). every (fallback_time_tests (opening_in bs) y)) et
      ∙ sym (rw (ne_eqb (unsigned_at bs 152 8) 0 (λ q. some (ep ∙ q)), e) (and_true _))

  -- the time comes back from its bits as y
  module _ {y : ℤ} (t : ℤ) where
    pub fallback_soon : le_z (pos 2) y ≡ false → y ≡ t → false ≡ every (fallback_time_tests (opening_in bs) t)
    fallback_soon h et = let e = rw et at h in sym (simp (e, and_false))

    pub fallback_behind : {z : ℤ} → None ≡ gap_of y z → y ≡ t → z ≡ signed_at bs 40 8 → false ≡ every (fallback_time_tests (opening_in bs) t)
    unfolding opening_in
    fallback_behind gap et ez =
        let e : None ≡ gap_of t (signed_at bs 40 8) = rw (et, ez) at gap in
        let f = lt_true (signed_at bs 40 8) t (behind_is t (signed_at bs 40 8) e) in
        sym (simp (f, and_false))

    pub fallback_age : {z : ℤ} {age k l : ℕ} → Some age ≡ gap_of y z → le_z (pos 2) y ≡ true → y ≡ t → z ≡ signed_at bs 40 8 → k ≡ unsigned_at bs 24 4 → l ≡ k
        → leb age l ≡ every (fallback_time_tests (opening_in bs) t)
    unfolding opening_in
    fallback_age {z} {age} {k} {l} gap late et ez ek el = aged (leb age l) refl ∙ sym (rw (late_is, not_after) (and_true _))
      where
        E : ℤ
        E = signed_at bs 40 8

        late_is : le_z (pos 2) t ≡ true
        late_is = rw et at late

        far : up E + dn t ≡ age + up t + dn E
        far = gap_is t E age (rw (et, ez) at gap)

        not_after : le_z t E ≡ true
        not_after = yes_le t E (omega (arith, far))

        aged : (b : Bool) → leb age l ≡ b → b ≡ le_z (E -ℤ pos (unsigned_at bs 24 4)) t
        aged true q = sym (yes_le (E -ℤ pos (unsigned_at bs 24 4)) t (omega (arith, far, leb-true age l q, difference_law E (pos (unsigned_at bs 24 4)))))
        aged false q = sym (no_le (E -ℤ pos (unsigned_at bs 24 4)) t (omega (arith, far, leb-false age l q, difference_law E (pos (unsigned_at bs 24 4)))))

  -- ---- all of it

  -- #111's tests in their order, of which the code makes e with the slot prices, c, then a, b, f, i, then d, g, j; k follows
  abbrev joined : Bool → Bool → Bool → Bool → Bool → Bool → Bool → Bool → Bool → Bool → Bool
  joined a b c d e f g i j k = every (a ∷ b ∷ c ∷ d ∷ e ∷ f ∷ g ∷ i ∷ j ∷ k ∷ [])

  high_slot : low_slots (holdings_in bs) ≡ false → left_by_prints (opening_in bs) (holdings_in bs) ≡ false
  unfolding left_by_prints
  high_slot e = simp (e, and_false)

  early_slot : slots_after (opening_in bs) (holdings_in bs) ≡ false → left_by_prints (opening_in bs) (holdings_in bs) ≡ false
  unfolding left_by_prints
  early_slot e = simp (e, and_false)

  spoilt_link : every (link_tests bs) ≡ false → left_by_prints (opening_in bs) (holdings_in bs) ≡ false
  unfolding left_by_prints
  spoilt_link e = go (links_after o h) (link_expiry o h) (slots_after o h) (fallback_within o h) (low_slots h) (low_links h) (low_fallback h) (link_unchanged h) (fallback_unchanged h) (none_untimely o h) e
    where
      go : (a b c d e f g i j k : Bool) → every (a ∷ b ∷ f ∷ i ∷ []) ≡ false → joined a b c d e f g i j k ≡ false
      go false b c d e f g i j k h = refl
      go true false c d e f g i j k h = refl
      go true true c d e false g i j k h = simp and_false
      go true true c d e true g false j k h = simp and_false
      go true true c d e true g true j k h = absurd (not_both refl h)

  module _ (are : are_bytes bs ≡ true) where
    few : (holdings_in bs).candidates.bits < 2 ^ slot_places
    unfolding candidates_of
    few = ltb-true (parts_in bs).bits (2 ^ slot_places) (bits_fit bs are)

    pub left_is : low_slots (holdings_in bs) ≡ true → slots_after (opening_in bs) (holdings_in bs) ≡ true → every (link_tests bs) ≡ true
        → every (fallback_tests bs) ≡ left_by_prints (opening_in bs) (holdings_in bs)
    unfolding left_by_prints
    left_is low slot link =
        go (links_after o h) (link_expiry o h) (slots_after o h) (fallback_within o h) (low_slots h) (low_links h) (low_fallback h) (link_unchanged h) (fallback_unchanged h) (none_untimely o h) link slot low (λ d. times_follow (opening_in bs) (holdings_in bs) (opening-fits bs are) few (every_at (link_tests bs) 1 link) slot d)
      where
        go : (a b c d e f g i j k : Bool) → every (a ∷ b ∷ f ∷ i ∷ []) ≡ true → c ≡ true → e ≡ true → (d ≡ true → k ≡ true) → every (d ∷ g ∷ j ∷ []) ≡ joined a b c d e f g i j k
        go a b c true e f g i j k h x y r =
            let tests : List Bool = a ∷ b ∷ f ∷ i ∷ [] in
            sym (rw (every_at tests 0 h, every_at tests 1 h, every_at tests 2 h, every_at tests 3 h, x, y, r refl))
        go a b c false e f g i j k h x y r =
            let tests : List Bool = a ∷ b ∷ f ∷ i ∷ [] in
            sym (rw (every_at tests 0 h, every_at tests 1 h, x))

  -- with the slot prices, whose test has one of these in it
  abbrev prices_test : Bool
  prices_test = eqb (length bs) record_size && (good_prices (holdings_in bs) && low_slots (holdings_in bs))

  abbrev holdings_test : Bool
  holdings_test = eqb (length bs) record_size && (good_prices (holdings_in bs) && left_by_prints (opening_in bs) (holdings_in bs))

  pub prices_fail : {p : Bool} → p ≡ prices_test → p ≡ false → false ≡ holdings_test
  prices_fail ep q = sym (go (eqb (length bs) record_size) (good_prices h) (low_slots h) (left_by_prints o h) high_slot (sym ep ∙ q))
    where
      go : (l g w r : Bool) → (w ≡ false → r ≡ false) → l && (g && w) ≡ false → l && (g && r) ≡ false
      go false g w r f e = refl
      go true false w r f e = refl
      go true true w r f e = f e

  module _ {p : Bool} (ep : p ≡ prices_test) (passed : p ≡ true) where
    low : low_slots (holdings_in bs) ≡ true
    low = (both (good_prices h) (low_slots h) (both (eqb (length bs) record_size) (good_prices h && low_slots h) (sym ep ∙ passed)).1).1

    rest : holdings_test ≡ left_by_prints (opening_in bs) (holdings_in bs)
    rest =
        let (l, r) = both (eqb (length bs) record_size) (good_prices h && low_slots h) (sym ep ∙ passed) in
        rw (l, (both (good_prices h) (low_slots h) r).0)

    pub slots_fail : {s : Bool} → s ≡ slots_after (opening_in bs) (holdings_in bs) → s ≡ false → false ≡ holdings_test
    slots_fail es q = sym (rest ∙ early_slot (sym es ∙ q))

    pub links_fail : {l : Bool} → l ≡ every (link_tests bs) → l ≡ false → false ≡ holdings_test
    links_fail el q = sym (rest ∙ spoilt_link (sym el ∙ q))

    pub fallback_left : {s l f : Bool} → are_bytes bs ≡ true → s ≡ slots_after (opening_in bs) (holdings_in bs) → s ≡ true → l ≡ every (link_tests bs) → l ≡ true
        → f ≡ every (fallback_tests bs) → f ≡ holdings_test
    fallback_left are es s el l ef = ef ∙ left_is are low (sym es ∙ s) (sym el ∙ l) ∙ sym rest
