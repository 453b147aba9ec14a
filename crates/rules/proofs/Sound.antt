-- What the tests of an acceptable record say of an open series, and of its slot prices with one of them set.
use Prim.Native.Nat.{ℕ, ◌^◌, ◌<◌, ◌≤◌}
use mathlib.Core.Path.{◌≡◌, refl, sym, ap, ◌∙◌}
use mathlib.Core.Bool.{Bool, true, false, beq}
use mathlib.Core.List.{List, [], ◌∷◌}
use native.Mathlib.Omega.{arith}
use lib.ListN.{length, get_or, set, length-set}
use lib.Seq.{get_or-set_same, get_or-set_other}
use lib.Dec.{ltb, eqb}
use borrow.Author.Tests.{ltb-true, ltb-false, eqb-true, eqb-false}
use Rattle.rules.proofs.Bools.{both, test, every_at}
use Rattle.rules.proofs.Sums.{Σ<_ext, Σ<_zero, Σ<-part, all<_yes, all<_at}
use Rattle.rules.proofs.Bits.{bit_of_0, no_bits}
use Rattle.rules.proofs.Place.{few_slots, few_links}
use Rattle.rules.proofs.State.{state_tests, state_tests_lem}
use Rattle.rules.proofs.Acceptable.{sound_tests, sound}
use Rattle.rules.specs.Log.{Σ<, all<}
use Rattle.rules.specs.Bytes.{fits_unsigned}
use Rattle.rules.specs.Terms.{slots, good_terms}
use Rattle.rules.specs.Taking.{bit}
use Rattle.rules.specs.Series.{Opening, Holdings, slot_places, live}
use Rattle.rules.specs.Brought.{low_price, low_slots, slot_after, slots_after, brought_tests, left_by_prints}
use Rattle.rules.specs.Record.{slot_priced, good_prices, opening_fits, candidates_fit, prices_fit, series_fits}

-- ---- the tests, one by one

module _ (o : Opening) (h : Holdings) (f : series_fits (live o h) ≡ true) (k : sound (live o h) ≡ true) where
  fits_at : (j : ℕ) → test (opening_fits o ∷ candidates_fit h.candidates ∷ prices_fit h.slot_prices ∷ []) j ≡ true
  fits_at j = every_at (opening_fits o ∷ candidates_fit h.candidates ∷ prices_fit h.slot_prices ∷ []) j f

  pub opening-fits : opening_fits o ≡ true
  opening-fits = fits_at 0

  pub candidates_fit_lem : candidates_fit h.candidates ≡ true
  candidates_fit_lem = fits_at 1

  pub prices_fit_lem : prices_fit h.slot_prices ≡ true
  prices_fit_lem = fits_at 2

  pub terms_good : good_terms o.terms ≡ true
  terms_good = every_at (sound_tests o h) 0 k

  pub slots_32 : slots o.terms ≤ slot_places
  slots_32 = few_slots o terms_good

  pub links_5 : o.terms.k ≤ 5
  links_5 = few_links o terms_good

  pub state_at : (j : ℕ) → test (state_tests o.terms h.candidates) j ≡ true
  state_at j = every_at (state_tests o.terms h.candidates) j (sym (state_tests_lem o.terms h.candidates candidates_fit_lem) ∙ every_at (sound_tests o h) 1 k)

  pub bits_below : h.candidates.bits < 2 ^ slots o.terms
  bits_below = ltb-true h.candidates.bits (2 ^ slots o.terms) (state_at 0)

  pub prices_good : good_prices h ≡ true
  prices_good = every_at (sound_tests o h) 2 k

  pub left_at : (j : ℕ) → test (brought_tests o h) j ≡ true
  unfolding left_by_prints
  left_at j = every_at (brought_tests o h) j (every_at (sound_tests o h) 3 k)

  pub slot-after : (i : ℕ) → i < slot_places → slot_after o h i ≡ true
  unfolding slots_after
  slot-after i l = all<_at slot_places (slot_after o h) (left_at 2) i l

  pub slot_low : (i : ℕ) → i < slot_places → low_price (get_or h.slot_prices i 0) ≡ true
  unfolding low_slots
  slot_low i l = all<_at slot_places (λ j. low_price (get_or h.slot_prices j 0)) (left_at 4) i l

-- ---- slot prices that fit

-- a test of each place of a list, with one place set
pub set_all : (n : ℕ) (Q : ℕ → ℕ → Bool) (xs : List ℕ) (i v : ℕ) → length xs ≡ n → Q i v ≡ true → ((j : ℕ) → j < n → (j ≡ i → ⊥) → Q j (get_or xs j 0) ≡ true)
    → all< n (λ j. Q j (get_or (set xs i v) j 0)) ≡ true
set_all n Q xs i v len here other = all<_yes n (λ j. Q j (get_or (set xs i v) j 0)) (λ j l. go j l (eqb j i) refl)
  where
    go : (j : ℕ) → j < n → (b : Bool) → eqb j i ≡ b → Q j (get_or (set xs i v) j 0) ≡ true
    go j l true e =
        let q = eqb-true j i e in
        ap (λ (k : ℕ). Q k (get_or (set xs i v) k 0)) q ∙ ap (Q i) (get_or-set_same xs i v 0 (omega arith)) ∙ here
    go j l false e = ap (Q j) (get_or-set_other xs i j v 0 (eqb-false j i e)) ∙ other j l (eqb-false j i e)

module _ (xs : List ℕ) (f : prices_fit xs ≡ true) where
  pub prices-length : length xs ≡ slot_places
  unfolding prices_fit
  prices-length = eqb-true (length xs) slot_places (both (eqb (length xs) slot_places) (all< slot_places (λ i. fits_unsigned 8 (get_or xs i 0))) f).0

  pub set-fits : (i v : ℕ) → fits_unsigned 8 v ≡ true → prices_fit (set xs i v) ≡ true
  unfolding prices_fit
  set-fits i v h =
      let (a, b) = both (eqb (length xs) slot_places) (all< slot_places (λ i. fits_unsigned 8 (get_or xs i 0))) f in
      rw (length-set xs i v, a)
      (set_all slot_places (λ j x. fits_unsigned 8 x) xs i v prices-length h (λ j l _. all<_at slot_places (λ i. fits_unsigned 8 (get_or xs i 0)) b j l))

-- ---- slot prices that are right

module _ (h : Holdings) (g : good_prices h ≡ true) where
  abbrev bits : ℕ
  bits = h.candidates.bits

  abbrev sum : ℕ
  sum = h.candidates.sum

  abbrev price : ℕ → ℕ
  price i = get_or h.slot_prices i 0

  pub total_is : sum ≡ Σ< slot_places (λ i. get_or h.slot_prices i 0)
  unfolding good_prices
  total_is = eqb-true sum (Σ< slot_places price) (both (eqb sum (Σ< slot_places price)) (all< slot_places (slot_priced h)) g).0

  pub slot_is : (i : ℕ) → i < slot_places → slot_priced h i ≡ true
  unfolding good_prices
  slot_is i l = all<_at slot_places (slot_priced h) (both (eqb sum (Σ< slot_places price)) (all< slot_places (slot_priced h)) g).1 i l

  -- a slot has a price exactly where it is filled
  pub priced_as_filled : (i : ℕ) → i < slot_places → bit i bits ≡ ltb 0 (get_or h.slot_prices i 0)
  priced_as_filled i l = same (bit i bits) (ltb 0 (price i)) (slot_is i l)
    where
      same : (a b : Bool) → beq a b ≡ true → a ≡ b
      same true true e = refl
      same true false e = sym e
      same false true e = e
      same false false e = refl

  -- and its price is part of the sum
  pub price_within : (i : ℕ) → i < slot_places → get_or h.slot_prices i 0 ≤ sum
  price_within i l = rw total_is (Σ<-part slot_places price i l)

  pub empty-price : (i : ℕ) → i < slot_places → bit i bits ≡ false → get_or h.slot_prices i 0 ≡ 0
  empty-price i l e = let m = ltb-false 0 (price i) (sym (priced_as_filled i l) ∙ e) in omega arith

  -- so the sum is 0 exactly where no bit is set
  pub zero_both : bits < 2 ^ slot_places → beq (eqb bits 0) (eqb sum 0) ≡ true
  zero_both low = go (eqb bits 0) (eqb sum 0) refl refl
    where
      go : (x y : Bool) → eqb bits 0 ≡ x → eqb sum 0 ≡ y → beq x y ≡ true
      go true true p q = refl
      go false false p q = refl
      go true false p q =
          let none : (i : ℕ) → i < slot_places → price i ≡ 0 = λ i l. empty-price i l (rw (eqb-true bits 0 p) (bit_of_0 i)) in
          absurd (eqb-false sum 0 q (total_is ∙ Σ<_ext slot_places price (λ i. 0) none ∙ Σ<_zero slot_places))
      go false true p q =
          let s = eqb-true sum 0 q in
          let none : (i : ℕ) → i < slot_places → price i ≡ 0 = λ i l. omega (arith, price_within i l) in
          absurd (eqb-false bits 0 p (no_bits slot_places bits low (λ i l. rw (none i l) at (priced_as_filled i l))))
