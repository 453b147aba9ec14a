-- What prints always leave: the ledger's holdings pass #111's tests. And the last of these follows from the others.
use Rattle.std.specs.Prelude.{if◌then◌else◌, Option, None, Some}
use Prim.Native.Nat.{ℕ, suc, ◌*◌, ◌<◌, ◌≤◌, ◌^◌}
use mathlib.Core.Path.{◌≡◌, refl}
use mathlib.Core.Bool.{Bool, true, false, not, ◌&&◌, ◌||◌}
use mathlib.Core.List.{[], ◌∷◌}
use native.Mathlib.Omega.{arith}
use native.Mathlib.Nat.{mul-le-mul_right}
use lib.ListN.{get_or}
use lib.IntN.{ℤ, pos, negsuc, ◌-ℤ◌}
use lib.Signed.{lt_z, le_z}
use lib.Dec.{ltb, eqb}
use borrow.Author.Tests.{ltb-true, ltb-false, lt-ltb, eq-eqb, eqb-false, ne_eqb}
use Rattle.rules.proofs.Bools.{both, or_true, test, every_at}
use Rattle.rules.proofs.Integers.{up, dn, apart, sum_law, difference_law, lt_yes, le_yes, yes_le, lt_le, lt_le_trans}
use Rattle.rules.proofs.Logs.{all_map, first_some, first-all, list_at}
use Rattle.rules.proofs.Sums.{Σ<_ext, Σ<_zero, all<_yes, all<_at}
use Rattle.rules.proofs.Bits.{no_bits}
use Rattle.rules.proofs.Place.{of_prints, prints-all, holder-all, small, candidates-bit, no_bit}
use Rattle.rules.proofs.Series.{good_positive}
use Rattle.rules.proofs.Fields.{chain-all}
use Rattle.rules.specs.Log.{Log, ε, ◌▹◌, is_some, maybe, size, all, last, map, every}
use Rattle.rules.specs.Bytes.{fits}
use Rattle.rules.specs.Prints.{Print, good_print, eq_z}
use Rattle.rules.specs.Terms.{slots}
use Rattle.rules.specs.Taking.{bit, boundary, canonical_tests, canonical, links, follows, qualifies, times_fit}
use Rattle.rules.specs.Series.{Opening, Holdings, slot_places}
use Rattle.rules.specs.Brought.{low_price, no_slot, no_link, no_fallback, low_slots, low_links, low_fallback, link_unchanged, fallback_unchanged, links_after, link_expiry, slot_after, slots_after, fallback_time_tests, fallback_within, none_untimely, left_by_prints}
use Rattle.rules.specs.Record.{opening_fields, opening_fits}
use Rattle.rules.specs.Ledger.{Posting, Event, prints, after_withdrawal, holder, chain, fallback, greatest, qualified, candidates, price_at, slot_prices, holdings}

abbrev pub good : Posting → Bool
good p = good_print p.print

-- between 0 and b there is a time, so b is at least 2
pub at_least_2 : (z b : ℤ) → lt_z (pos 0) z ≡ true → lt_z z b ≡ true → le_z (pos 2) b ≡ true
at_least_2 z b h k = yes_le (pos 2) b (omega (arith, lt_yes (pos 0) z h, lt_yes z b k))

pub at_least_1 : (z b : ℤ) → lt_z (pos 0) z ≡ true → le_z z b ≡ true → le_z (pos 1) b ≡ true
at_least_1 z b h k = yes_le (pos 1) b (omega (arith, lt_yes (pos 0) z h, le_yes z b k))

-- ---- the chain

module _ (o : Opening) where
  abbrev E : ℤ
  E = o.expiry

  abbrev pub times : Log Posting → Log ℤ
  times ps = map (λ q. q.print.published) (chain o ps)

  pub after_more : (ts : Log ℤ) (p : Print) → all (lt_z E) ts ≡ true → follows o.terms E ts p ≡ true → all (lt_z E) (ts ▹ p.published) ≡ true
  after_more ε p a f = (both (le_z p.prev E) (lt_z E p.published) f).1
  after_more (ts ▹ t) p a f =
      rw (a, lt_le_trans E t p.published (both (all (lt_z E) ts) (lt_z E t) a).1 (lt_le t p.published (both (eq_z p.prev t) (lt_z t p.published) f).1))

  chain-after : (ps : Log Posting) → all (lt_z E) (times ps) ≡ true
  unfolding chain links
  chain-after ε = refl
  chain-after (ps ▹ p) = go (links o.terms E (times ps) p.print) refl (chain-after ps)
    where
      go : (b : Bool) → links o.terms E (times ps) p.print ≡ b → all (lt_z E) (times ps) ≡ true
          → all (lt_z E) (map (λ q. q.print.published) (if b then chain o ps ▹ p else chain o ps)) ≡ true
      go true l r = after_more (times ps) p.print r (both (ltb (size (times ps)) o.terms.k) (follows o.terms E (times ps) p.print) l).1
      go false l r = r

  chain-expiry : (ps : Log Posting) → all good ps ≡ true → 0 < size (times ps) → le_z (pos 1) E ≡ true
  unfolding chain links
  chain-expiry ε a h = absurd (omega arith)
  chain-expiry (ps ▹ p) a h =
      let (x, y) = both (all good ps) (good p) a in
      go (links o.terms E (times ps) p.print) refl h (chain-expiry ps x) y
    where
      at : (ts : Log ℤ) → times ps ≡ ts → follows o.terms E ts p.print ≡ true → (0 < size (times ps) → le_z (pos 1) E ≡ true) → good p ≡ true → le_z (pos 1) E ≡ true
      at ε q f r g = at_least_1 p.print.prev E (good_positive p.print g).2 (both (le_z p.print.prev E) (lt_z E p.print.published) f).0
      at (ts ▹ t) q f r g = r (rw q (omega arith))

      go : (b : Bool) → links o.terms E (times ps) p.print ≡ b → 0 < size (map (λ q. q.print.published) (if b then chain o ps ▹ p else chain o ps))
          → (0 < size (times ps) → le_z (pos 1) E ≡ true) → good p ≡ true → le_z (pos 1) E ≡ true
      go true l h r g = at (times ps) refl (both (ltb (size (times ps)) o.terms.k) (follows o.terms E (times ps) p.print) l).1 r g
      go false l h r g = r h

-- ---- all of them

no_posting : (x : Option Posting) → maybe true (λ p. false) x ≡ true → x ≡ None
no_posting None h = refl
no_posting (Some p) h = cc

module _ (o : Opening) (es : Log Event) (g : all (of_prints good) es ≡ true) (low : all (of_prints small) es ≡ true)
    (late : times_fit o.terms o.expiry ≡ false → all (of_prints (λ p. false)) es ≡ true) where
  abbrev ps : Log Posting
  ps = prints es

  link_expiry_lem : link_expiry o (holdings o es) ≡ true
  unfolding candidates
  link_expiry_lem = go (eqb (size (times o ps)) 0) refl
    where
      go : (b : Bool) → eqb (size (times o ps)) 0 ≡ b → b || le_z (pos 1) o.expiry ≡ true
      go true e = refl
      go false e = let n = eqb-false (size (times o ps)) 0 e in chain-expiry o ps (prints-all good es g) (omega arith)

  slot-canonical : (i : ℕ) (p : Posting) → holder o es i ≡ Some p → canonical o.terms o.expiry i p.print ≡ true
  unfolding holder
  slot-canonical i p e = first_some (λ q. canonical o.terms o.expiry i q.print) (after_withdrawal o es i) p e

  slot-after : (i : ℕ) → slot_after o (holdings o es) i ≡ true
  unfolding canonical
  slot-after i = go (ltb i (slots o.terms)) refl
    where
      at : (x : Option Posting) → holder o es i ≡ x → maybe true good x ≡ true → not (is_some x) || le_z (pos 2) (boundary o.terms o.expiry i) ≡ true
      at None e h = refl
      at (Some p) e h =
          at_least_2 p.print.prev (boundary o.terms o.expiry i) (good_positive p.print h).2
          (every_at (canonical_tests o.terms o.expiry i p.print) 3 (slot-canonical i p e))

      go : (b : Bool) → ltb i (slots o.terms) ≡ b → slot_after o (holdings o es) i ≡ true
      go true e = rw (candidates-bit o es i (ltb-true i (slots o.terms) e)) (at (holder o es i) refl (holder-all o good es i g))
      go false e = rw (no_bit o es i (ltb-false i (slots o.terms) e))

  -- ---- the fallback

  fallback_good : maybe true good (fallback o ps) ≡ true
  unfolding fallback
  fallback_good = first-all (greatest o ps) good ps (prints-all good es g)

  fallback-qualifies : (p : Posting) → fallback o ps ≡ Some p → qualifies o.terms o.expiry p.print ≡ true
  unfolding fallback greatest
  fallback-qualifies p e = (both (qualified o p) _ (first_some (greatest o ps) ps p e)).0

  fallback_within_lem : fallback_within o (holdings o es) ≡ true
  unfolding candidates qualifies
  fallback_within_lem = go (fallback o ps) refl fallback_good
    where
      go : (x : Option Posting) → fallback o ps ≡ x → maybe true good x ≡ true
          → eqb (maybe 0 (λ p. p.print.price) x) 0 || every (fallback_time_tests o (maybe (pos 0) (λ p. p.print.published) x)) ≡ true
      go None e h = refl
      go (Some p) e h =
          let q = p.print in
          let (ab, c) = both (le_z (o.expiry -ℤ pos o.terms.lookback) q.published && le_z q.published o.expiry) (lt_z q.prev q.published) (fallback-qualifies p e) in
          let (a, b) = both (le_z (o.expiry -ℤ pos o.terms.lookback) q.published) (le_z q.published o.expiry) ab in
          rw (a, b, at_least_2 q.prev q.published (good_positive q h).2 c) (or_true (eqb q.price 0))

  fallback_unchanged_lem : fallback_unchanged (holdings o es) ≡ true
  unfolding candidates
  fallback_unchanged_lem = go (fallback o ps) fallback_good
    where
      go : (x : Option Posting) → maybe true good x ≡ true → not (eqb (maybe 0 (λ p. p.print.price) x) 0) || eq_z (maybe (pos 0) (λ p. p.now) x) (pos 0) ≡ true
      go None h = refl
      go (Some p) h = let l = ltb-true 0 p.print.price (good_positive p.print h).0 in rw (ne_eqb p.print.price 0 (omega arith))

  link_unchanged_lem : link_unchanged (holdings o es) ≡ true
  unfolding candidates
  link_unchanged_lem = go (chain o ps)
    where
      go : (c : Log Posting) → not (eqb (size (map (λ q. q.print.published) c)) 0) || eq_z (maybe (pos 0) (λ p. p.now) (last c)) (pos 0) ≡ true
      go ε = refl
      go (c ▹ p) = rw (ne_eqb (suc (size (map (λ q. q.print.published) c))) 0 (omega arith))

  -- ---- prices

  maybe_low : (x : Option Posting) → maybe true small x ≡ true → low_price (maybe 0 (λ p. p.print.price) x) ≡ true
  maybe_low None h = refl
  maybe_low (Some p) h = h

  slots_low : low_slots (holdings o es) ≡ true
  unfolding low_slots slot_prices
  slots_low = all<_yes slot_places (λ i. low_price (get_or (slot_prices o es) i 0)) (λ i l. rw (list_at slot_places (price_at o es) i 0 l) (go i (ltb i (slots o.terms))))
    where
      go : (i : ℕ) (b : Bool) → low_price (if b then maybe 0 (λ p. p.print.price) (holder o es i) else 0) ≡ true
      go i true = maybe_low (holder o es i) (holder-all o small es i low)
      go i false = refl

  links_low : low_links (holdings o es) ≡ true
  unfolding candidates
  links_low = all_map low_price (λ p. p.print.price) (chain o ps) (chain-all o small ps (prints-all small es low))

  fallback_low : low_fallback (holdings o es) ≡ true
  unfolding candidates fallback
  fallback_low = maybe_low (fallback o ps) (first-all (greatest o ps) small ps (prints-all small es low))

  -- ---- no candidate where the times do not fit

  none_untimely_lem : none_untimely o (holdings o es) ≡ true
  unfolding candidates fallback
  none_untimely_lem = go (times_fit o.terms o.expiry) refl
    where
      go : (b : Bool) → times_fit o.terms o.expiry ≡ b → b || every (no_slot (holdings o es) ∷ no_link (holdings o es) ∷ no_fallback (holdings o es) ∷ []) ≡ true
      go true e = refl
      go false e =
          let a = late e in
          let held : (i : ℕ) → i < slots o.terms → maybe 0 (λ p. 2 ^ i) (holder o es i) ≡ 0 = λ i l. rw (no_posting (holder o es i) (holder-all o (λ p. false) es i a)) in
          let linked : chain o ps ≡ ε = empty_log (chain o ps) (chain-all o (λ p. false) ps (prints-all (λ p. false) es a)) in
          let fell : fallback o ps ≡ None = no_posting (fallback o ps) (first-all (greatest o ps) (λ p. false) ps (prints-all (λ p. false) es a)) in
          rw (Σ<_ext (slots o.terms) (λ i. maybe 0 (λ p. 2 ^ i) (holder o es i)) (λ i. 0) held, Σ<_zero (slots o.terms), linked, fell)
        where
          empty_log : (l : Log Posting) → all (λ p. false) l ≡ true → l ≡ ε
          empty_log ε h = refl
          empty_log (l ▹ p) h = let z = (both (all (λ p. false) l) false h).1 in cc

  links-after : links_after o (holdings o es) ≡ true
  unfolding candidates
  links-after = chain-after o ps

  slots-after : slots_after o (holdings o es) ≡ true
  unfolding slots_after
  slots-after = all<_yes slot_places (slot_after o (holdings o es)) (λ i l. slot-after i)

  pub left_by_prints_lem : left_by_prints o (holdings o es) ≡ true
  unfolding left_by_prints
  left_by_prints_lem =
      rw (links-after, link_expiry_lem, slots-after, fallback_within_lem, slots_low, links_low, fallback_low, link_unchanged_lem, fallback_unchanged_lem, none_untimely_lem)

-- ---- the last test follows from the others, by the widths of the fields

-- a time above −2^38 is far enough from an i64's end
early_fits : (E : ℤ) (d : ℕ) → fits E ≡ true → dn E ≤ 2 ^ 38 → d < 2 ^ 32 → fits (E -ℤ pos d) ≡ true
early_fits E d f l h = near (E -ℤ pos d) (omega (arith, difference_law E (pos d), apart E, apart (E -ℤ pos d), below E f)) (omega (arith, difference_law E (pos d), apart E, apart (E -ℤ pos d)))
  where
    below : (z : ℤ) → fits z ≡ true → up z < 2 ^ 63
    below (pos n) h = ltb-true n (2 ^ 63) h
    below (negsuc n) h = omega arith

    near : (z : ℤ) → up z < 2 ^ 63 → dn z < 2 ^ 63 → fits z ≡ true
    near (pos n) h k = lt-ltb n (2 ^ 63) h
    near (negsuc n) h k = lt-ltb n (2 ^ 63) (omega arith)

module _ (o : Opening) (h : Holdings) (f : opening_fits o ≡ true) (b : h.candidates.bits < 2 ^ slot_places)
    (link : link_expiry o h ≡ true) (slot : slots_after o h ≡ true) (fall : fallback_within o h ≡ true) where
  field : (j : ℕ) → test (opening_fields o) j ≡ true
  unfolding opening_fits
  field j = every_at (opening_fields o) j f

  module _ (early : 2 ^ 38 < dn o.expiry) where
    link_none : no_link h ≡ true
    link_none = go (no_link h) link
      where
        go : (b : Bool) → b || le_z (pos 1) o.expiry ≡ true → b ≡ true
        go true e = refl
        go false e = absurd (omega (arith, le_yes (pos 1) o.expiry e, apart o.expiry))

    fallback_none : no_fallback h ≡ true
    fallback_none = go (no_fallback h) fall
      where
        time : ℤ
        time = h.candidates.fallback_time

        go : (b : Bool) → b || every (fallback_time_tests o time) ≡ true → b ≡ true
        go true e = refl
        go false e =
            let late = le_yes (pos 2) time (every_at (fallback_time_tests o time) 2 e) in
            absurd (omega (arith, late, le_yes time o.expiry (every_at (fallback_time_tests o time) 1 e), apart o.expiry, apart time))

    slot_none : no_slot h ≡ true
    unfolding slots_after
    slot_none = eq-eqb h.candidates.bits 0 (no_bits slot_places h.candidates.bits b (λ i l. go i l (bit i h.candidates.bits) (all<_at slot_places (slot_after o h) slot i l)))
      where
        go : (i : ℕ) → i < slot_places → (b : Bool) → not b || le_z (pos 2) (boundary o.terms o.expiry i) ≡ true → b ≡ false
        go i l false e = refl
        go i l true e =
            let E = o.expiry in
            let w = pos o.terms.window in
            let s = o.terms.slot in
            let narrow : s < 2 ^ 32 = ltb-true s (2 ^ 32) (field 1) in
            let few : i * s ≤ 31 * s = mul-le-mul_right s (omega arith) in
            absurd (omega (arith, le_yes (pos 2) (boundary o.terms E i) e, sum_law (E -ℤ w) (pos (i * s)), difference_law E w, apart E, apart (E -ℤ w), apart (boundary o.terms E i)))

  pub times_follow : none_untimely o h ≡ true
  times_follow = go (ltb (2 ^ 38) (dn o.expiry)) refl
    where
      go : (x : Bool) → ltb (2 ^ 38) (dn o.expiry) ≡ x → none_untimely o h ≡ true
      go true e = let early = ltb-true (2 ^ 38) (dn o.expiry) e in rw (slot_none early, link_none early, fallback_none early) (or_true (times_fit o.terms o.expiry))
      go false e =
          let near = ltb-false (2 ^ 38) (dn o.expiry) e in
          rw (
            early_fits o.expiry o.terms.window (field 10) near (ltb-true o.terms.window (2 ^ 32) (field 0)),
            early_fits o.expiry o.terms.lookback (field 10) near (ltb-true o.terms.lookback (2 ^ 32) (field 6)),
          )
