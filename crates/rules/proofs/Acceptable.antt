-- The ledger's state passes `restore`'s test: 11 never comes of a book that began zeroed.
use Rattle.std.specs.Prelude.{if◌then◌else◌, Option, None, Some}
use Prim.Native.Nat.{ℕ, zero, suc, ◌+◌, ◌^◌, ◌<◌, ◌≤◌}
use mathlib.Core.Path.{◌≡◌, refl, sym, ◌∙◌}
use mathlib.Core.Bool.{Bool, true, false, ◌&&◌, beq}
use mathlib.Core.List.{List, [], ◌∷◌}
use native.Mathlib.Omega.{arith}
use lib.ListN.{get_or}
use lib.IntN.{ℤ, pos}
use lib.Signed.{lt_z}
use lib.Dec.{ltb, leb, eqb}
use lib.Pow.{pow_pos}
use borrow.Author.Tests.{ltb-true, ltb-false, lt-ltb, le-ltb, le-leb, eq-eqb, ne_eqb, eqb-true, eqb-false}
use Rattle.rules.proofs.Bools.{both, beq_refl}
use Rattle.rules.proofs.Integers.{lt_true}
use Rattle.rules.proofs.Logs.{all_mono, first-all, all_map, list_at}
use Rattle.rules.proofs.Sums.{Σ<_ext, Σ<_stop, all<_yes}
use Rattle.rules.proofs.Place.{of_prints, prints-all, holder-all, few_slots, candidates-bit, no_bit, small}
use Rattle.rules.proofs.Series.{accept_facts, good_positive, taken-all, no_prints, opening_good}
use Rattle.rules.proofs.Brought.{good, times, left_by_prints_lem}
use Rattle.rules.proofs.State.{parts-back, zeros-after}
use Rattle.rules.proofs.Fields.{command_fits, event_fits, prints_small, chain-all, chain-size, bits_below, candidates_fit_lem, events_fit, freeze-fits, freeze-final}
use Rattle.rules.specs.Log.{Log, ε, ◌▹◌, is_some, maybe, size, all, first, map, Σ<, every}
use Rattle.rules.specs.Answers.{final}
use Rattle.rules.specs.Terms.{good_terms, slots}
use Rattle.rules.specs.Prints.{Print, eq_z}
use Rattle.rules.specs.Taking.{bit, links, follows}
use Rattle.rules.specs.State.{parts_of, rising, good_state}
use Rattle.rules.specs.Series.{Opening, Command, Holdings, slot_places, Series, empty, live, fixed, decided_by}
use Rattle.rules.specs.Brought.{left_by_prints}
use Rattle.rules.specs.Record.{slot_priced, good_prices, candidates_fit}
use Rattle.rules.specs.Ledger.{opening, Posting, Event, events, prints, holder, chain, fallback, greatest, candidates, price_at, slot_prices, holdings, Freeze, freeze, taken_events, since, ledger}

-- the tests of what an open and a fixed series share
abbrev pub sound_tests : Opening → Holdings → List Bool
sound_tests o h = good_terms o.terms ∷ good_state o.terms (parts_of h.candidates) ∷ good_prices h ∷ left_by_prints o h ∷ []

-- the series whose record is acceptable
abbrev pub sound : Series → Bool
sound empty = true
sound (live o h) = every (sound_tests o h)
sound (fixed r o h a at) = every (sound_tests o h) && final (decided_by r o h.candidates at)

-- ---- sums of positive numbers

eqb_add : (a b : ℕ) → eqb (a + b) 0 ≡ eqb a 0 && eqb b 0
eqb_add a b = go (eqb a 0) (eqb b 0) refl refl
  where
    go : (x y : Bool) → eqb a 0 ≡ x → eqb b 0 ≡ y → eqb (a + b) 0 ≡ x && y
    go true true p q = let p = eqb-true a 0 p in let q = eqb-true b 0 q in eq-eqb (a + b) 0 (omega arith)
    go true false p q = let q = eqb-false b 0 q in ne_eqb (a + b) 0 (omega arith)
    go false y p q = let p = eqb-false a 0 p in ne_eqb (a + b) 0 (omega arith)

zero_together : (n : ℕ) (f g : ℕ → ℕ) → ((i : ℕ) → eqb (f i) 0 ≡ eqb (g i) 0) → eqb (Σ< n f) 0 ≡ eqb (Σ< n g) 0
zero_together zero f g h = refl
zero_together (suc n) f g h = rw (eqb_add (Σ< n f) (f n), eqb_add (Σ< n g) (g n), zero_together n f g h, h n)

-- ---- the chain

module _ (o : Opening) where
  pub rises_more : (ts : Log ℤ) (p : Print) → rising ts ≡ true → follows o.terms o.expiry ts p ≡ true → rising (ts ▹ p.published) ≡ true
  rises_more ε p r f = refl
  rises_more (ts ▹ t) p r f = rw (r, (both (eq_z p.prev t) (lt_z t p.published) f).1)

  chain-rising : (ps : Log Posting) → rising (times o ps) ≡ true
  unfolding chain links
  chain-rising ε = refl
  chain-rising (ps ▹ p) = go (links o.terms o.expiry (times o ps) p.print) refl (chain-rising ps)
    where
      go : (b : Bool) → links o.terms o.expiry (times o ps) p.print ≡ b → rising (times o ps) ≡ true
          → rising (map (λ q. q.print.published) (if b then chain o ps ▹ p else chain o ps)) ≡ true
      go true l r = rises_more (times o ps) p.print r (both (ltb (size (times o ps)) o.terms.k) (follows o.terms o.expiry (times o ps) p.print) l).1
      go false l r = r

module _ (o : Opening) (es : Log Event) (h : all (of_prints good) es ≡ true) where
  abbrev ps : Log Posting
  ps = prints es

  sum_with_bits : eqb (candidates o es).bits 0 ≡ eqb (candidates o es).sum 0
  unfolding candidates
  sum_with_bits = zero_together (slots o.terms) _ _ (λ i. go i (holder o es i) (holder-all o good es i h))
    where
      go : (i : ℕ) (x : Option Posting) → maybe true good x ≡ true → eqb (maybe 0 (λ p. 2 ^ i) x) 0 ≡ eqb (maybe 0 (λ p. p.print.price) x) 0
      go i None e = refl
      go i (Some p) e =
          let q = ltb-true 0 p.print.price (good_positive p.print e).0 in
          let w = pow_pos i in
          rw (ne_eqb (2 ^ i) 0 (omega arith), ne_eqb p.print.price 0 (omega arith))

  fallback_both : eq_z (candidates o es).fallback_time (pos 0) ≡ eqb (candidates o es).fallback_price 0
  unfolding candidates fallback
  fallback_both = go (first (greatest o ps) ps) (first-all (greatest o ps) good ps (prints-all good es h))
    where
      go : (f : Option Posting) → maybe true good f ≡ true → eq_z (maybe (pos 0) (λ p. p.print.published) f) (pos 0) ≡ eqb (maybe 0 (λ p. p.print.price) f) 0
      go None e = refl
      go (Some p) e =
          let (q, l, _) = good_positive p.print e in
          let q = ltb-true 0 p.print.price q in
          rw (lt_true (pos 0) p.print.published l, ne_eqb p.print.price 0 (omega arith))

  short : leb (size (candidates o es).times) o.terms.k ≡ true
  unfolding candidates
  short = le-leb _ _ (chain-size o ps)

  rises : rising (candidates o es).times ≡ true
  unfolding candidates
  rises = chain-rising o ps

  positive : all (λ price. ltb 0 price) (candidates o es).prices ≡ true
  unfolding candidates
  positive =
      all_map (λ price. ltb 0 price) (λ p. p.print.price) (chain o ps)
      (all_mono good (λ p. ltb 0 p.print.price) (λ p g. (good_positive p.print g).0) (chain o ps) (chain-all o good ps (prints-all good es h)))

  pub candidates_good : candidates_fit (candidates o es) ≡ true → good_state o.terms (parts_of (candidates o es)) ≡ true
  unfolding good_state parts_of
  candidates_good f =
      rw (
        parts-back (candidates o es) f,
        zeros-after (candidates o es) f 0 (omega arith),
        zeros-after (candidates o es) f 1 (omega arith),
        zeros-after (candidates o es) f 2 (omega arith),
        zeros-after (candidates o es) f 3 (omega arith),
        zeros-after (candidates o es) f 4 (omega arith),
        lt-ltb _ _ (bits_below o es),
        sum_with_bits,
        beq_refl (eqb (candidates o es).sum 0),
        short,
        rises,
        positive,
        fallback_both,
        beq_refl (eqb (candidates o es).fallback_price 0),
      )

  -- ---- the slot prices

  module _ (few : slots o.terms ≤ slot_places) where
    price_at_lem : (i : ℕ) → i < slot_places → get_or (slot_prices o es) i 0 ≡ price_at o es i
    unfolding slot_prices
    price_at_lem i l = list_at slot_places (price_at o es) i 0 l

    total_is : (candidates o es).sum ≡ Σ< slot_places (λ i. get_or (slot_prices o es) i 0)
    unfolding candidates
    total_is =
        sym (Σ<_ext slot_places _ _ price_at_lem
        ∙ Σ<_stop (slots o.terms) slot_places (price_at o es) few (λ i l. rw (le-ltb i (slots o.terms) l))
        ∙ Σ<_ext (slots o.terms) _ _ (λ i l. rw (lt-ltb i (slots o.terms) l)))

    slot-priced : (i : ℕ) → i < slot_places → slot_priced (holdings o es) i ≡ true
    slot-priced i l = rw (price_at_lem i l) (go (ltb i (slots o.terms)) refl)
      where
        priced : (x : Option Posting) → maybe true good x ≡ true → beq (is_some x) (ltb 0 (maybe 0 (λ p. p.print.price) x)) ≡ true
        priced None e = refl
        priced (Some p) e = rw (good_positive p.print e).0

        go : (b : Bool) → ltb i (slots o.terms) ≡ b
            → beq (bit i (candidates o es).bits) (ltb 0 (if b then maybe 0 (λ p. p.print.price) (holder o es i) else 0)) ≡ true
        go true e = rw (candidates-bit o es i (ltb-true i (slots o.terms) e)) (priced (holder o es i) (holder-all o good es i h))
        go false e = rw (no_bit o es i (ltb-false i (slots o.terms) e))

    pub prices_good : good_prices (holdings o es) ≡ true
    unfolding good_prices
    prices_good = rw (eq-eqb _ _ total_is) (all<_yes slot_places (slot_priced (holdings o es)) slot-priced)

-- ---- the ledger

events_good : (j : Log Command) → all (of_prints good) (events j) ≡ true
events_good j = taken-all (of_prints good) (λ c. true) (λ o q now p f e. (accept_facts o.terms.exponent o.bps q p e).0) (λ now i f. refl) j (yes_all j)
  where
    yes_all : (j : Log Command) → all (λ c. true) j ≡ true
    yes_all ε = refl
    yes_all (j ▹ c) = rw (yes_all j)

pub ledger_sound : (j : Log Command) → all command_fits j ≡ true → sound (ledger j) ≡ true
unfolding ledger taken_events
ledger_sound j h = go (opening j) (freeze j) refl refl
  where
    left : (o : Opening) (j : Log Command) → opening j ≡ Some o → all event_fits (events j) ≡ true → left_by_prints o (holdings o (events j)) ≡ true
    left o j e f =
        left_by_prints_lem o (events j) (events_good j) (all_mono event_fits (of_prints small) prints_small (events j) f) (no_prints j o e)

    go : (o : Option Opening) (z : Option Freeze) → opening j ≡ o → freeze j ≡ z
        → sound (maybe empty (λ q. since q (holdings q (maybe (events j) (λ y. events y.ahead) z)) z) o) ≡ true
    go None z e f = refl
    go (Some o) None e f =
        let g = opening_good j o e in
        let c = candidates_fit_lem o (events j) g (events_fit j h) in
        rw (g, candidates_good o (events j) (events_good j) c, prices_good o (events j) (events_good j) (few_slots o g), left o j e (events_fit j h))
    go (Some o) (Some z) e f =
        let (a, n) = freeze-fits z j h f in
        let g = opening_good j o e in
        let es = events z.ahead in
        let c = candidates_fit_lem o es g (events_fit z.ahead a) in
        rw (g, candidates_good o es (events_good z.ahead) c, prices_good o es (events_good z.ahead) (few_slots o g), left o z.ahead (freeze-final z j o f e).0 (events_fit z.ahead a), (freeze-final z j o f e).1)
