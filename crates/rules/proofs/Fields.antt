-- Every number of the ledger's record fits its field.
use Rattle.std.specs.Prelude.{if◌then◌else◌, Option, None, Some}
use Prim.Native.Nat.{ℕ, ◌*◌, ◌/◌, ◌%◌, ◌^◌, ◌<◌, ◌≤◌}
use mathlib.Core.Path.{◌≡◌, refl, sym, ap, ◌∙◌}
use mathlib.Core.Bool.{Bool, true, false, not, ◌||◌}
use mathlib.Core.List.{List, [], ◌∷◌}
use lib.ListN.{get_or}
use native.Mathlib.Omega.{arith}
use native.Mathlib.Nat.{lt_of_le_of_lt, lt_of_lt_of_le}
use lib.IntN.{ℤ, pos}
use lib.Dec.{ltb, leb, eqb, lit<}
use lib.Pow.{pow_mono}
use borrow.Author.Tests.{ltb-true, lt-ltb, leb-false, le-leb, eq-eqb}
use Rattle.rules.proofs.Bools.{both, every_at}
use Rattle.rules.proofs.Integers.{tests}
use Rattle.rules.proofs.Logs.{all_mono, first-all, last-all, last_at_all, size-map, all_map, list_at}
use Rattle.rules.proofs.Sums.{Σ<_ext, Σ<_le, all<_yes, below}
use Rattle.rules.proofs.Place.{held, held_small, held_pow, few_slots, few_links, of_prints, prints-all, holder-all, small, sum_low}
use Rattle.rules.proofs.Series.{accept_facts, accept_small, taken-all, opening_good, no_freeze}
use Rattle.rules.proofs.Decision.{decide_each}
use Rattle.rules.proofs.State.{few_times}
use Rattle.rules.specs.Log.{Log, ε, ◌▹◌, ◌or_else◌, maybe, size, total, all, last, last_at, map, every, list_from}
use Rattle.rules.specs.Bytes.{fits_unsigned, fits}
use Rattle.rules.specs.Answers.{Result, ok, refused, Method, number, final}
use Rattle.rules.specs.Terms.{good_terms, slots, good_exponent}
use Rattle.rules.specs.Prints.{Print, Quote, accept}
use Rattle.rules.specs.Mean.{rounded, numerator, denominator, mean}
use Rattle.rules.specs.Taking.{Candidates, links, follows}
use Rattle.rules.specs.Decision.{Order, ones, settle_at, settle}
use Rattle.rules.specs.Series.{Opening, Command, Open, Offer, Ask, Fix, Withdraw, slot_places, empty, decided_by, decided}
use Rattle.rules.specs.Record.{opening_fits, candidates_fit, prices_fit, outcome_fits, series_fits}
use Rattle.rules.specs.Ledger.{good_open, opening, Posting, Event, posted, withdrawal, event_now, events, prints, holder, chain, fallback, greatest, moves_window, candidates, price_at, slot_prices, holdings, Freeze, decided_on, freezes, freeze, taken_events, since, ledger}

-- ---- prints and commands in range

abbrev pub command_fits : Command → Bool
command_fits (Open o) = opening_fits o
command_fits (Offer q now) = every (fits q.price ∷ fits q.published ∷ fits now ∷ [])
command_fits (Ask now) = fits now
command_fits (Fix now) = fits now
command_fits (Withdraw now i) = fits now

abbrev pub posting_tests : Posting → List Bool
posting_tests p = small p ∷ fits p.print.published ∷ fits p.now ∷ []

abbrev pub posting_fits : Posting → Bool
posting_fits p = every (posting_tests p)

abbrev pub event_fits : Event → Bool
event_fits (posted p) = posting_fits p
event_fits (withdrawal now i) = fits now

event_now_lem : (e : Event) → event_fits e ≡ true → fits (event_now e) ≡ true
event_now_lem (posted p) h = every_at (posting_tests p) 2 h
event_now_lem (withdrawal now i) h = h

maybe_event : (x : Option Event) → maybe true event_fits x ≡ true → fits (maybe (pos 0) event_now x) ≡ true
maybe_event None h = refl
maybe_event (Some e) h = event_now_lem e h

event_prints : (e : Event) → event_fits e ≡ true → of_prints posting_fits e ≡ true
event_prints (posted p) h = h
event_prints (withdrawal now i) h = refl

pub prints_small : (e : Event) → event_fits e ≡ true → of_prints small e ≡ true
prints_small (posted p) h = every_at (posting_tests p) 0 h
prints_small (withdrawal now i) h = refl

posting-price : (p : Posting) → posting_fits p ≡ true → fits_unsigned 8 p.print.price ≡ true
posting-price p h = lt-ltb p.print.price (2 ^ 64) (lt_of_lt_of_le (ltb-true p.print.price (2 ^ 63) (every_at (posting_tests p) 0 h)) (omega arith))

maybe-published : (x : Option Posting) → maybe true posting_fits x ≡ true → fits (maybe (pos 0) (λ p. p.print.published) x) ≡ true
maybe-published None h = refl
maybe-published (Some p) h = every_at (posting_tests p) 1 h

maybe-now : (x : Option Posting) → maybe true posting_fits x ≡ true → fits (maybe (pos 0) (λ p. p.now) x) ≡ true
maybe-now None h = refl
maybe-now (Some p) h = every_at (posting_tests p) 2 h

maybe-price : (x : Option Posting) → maybe true posting_fits x ≡ true → fits_unsigned 8 (maybe 0 (λ p. p.print.price) x) ≡ true
maybe-price None h = refl
maybe-price (Some p) h = posting-price p h

-- ---- the chain

module _ (o : Opening) where
  abbrev linked : Log Posting → Posting → Bool
  linked ps p = links o.terms o.expiry (map (λ q. q.print.published) (chain o ps)) p.print

  pub chain-all : (Q : Posting → Bool) (ps : Log Posting) → all Q ps ≡ true → all Q (chain o ps) ≡ true
  unfolding chain
  chain-all Q ε h = refl
  chain-all Q (ps ▹ p) h = let (a, b) = both (all Q ps) (Q p) h in go (linked ps p) (chain-all Q ps a) b
    where
      go : (t : Bool) → all Q (chain o ps) ≡ true → Q p ≡ true → all Q (if t then chain o ps ▹ p else chain o ps) ≡ true
      go true r b = rw (r, b)
      go false r b = r

  pub chain-size : (ps : Log Posting) → size (map (λ p. p.print.published) (chain o ps)) ≤ o.terms.k
  unfolding chain links
  chain-size ε = omega arith
  chain-size (ps ▹ p) = go (linked ps p) refl (chain-size ps)
    where
      ts : Log ℤ
      ts = map (λ q. q.print.published) (chain o ps)

      go : (b : Bool) → linked ps p ≡ b → size ts ≤ o.terms.k
          → size (map (λ q. q.print.published) (if b then chain o ps ▹ p else chain o ps)) ≤ o.terms.k
      go true l r = ltb-true _ _ (both (ltb (size ts) o.terms.k) (follows o.terms o.expiry ts p.print) l).0
      go false l r = r

pub bits_below : (o : Opening) (es : Log Event) → (candidates o es).bits < 2 ^ slots o.terms
unfolding candidates
bits_below o es =
    rw (Σ<_ext (slots o.terms) (λ i. maybe 0 (λ p. 2 ^ i) (holder o es i)) (λ i. held (holder o es i) * 2 ^ i) (λ i _. held_pow (holder o es i) i))
    (below (λ i. held (holder o es i)) (λ i. held_small (holder o es i)) (slots o.terms))

-- ---- the ledger's candidates

module _ (o : Opening) (es : Log Event) (g : good_terms o.terms ≡ true) (h : all event_fits es ≡ true) where
  prints_fit : all posting_fits (prints es) ≡ true
  prints_fit = prints-all posting_fits es (all_mono event_fits (of_prints posting_fits) event_prints es h)

  holder-fits : (i : ℕ) → maybe true posting_fits (holder o es i) ≡ true
  holder-fits i = holder-all o posting_fits es i (all_mono event_fits (of_prints posting_fits) event_prints es h)

  chain_fits : all posting_fits (chain o (prints es)) ≡ true
  chain_fits = chain-all o posting_fits (prints es) prints_fit

  fallback-fits : maybe true posting_fits (fallback o (prints es)) ≡ true
  unfolding fallback
  fallback-fits = first-all (greatest o (prints es)) posting_fits (prints es) prints_fit

  bits_fit : fits_unsigned 4 (candidates o es).bits ≡ true
  bits_fit = lt-ltb _ _ (lt_of_lt_of_le (bits_below o es) (pow_mono (few_slots o g)))

  sum_fit : fits_unsigned 16 (candidates o es).sum ≡ true
  sum_fit = lt-ltb _ _ (lt_of_le_of_lt (sum_low o es g (all_mono event_fits (of_prints small) prints_small es h)) (lit< tt))

  links_few : leb (size (map (λ p. p.print.published) (chain o (prints es)))) 5 ≡ true
  links_few = le-leb (size (map (λ p. p.print.published) (chain o (prints es)))) 5 (omega (arith, chain-size o (prints es), few_links o g))

  same-links : eqb (size (map (λ p. p.print.price) (chain o (prints es)))) (size (map (λ p. p.print.published) (chain o (prints es)))) ≡ true
  same-links = eq-eqb _ _ (size-map (λ p. p.print.price) (chain o (prints es)) ∙ sym (size-map (λ p. p.print.published) (chain o (prints es))))

  pub candidates_fit_lem : candidates_fit (candidates o es) ≡ true
  unfolding candidates_fit candidates
  candidates_fit_lem =
      rw (
        bits_fit,
        sum_fit,
        links_few,
        same-links,
        all_map fits (λ p. p.print.published) (chain o (prints es)) (all_mono posting_fits (λ p. fits p.print.published) (λ p f. every_at (posting_tests p) 1 f) (chain o (prints es)) chain_fits),
        all_map (fits_unsigned 8) (λ p. p.print.price) (chain o (prints es)) (all_mono posting_fits (λ p. fits_unsigned 8 p.print.price) posting-price (chain o (prints es)) chain_fits),
        maybe-published (fallback o (prints es)) fallback-fits,
        maybe-price (fallback o (prints es)) fallback-fits,
        maybe_event (last_at (moves_window o) es) (last_at_all event_fits (moves_window o) es h),
        maybe-now (last (chain o (prints es))) (last-all posting_fits (chain o (prints es)) chain_fits),
        maybe-now (fallback o (prints es)) fallback-fits,
      )

  price-fits : (i : ℕ) → fits_unsigned 8 (price_at o es i) ≡ true
  price-fits i = go (ltb i (slots o.terms))
    where
      go : (b : Bool) → fits_unsigned 8 (if b then maybe 0 (λ p. p.print.price) (holder o es i) else 0) ≡ true
      go true = maybe-price (holder o es i) (holder-fits i)
      go false = refl

  pub prices_fit_lem : prices_fit (slot_prices o es) ≡ true
  unfolding prices_fit slot_prices
  prices_fit_lem =
      rw (all<_yes slot_places (λ i. fits_unsigned 8 (get_or (list_from 0 slot_places (price_at o es)) i 0))
      (λ i l. rw (list_at slot_places (price_at o es) i 0 l) (price-fits i)))

-- ---- samples and the price

mean-fits : (s n : ℕ) (e : ℤ) (p : ℕ) → mean s n e ≡ ok p → fits_unsigned 8 p ≡ true
unfolding mean
mean-fits s n e p h = go (good_exponent e) (eqb n 0) (leb (2 ^ 64) a) refl h
  where
    a : ℕ
    a = rounded (numerator s e) (denominator n e)

    go : (x y z : Bool) → leb (2 ^ 64) a ≡ z → (if not x then refused 12 else if y || z then refused 0 else ok a) ≡ ok p → fits_unsigned 8 p ≡ true
    go true false false q h = let m : a ≡ p = cc in lt-ltb p (2 ^ 64) (omega (tests, leb-false (2 ^ 64) a q, m))
    go true false true q h = cc
    go true true z q h = cc
    go false y z q h = cc

few_ones : (n : ℕ) → ones n ≤ 32
unfolding ones
few_ones n = Σ<_le 32 1 (λ i. n / 2 ^ i % 2) (λ i _. digit (n / 2 ^ i))
  where
    digit : (q : ℕ) → q % 2 ≤ 1
    digit q = omega arith

pub outcome_fits_lem : (r : Order) (o : Opening) (c : Candidates) → candidates_fit c ≡ true → (t : ℤ) → final (decided_by r o c t) ≡ true → outcome_fits (decided_by r o c t) ≡ true
outcome_fits_lem r o c f t =
    decide_each (λ a. final a ≡ true → outcome_fits a ≡ true) o.terms o.expiry c t r (λ _ h. h) (λ h. h) (λ _. refl)
    (by Method.Window c.sum _ refl slots_few) (by Method.NextPrint (total c.prices) _ refl links_few) (by Method.PartialNextPrint (total c.prices) _ refl links_few)
    (by Method.PartialWindow c.sum _ refl slots_few) (λ _. by Method.Fallback c.fallback_price 1 refl (omega arith))
  where
    slots_few : ones c.bits < 2 ^ 16
    slots_few = omega (arith, few_ones c.bits)

    links_few : size c.times < 2 ^ 16
    links_few = omega (arith, few_times c f)

    by : (m : Method) (s n : ℕ) → ltb (number m) (number Method.Void) ≡ true → n < 2 ^ 16 → final (settle o.terms.exponent m s n) ≡ true → outcome_fits (settle o.terms.exponent m s n) ≡ true
    by m s n priced few = go (mean s n o.terms.exponent) refl
      where
        go : (r : Result ℕ) → mean s n o.terms.exponent ≡ r → final (settle_at m n r) ≡ true → outcome_fits (settle_at m n r) ≡ true
        go (ok p) e h = rw (priced, mean-fits s n o.terms.exponent p e, lt-ltb n (2 ^ 16) few)
        go (refused r) e h = h

-- ---- the ledger

pub events_fit : (j : Log Command) → all command_fits j ≡ true → all event_fits (events j) ≡ true
events_fit j h = taken-all event_fits command_fits posting (λ now i f. f) j h
  where
    posting : (o : Opening) (q : Quote) (now : ℤ) (p : Print) → command_fits (Offer q now) ≡ true → accept o.terms.exponent o.bps q ≡ ok p
        → posting_fits (record { print = p; now = now }) ≡ true
    posting o q now p f e =
        let tests : List Bool = fits q.price ∷ fits q.published ∷ fits now ∷ [] in
        let (_, m) = accept_facts o.terms.exponent o.bps q p e in
        let s = accept_small o.terms.exponent o.bps q p (every_at tests 0 f) e in
        let w : fits p.published ≡ true = ap (λ (x : Print). fits x.published) (sym m) ∙ every_at tests 1 f in
        rw (s, w, every_at tests 2 f)

pub opening-fits : (j : Log Command) (o : Opening) → all command_fits j ≡ true → opening j ≡ Some o → opening_fits o ≡ true
unfolding opening
opening-fits ε o h e = cc
opening-fits (j ▹ c) o h e =
    let (a, b) = both (all command_fits j) (command_fits c) h in
    go (opening j) c refl b e (opening-fits j o a)
  where
    go : (x : Option Opening) (c : Command) → opening j ≡ x → command_fits c ≡ true → x or_else good_open c ≡ Some o
        → (opening j ≡ Some o → opening_fits o ≡ true) → opening_fits o ≡ true
    go (Some x) c d b e r = r (d ∙ e)
    go None (Open x) d b e r = at (good_terms x.terms) e
      where
        at : (t : Bool) → (if t then Some x else None) ≡ Some o → opening_fits o ≡ true
        at true e = let y : x ≡ o = cc in rw (← y) b
        at false e = cc
    go None (Offer q now) d b e r = cc
    go None (Ask now) d b e r = cc
    go None (Fix now) d b e r = cc
    go None (Withdraw now i) d b e r = cc

-- what the freeze is: a fix with commands in range ahead of it, the opening among them, and a final decision
module _ (z : Freeze) where
  pub freeze-fits : (j : Log Command) → all command_fits j ≡ true → freeze j ≡ Some z → (all command_fits z.ahead ≡ true) × (fits z.now ≡ true)
  unfolding freeze
  freeze-fits ε h e = (cc, cc)
  freeze-fits (j ▹ c) h e =
      let (a, b) = both (all command_fits j) (command_fits c) h in
      go (freeze j) c refl a b e (freeze-fits j a)
    where
      goal : Type 0
      goal = (all command_fits z.ahead ≡ true) × (fits z.now ≡ true)

      go : (x : Option Freeze) (c : Command) → freeze j ≡ x → all command_fits j ≡ true → command_fits c ≡ true → x or_else freezes j c ≡ Some z → (freeze j ≡ Some z → goal) → goal
      go (Some x) c d a b e r = r (d ∙ e)
      go None (Open x) d a b e r = (cc, cc)
      go None (Offer q now) d a b e r = (cc, cc)
      go None (Ask now) d a b e r = (cc, cc)
      go None (Withdraw now i) d a b e r = (cc, cc)
      go None (Fix now) d a b e r = at (final (decided_on (opening j) (events j) now)) e
        where
          at : (t : Bool) → (if t then Some (record { ahead = j; now = now }) else None) ≡ Some z → goal
          at true e = let y : ◌≡◌ {A = Freeze} (record { ahead = j; now = now }) z = cc in (rw (← y) a, rw (← y) b)
          at false e = (cc, cc)

  pub freeze-final : (j : Log Command) (o : Opening) → freeze j ≡ Some z → opening j ≡ Some o
      → (opening z.ahead ≡ Some o) × (final (decided o (candidates o (events z.ahead)) z.now) ≡ true)
  unfolding freeze opening
  freeze-final ε o f e = (cc, cc)
  freeze-final (j ▹ c) o f e = go (opening j) (freeze j) c refl refl e f (freeze-final j o)
    where
      goal : Type 0
      goal = (opening z.ahead ≡ Some o) × (final (decided o (candidates o (events z.ahead)) z.now) ≡ true)

      go : (a : Option Opening) (y : Option Freeze) (c : Command) → opening j ≡ a → freeze j ≡ y → a or_else good_open c ≡ Some o → y or_else freezes j c ≡ Some z
          → (freeze j ≡ Some z → opening j ≡ Some o → goal) → goal
      go None (Some y) c d g e f r = let h = no_freeze j d in (cc, cc)
      go None None (Open q) d g e f r = (cc, cc)
      go None None (Offer q now) d g e f r = (cc, cc)
      go None None (Ask now) d g e f r = (cc, cc)
      go None None (Withdraw now i) d g e f r = (cc, cc)
      go None None (Fix now) d g e f r = let h = rw d at f in (cc, cc)
      go (Some x) (Some y) c d g e f r = r (g ∙ f) (d ∙ e)
      go (Some x) None (Open q) d g e f r = (cc, cc)
      go (Some x) None (Offer q now) d g e f r = (cc, cc)
      go (Some x) None (Ask now) d g e f r = (cc, cc)
      go (Some x) None (Withdraw now i) d g e f r = (cc, cc)
      go (Some x) None (Fix now) d g e f r = at (final (decided x (candidates x (events j)) now)) refl (rw d at f)
        where
          at : (b : Bool) → final (decided x (candidates x (events j)) now) ≡ b → (if b then Some (record { ahead = j; now = now }) else None) ≡ Some z → goal
          at true h f =
              let p : ◌≡◌ {A = Freeze} (record { ahead = j; now = now }) z = cc in
              let q : x ≡ o = cc in
              (rw (← p, ← q) d, rw (← p, ← q) h)
          at false h f = (cc, cc)

pub ledger-fits : (j : Log Command) → all command_fits j ≡ true → series_fits (ledger j) ≡ true
unfolding ledger taken_events
ledger-fits j h = go (opening j) (freeze j) refl refl
  where
    go : (o : Option Opening) (z : Option Freeze) → opening j ≡ o → freeze j ≡ z
        → series_fits (maybe empty (λ q. since q (holdings q (maybe (events j) (λ y. events y.ahead) z)) z) o) ≡ true
    go None z e f = refl
    go (Some o) None e f =
        rw (opening-fits j o h e, candidates_fit_lem o (events j) (opening_good j o e) (events_fit j h), prices_fit_lem o (events j) (opening_good j o e) (events_fit j h))
    go (Some o) (Some z) e f =
        let (a, n) = freeze-fits z j h f in
        let es = events z.ahead in
        rw (
          opening-fits j o h e,
          candidates_fit_lem o es (opening_good j o e) (events_fit z.ahead a),
          prices_fit_lem o es (opening_good j o e) (events_fit z.ahead a),
          outcome_fits_lem Order.voted o (candidates o es) (candidates_fit_lem o es (opening_good j o e) (events_fit z.ahead a)) z.now (freeze-final z j o f e).1,
          n,
        )
