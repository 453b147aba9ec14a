-- Two series that were posted the same prints of one feed hold the same slots and the same fallback, in whatever order the prints came.
use Rattle.std.specs.Prelude.{if◌then◌else◌, Option, None, Some}
use Prim.Native.Nat.{ℕ, ◌^◌, ◌<◌}
use mathlib.Core.Path.{◌≡◌, refl, sym, ap, ap₂, ◌∙◌}
use mathlib.Core.Bool.{Bool, true, false, not, ◌&&◌, ◌||◌}
use native.Mathlib.Omega.{arith}
use lib.IntN.{ℤ, pos, ◌+ℤ◌, ◌-ℤ◌}
use lib.Signed.{lt_z, le_z}
use lib.Dec.{ltb}
use borrow.Author.Tests.{ltb-true}
use Rattle.rules.proofs.Bools.{both, every_at, not_both}
use Rattle.rules.proofs.Integers.{sum_law, lt_yes, le_yes, yes_lt, yes_le, le_refl, both_le}
use Rattle.rules.proofs.Sums.{Σ<_ext}
use Rattle.rules.proofs.Logs.{all_among, first_some, none_first, list_ext, size-map, map_same}
use Rattle.rules.proofs.Fallback.{bound, no_fallback_lem}
use Rattle.rules.proofs.Series.{accept_facts, opening_good, ledger-live, in_range}
use Rattle.rules.proofs.Outcome.{outcome, answer_beside}
use Rattle.rules.proofs.Prices.{fair_is, answers_fair}
use Rattle.rules.proofs.Feed.{Over, one_over}
use Rattle.rules.proofs.Posted.{unfrozen, unfreed, Source, slot_source, fallback_source, chain_source, Taken, offer_taken}
use Rattle.rules.specs.Log.{Log, ε, ◌▹◌, Among, here, ahead, maybe, size, all, map, total}
use Rattle.rules.specs.Answers.{ok, Method, Settle}
use Rattle.rules.specs.Terms.{slots, good_terms}
use Rattle.rules.specs.Prints.{Print, Quote, eq_z, accept}
use Rattle.rules.specs.Mean.{mean}
use Rattle.rules.specs.Taking.{boundary, canonical_tests, canonical, follows, links, qualifies}
use Rattle.rules.specs.Series.{Opening, Command, Holdings, slot_places, Series, live, answer}
use Rattle.rules.specs.Ledger.{opening, Posting, events, prints, first_for, holder, chain, qualified, fallback, candidates, price_at, slot_prices, holdings, taken_events, ledger, prices_for, FairSettle}
use Rattle.rules.specs.Feed.{is_feed, offers, used, Posted, SameOffers, without_arrival, by_chain, beside_chain}

module _ (feed : Log Quote) (f : is_feed feed ≡ true) (o : Opening) where
  abbrev ps : Log Command → Log Posting
  ps j = prints (events j)

  abbrev is_for : ℕ → Posting → Bool
  is_for i p = canonical o.terms o.expiry i p.print

  abbrev over : ℤ → Print → Type 0
  over b p = Over b p.prev p.published

  -- ---- what is found in a log

  slot_over : (l : Log Posting) (i : ℕ) (p : Posting) → first_for o i l ≡ Some p → over (boundary o.terms o.expiry i) p.print
  unfolding canonical
  slot_over l i p e =
      let tests = canonical_tests o.terms o.expiry i p.print in
      let t = first_some (is_for i) l p e in
      (every_at tests 3 t, every_at tests 0 t)

  also_qualified : (p r : Posting) → r.print ≡ p.print → qualified o p ≡ true → qualified o r ≡ true
  also_qualified p r same q = ap (qualifies o.terms o.expiry) same ∙ q

  fallback_over : (l : Log Posting) (p : Posting) → fallback o l ≡ Some p → over p.print.published p.print
  unfolding qualifies
  fallback_over l p e =
      let x = p.print in
      ((both (le_z (o.expiry -ℤ pos o.terms.lookback) x.published && le_z x.published o.expiry) (lt_z x.prev x.published) (bound o l p e).0).1, le_refl x.published)

  -- each link follows those ahead of it
  abbrev Walked : Log Posting → Type 0
  Walked ε = Unit
  Walked (l ▹ p) = Walked l × (links o.terms o.expiry (map (λ q. q.print.published) l) p.print ≡ true)

  chain_walked : (l : Log Posting) → Walked (chain o l)
  unfolding chain
  chain_walked ε = tt
  chain_walked (l ▹ p) = go (links o.terms o.expiry (map (λ q. q.print.published) (chain o l)) p.print) refl (chain_walked l)
    where
      go : (b : Bool) → links o.terms o.expiry (map (λ q. q.print.published) (chain o l)) p.print ≡ b → Walked (chain o l) → Walked (if b then chain o l ▹ p else chain o l)
      go true e w = (w, e)
      go false e w = w

  -- where the next link begins, at the latest
  end : Log ℤ → ℤ
  end ε = o.expiry
  end (ts ▹ t) = t

  link_over : (ts : Log ℤ) (p : Print) → links o.terms o.expiry ts p ≡ true → over (end ts +ℤ pos 1) p
  unfolding links end
  link_over ts p e = go ts (both (ltb (size ts) o.terms.k) (follows o.terms o.expiry ts p) e).1
    where
      next : (t : ℤ) → le_z p.prev t ≡ true → lt_z t p.published ≡ true → over (t +ℤ pos 1) p
      next t l m =
          (yes_lt p.prev (t +ℤ pos 1) (omega (arith, le_yes p.prev t l, sum_law t (pos 1))), yes_le (t +ℤ pos 1) p.published (omega (arith, lt_yes t p.published m, sum_law t (pos 1))))

      go : (ts : Log ℤ) → follows o.terms o.expiry ts p ≡ true → over (end ts +ℤ pos 1) p
      go ε f = let (l, m) = both (le_z p.prev o.expiry) (lt_z o.expiry p.published) f in next o.expiry l m
      go (ts ▹ t) f =
          let (l, m) = both (eq_z p.prev t) (lt_z t p.published) f in
          next t (both (le_z p.prev t) (le_z t p.prev) l).0 m

  -- ---- what is found in one list, and what was taken of the other

  -- both come of the one quote over b
  same-print : (j k : Log Command) → Posted feed o j → Posted feed o k → (b : ℤ) (p r : Posting) → Source o j p → Source o k r → over b p.print → over b r.print → p.print ≡ r.print
  same-print j k a c b p r (q, u, e, _) (x, v, d, _) op or =
      let (_, mq) = accept_facts o.terms.exponent o.bps q p.print e in
      let (_, mx) = accept_facts o.terms.exponent o.bps x r.print d in
      let one : q ≡ x = one_over b feed q x f (a.of_feed q u) (c.of_feed x v) (rw (← mq) at op) (rw (← mx) at or) in
      let same : ok p.print ≡ ok r.print = sym e ∙ ap (accept o.terms.exponent o.bps) one ∙ d in
      cc

  module _ (j k : Log Command) (opened : opening k ≡ Some o) (there : (q : Quote) → Among q (used j) → Among q (offers k)) where
    also : (p : Posting) → Source o j p → Taken k p.print
    also p (q, u, e, t) = offer_taken o q p.print e t k opened (there q u)

    -- ---- a slot

    slot_also : (i : ℕ) (p : Posting) → Source o j p → first_for o i (ps j) ≡ Some p → first_for o i (ps k) ≡ None → ⊥
    slot_also i p s e n =
        let (r, m, same) = also p s in
        let is : is_for i r ≡ true = ap (canonical o.terms o.expiry i) same ∙ first_some (is_for i) (ps j) p e in
        not_both (all_among (λ q. not (is_for i q)) (ps k) r m (none_first (is_for i) (ps k) n)) (rw is)

    -- ---- the fallback

    fallback_also : (p : Posting) → Source o j p → fallback o (ps j) ≡ Some p → fallback o (ps k) ≡ None → ⊥
    fallback_also p s e n =
        let (r, m, same) = also p s in
        let is = also_qualified p r same (bound o (ps j) p e).0 in
        not_both (all_among (λ q. not (qualified o q)) (ps k) r m (no_fallback_lem o (ps k) n)) (rw is)

    -- it is no later than the other's
    no_later : (p r : Posting) → Source o j p → fallback o (ps j) ≡ Some p → fallback o (ps k) ≡ Some r → le_z p.print.published r.print.published ≡ true
    no_later p r s e d =
        let (x, m, same) = also p s in
        let is = also_qualified p x same (bound o (ps j) p e).0 in
        let top = all_among (λ q. not (qualified o q) || le_z q.print.published r.print.published) (ps k) x m (bound o (ps k) r d).1 in
        rw same at (rw is at top)

  -- ---- chains of one length

  same-chain : (j k : Log Command) → Posted feed o j → Posted feed o k → (x y : Log Posting) → Walked x → Walked y → ((p : Posting) → Among p x → Source o j p) → ((p : Posting) → Among p y → Source o k p) → size x ≡ size y
      → map (λ p. p.print) x ≡ map (λ p. p.print) y
  same-chain j k a c ε ε wx wy sx sy e = refl
  same-chain j k a c ε (y ▹ q) wx wy sx sy e = absurd (omega arith)
  same-chain j k a c (x ▹ p) ε wx wy sx sy e = absurd (omega arith)
  same-chain j k a c (x ▹ p) (y ▹ q) (wx, lx) (wy, ly) sx sy e =
      let before = same-chain j k a c x y wx wy (λ r m. sx r (ahead m)) (λ r m. sy r (ahead m)) (omega arith) in
      let times : map (λ r. r.print.published) x ≡ map (λ r. r.print.published) y = map_same (λ r. r.print) (λ r. r.published) x y before in
      let at = map (λ r. r.print.published) x in
      let last = same-print j k a c (end at +ℤ pos 1) p q (sx p here) (sy q here) (link_over at p.print lx) (link_over at q.print (rw (← times) at ly)) in
      ap₂ ◌▹◌ before last

  -- ---- both

  module _ (j k : Log Command) (a : Posted feed o j) (c : Posted feed o k) (same : SameOffers j k) (rj : all in_range j ≡ true) (rk : all in_range k ≡ true) where
    slots_same : {A : Type 0} (d : A) (v : Print → A) (i : ℕ) → i < slots o.terms
        → maybe d (λ p. v p.print) (holder o (events j) i) ≡ maybe d (λ p. v p.print) (holder o (events k) i)
    unfolding holder
    slots_same {A} d v i l =
        rw (unfreed o j a.opened a.untouched i l, unfreed o k c.opened c.untouched i l) (go (first_for o i (ps j)) (first_for o i (ps k)) refl refl)
      where
        of_j : (p : Posting) → first_for o i (ps j) ≡ Some p → Source o j p
        of_j p e = slot_source o j a.opened a.untouched rj p i l e

        of_k : (p : Posting) → first_for o i (ps k) ≡ Some p → Source o k p
        of_k p e = slot_source o k c.opened c.untouched rk p i l e

        go : (x y : Option Posting) → first_for o i (ps j) ≡ x → first_for o i (ps k) ≡ y → maybe d (λ p. v p.print) x ≡ maybe d (λ p. v p.print) y
        go None None e g = refl
        go (Some p) None e g = absurd (slot_also j k c.opened same.there i p (of_j p e) e g)
        go None (Some r) e g = absurd (slot_also k j a.opened same.back i r (of_k r g) g e)
        go (Some p) (Some r) e g =
            ap v (same-print j k a c (boundary o.terms o.expiry i) p r (of_j p e) (of_k r g) (slot_over (ps j) i p e) (slot_over (ps k) i r g))

    fallback-same : {A : Type 0} (d : A) (v : Print → A) → maybe d (λ p. v p.print) (fallback o (ps j)) ≡ maybe d (λ p. v p.print) (fallback o (ps k))
    fallback-same {A} d v = go (fallback o (ps j)) (fallback o (ps k)) refl refl
      where
        of_j : (p : Posting) → fallback o (ps j) ≡ Some p → Source o j p
        of_j p e = fallback_source o j a.opened a.untouched rj p e

        of_k : (p : Posting) → fallback o (ps k) ≡ Some p → Source o k p
        of_k p e = fallback_source o k c.opened c.untouched rk p e

        go : (x y : Option Posting) → fallback o (ps j) ≡ x → fallback o (ps k) ≡ y → maybe d (λ p. v p.print) x ≡ maybe d (λ p. v p.print) y
        go None None e g = refl
        go (Some p) None e g = absurd (fallback_also j k c.opened same.there p (of_j p e) e g)
        go None (Some r) e g = absurd (fallback_also k j a.opened same.back r (of_k r g) g e)
        go (Some p) (Some r) e g =
            let x = no_later j k c.opened same.there p r (of_j p e) e g in
            let y = no_later k j a.opened same.back r p (of_k r g) g e in
            let at : p.print.published ≡ r.print.published = both_le p.print.published r.print.published (rw (x, y)) in
            ap v (same-print j k a c p.print.published p r (of_j p e) (of_k r g) (fallback_over (ps j) p e) (rw at (fallback_over (ps k) r g)))

    prices-same : slot_prices o (events j) ≡ slot_prices o (events k)
    unfolding slot_prices
    prices-same = list_ext 0 slot_places (price_at o (events j)) (price_at o (events k)) (λ i _. go i (ltb i (slots o.terms)) refl)
      where
        go : (i : ℕ) (b : Bool) → ltb i (slots o.terms) ≡ b
            → (if b then maybe 0 (λ p. p.print.price) (holder o (events j) i) else 0) ≡ (if b then maybe 0 (λ p. p.print.price) (holder o (events k) i) else 0)
        go i true e = slots_same 0 (λ p. p.price) i (ltb-true i (slots o.terms) e)
        go i false e = refl

    pub any_order : without_arrival (holdings o (events j)) ≡ without_arrival (holdings o (events k))
    unfolding candidates
    any_order =
        λ x. record {
          candidates =
              record {
                bits = Σ<_ext (slots o.terms) _ _ (λ i l. slots_same 0 (λ p. 2 ^ i) i l) x;
                sum = Σ<_ext (slots o.terms) _ _ (λ i l. slots_same 0 (λ p. p.price) i l) x;
                times = ε;
                prices = ε;
                fallback_time = fallback-same (pos 0) (λ p. p.published) x;
                fallback_price = fallback-same 0 (λ p. p.price) x;
                window_changed = pos 0;
                link_changed = pos 0;
                fallback_changed = pos 0;
              };
          slot_prices = prices-same x;
        }

    -- ---- the chain, where it has as many links

    links-same : size (chain o (ps j)) ≡ size (chain o (ps k)) → map (λ p. p.print) (chain o (ps j)) ≡ map (λ p. p.print) (chain o (ps k))
    links-same e =
        same-chain j k a c (chain o (ps j)) (chain o (ps k)) (chain_walked (ps j)) (chain_walked (ps k))
        (λ p m. chain_source o j a.opened a.untouched rj p m) (λ p m. chain_source o k c.opened c.untouched rk p m) e

    -- what is read off each link
    links_alike : {A : Type 0} (f : Print → A) → size (map (λ p. f p.print) (chain o (ps j))) ≡ size (map (λ p. f p.print) (chain o (ps k)))
        → {B : Type 0} (g : Print → B) → map (λ p. g p.print) (chain o (ps j)) ≡ map (λ p. g p.print) (chain o (ps k))
    links_alike f e g =
        map_same (λ p. p.print) g (chain o (ps j)) (chain o (ps k)) (links-same (sym (size-map (λ p. f p.print) (chain o (ps j))) ∙ e ∙ size-map (λ p. f p.print) (chain o (ps k))))

    pub chains_alike : size (candidates o (events j)).times ≡ size (candidates o (events k)).times
        → ((candidates o (events j)).times ≡ (candidates o (events k)).times) × ((candidates o (events j)).prices ≡ (candidates o (events k)).prices)
    unfolding candidates
    chains_alike e = (links_alike (λ p. p.published) e (λ p. p.published), links_alike (λ p. p.published) e (λ p. p.price))

    -- ---- outcomes

    good : good_terms o.terms ≡ true
    good = opening_good j o a.opened

    pub one-outcome : (x y : Command) → beside_chain (answer (ledger j) x) ≡ true → beside_chain (answer (ledger k) y) ≡ true → answer (ledger j) x ≡ answer (ledger k) y
    one-outcome x y hx hy = on j a x hx ∙ ap (λ (h : Holdings). outcome o good h.candidates) any_order ∙ sym (on k c y hy)
      where
        on : (i : Log Command) → Posted feed o i → (x : Command) → beside_chain (answer (ledger i) x) ≡ true → answer (ledger i) x ≡ outcome o good (candidates o (events i))
        on i p x h =
            let live_at : answer (ledger i) x ≡ answer (live o (holdings o (events i))) x = ap (λ (s : Series). answer s x) (ledger-live i o p.opened (unfrozen i p.untouched)) in
            live_at ∙ answer_beside o good (holdings o (events i)) x (ap beside_chain (sym live_at) ∙ h)

    -- the chain's price
    links-price : (m : Method) → by_chain m ≡ true → size (prices_for o (events j) m) ≡ size (prices_for o (events k) m) → prices_for o (events j) m ≡ prices_for o (events k) m
    unfolding prices_for
    links-price Method.NextPrint h e = links_alike (λ p. p.price) e (λ p. p.price)
    links-price Method.PartialNextPrint h e = links_alike (λ p. p.price) e (λ p. p.price)
    links-price Method.Window h e = cc
    links-price Method.PartialWindow h e = cc
    links-price Method.Fallback h e = cc
    links-price Method.Void h e = cc

    pub one-price : (m : Method) (x y : Command) (p q n : ℕ) → answer (ledger j) x ≡ Settle m p n → answer (ledger k) y ≡ Settle m q n → p ≡ q
    one-price m x y p q n e d = go (by_chain m) refl
      where
        fair_at : (i : Log Command) → Posted feed o i → (x : Command) (p : ℕ) → answer (ledger i) x ≡ Settle m p n → FairSettle o (events i) m p n
        fair_at i a x p e =
            let all-taken : taken_events i ≡ events i = unfold taken_events in rw (unfrozen i a.untouched) in
            fair_is (rw (e, all-taken) at (answers_fair i x o a.opened))

        go : (b : Bool) → by_chain m ≡ b → p ≡ q
        go false h = let same : Settle m p n ≡ Settle m q n = sym e ∙ one-outcome x y (rw (e, h)) (rw (d, h)) ∙ d in cc
        go true h =
            let fj = fair_at j a x p e in
            let fk = fair_at k c y q d in
            let All-same = links-price m h (sym fj.counted ∙ fk.counted) in
            let one : ok p ≡ ok q = sym fj.priced ∙ ap (λ (l : Log ℕ). mean (total l) (size l) o.terms.exponent) All-same ∙ fk.priced in
            cc
