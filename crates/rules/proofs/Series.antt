-- One series: each command leaves what the ledger reads off the commands so far.
use Rattle.std.specs.Prelude.{if◌then◌else◌, Option, None, Some}
use Prim.Native.Nat.{ℕ, ◌*◌, ◌^◌}
use mathlib.Core.Path.{◌≡◌, refl, sym, ap, ◌∙◌}
use mathlib.Core.Bool.{Bool, true, false, not, ◌&&◌, ◌||◌}
use lib.ListN.{set}
use lib.IntN.{ℤ, pos, negsuc, nat_abs}
use lib.Signed.{lt_z, le_z}
use lib.Dec.{ltb, eqb}
use borrow.Author.Tests.{ltb-true, ltb-false, le-leb, lt-leb, eqb-false, lt-ltb}
use native.Mathlib.Omega.{arith}
use Rattle.rules.proofs.Bools.{both}
use Rattle.rules.proofs.Integers.{lt_le_trans, le_false, lt_false}
use Rattle.rules.proofs.Logs.{all-put}
use Rattle.rules.proofs.Place.{of_prints, candidates-bit, holdings_none, holdings_more, holdings_freed, holdings_kept, place_unusable, small, sum_fits_lem}
use Rattle.rules.specs.Log.{Log, ε, ◌▹◌, ◌or_else◌, is_some, maybe, size, put, all}
use Rattle.rules.specs.Bytes.{fits}
use Rattle.rules.specs.Answers.{Result, ok, refused, Answer, Used, Refused, final, is_used}
use Rattle.rules.specs.Terms.{Terms, slots, good_terms}
use Rattle.rules.specs.Prints.{Print, Quote, eq_z, good_print, new_print, accept}
use Rattle.rules.specs.Taking.{Candidates, slot_for, is_link, is_fallback, usable, times_fit, sum_fits, print_answer}
use Rattle.rules.specs.Decision.{Order}
use Rattle.rules.specs.Series.{Opening, Command, Open, Offer, Ask, Fix, Withdraw, Holdings, empty, live, fixed, no_holdings, keeps, leaves, decided, offer_held, offered, waiting, withdrawing, step, changed, after}
use Rattle.rules.specs.Ledger.{good_open, opening, Posting, Event, posted, withdrawal, accepted, taken, events, holder, holdings, Freeze, freezes, freeze, taken_events, since, ledger}

-- ---- what an accepted print is

module _ (e : ℤ) (bps : ℕ) (q : Quote) (p : Print) where
  abbrev pub made : Print
  made = record { price = nat_abs q.price; published = q.published; prev = q.prev }

  pub accept_facts : accept e bps q ≡ ok p → (good_print p ≡ true) × (made ≡ p)
  unfolding accept new_print
  accept_facts h =
      go (le_z q.price (pos 0)) (eq_z q.exponent e) (ltb (nat_abs q.price * bps) (q.conf * 10_000)) (good_print made) refl h
    where
      go : (a b c d : Bool) → good_print made ≡ d
          → (if a then refused 13 else if not b then refused 16 else if c then refused 17 else if d then ok made else refused 13) ≡ ok p
          → (good_print p ≡ true) × (made ≡ p)
      go false true false true g h = let m : made ≡ p = cc in (ap (λ (x : Print). good_print x) (sym m) ∙ g, m)
      go false true false false g h = (cc, cc)
      go false true true d g h = (cc, cc)
      go false false c d g h = (cc, cc)
      go true b c d g h = (cc, cc)

  pub accept_small : fits q.price ≡ true → accept e bps q ≡ ok p → ltb p.price (2 ^ 63) ≡ true
  unfolding accept
  accept_small f h =
      let (_, m) = accept_facts h in
      ap (λ (x : Print). ltb x.price (2 ^ 63)) (sym m) ∙ go q.price f h
    where
      go : (z : ℤ) → fits z ≡ true
          → (if le_z z (pos 0) then refused 13 else if not (eq_z q.exponent e) then refused 16 else if ltb (nat_abs z * bps) (q.conf * 10_000) then refused 17
          else new_print (record { price = nat_abs z; published = q.published; prev = q.prev })) ≡ ok p → ltb (nat_abs z) (2 ^ 63) ≡ true
      go (pos n) f h = f
      go (negsuc n) f h = cc

-- a good print's price and times are positive
pub good_positive : (p : Print) → good_print p ≡ true → (ltb 0 p.price ≡ true) × (lt_z (pos 0) p.published ≡ true) × (lt_z (pos 0) p.prev ≡ true)
good_positive p g = go (eqb p.price 0) (le_z p.prev (pos 0)) (lt_z p.published p.prev) refl refl refl g
  where
    go : (a b c : Bool) → eqb p.price 0 ≡ a → le_z p.prev (pos 0) ≡ b → lt_z p.published p.prev ≡ c → not (a || b || c) ≡ true
        → (ltb 0 p.price ≡ true) × (lt_z (pos 0) p.published ≡ true) × (lt_z (pos 0) p.prev ≡ true)
    go true b c x y z h = (cc, cc, cc)
    go false true c x y z h = (cc, cc, cc)
    go false false true x y z h = (cc, cc, cc)
    go false false false x y z h =
        let n = eqb-false p.price 0 x in
        (lt-ltb 0 p.price (omega arith), lt_le_trans (pos 0) p.prev p.published (le_false p.prev (pos 0) y) (lt_false p.published p.prev z), le_false p.prev (pos 0) y)

-- ---- before the opening

pub none_ahead : {A : Type 0} (a b : Option A) → a or_else b ≡ None → a ≡ None
none_ahead None b e = refl
none_ahead (Some x) b e = e

pub ledger-empty : (j : Log Command) → opening j ≡ None → ledger j ≡ empty
unfolding ledger
ledger-empty j e = rw e

pub no_events : (j : Log Command) → opening j ≡ None → events j ≡ ε
unfolding opening events
no_events ε e = refl
no_events (j ▹ c) e =
    let h : opening j ≡ None = none_ahead (opening j) (good_open c) e in
    rw (no_events j h, h)

pub no_freeze : (j : Log Command) → opening j ≡ None → freeze j ≡ None
unfolding opening freeze
no_freeze ε e = refl
no_freeze (j ▹ c) e =
    let h : opening j ≡ None = none_ahead (opening j) (good_open c) e in
    rw (no_freeze j h) (go c h)
  where
    go : (c : Command) → opening j ≡ None → freezes j c ≡ None
    go (Open o) h = refl
    go (Offer q now) h = refl
    go (Ask now) h = refl
    go (Fix now) h = rw h
    go (Withdraw now i) h = refl

pub opening_good : (j : Log Command) (o : Opening) → opening j ≡ Some o → good_terms o.terms ≡ true
unfolding opening
opening_good ε o e = cc
opening_good (j ▹ c) o e = go (opening j) c refl e (opening_good j o)
  where
    go : (a : Option Opening) (c : Command) → opening j ≡ a → a or_else good_open c ≡ Some o → (opening j ≡ Some o → good_terms o.terms ≡ true) → good_terms o.terms ≡ true
    go (Some x) c d e r = r (d ∙ e)
    go None (Open x) d e r = at (good_terms x.terms) refl e
      where
        at : (b : Bool) → good_terms x.terms ≡ b → (if b then Some x else None) ≡ Some o → good_terms o.terms ≡ true
        at true g e = let y : x ≡ o = cc in ap (λ (z : Opening). good_terms z.terms) (sym y) ∙ g
        at false g e = cc
    go None (Offer q now) d e r = cc
    go None (Ask now) d e r = cc
    go None (Fix now) d e r = cc
    go None (Withdraw now i) d e r = cc

-- ---- while it is open

pub ledger-live : (j : Log Command) (o : Opening) → opening j ≡ Some o → freeze j ≡ None → ledger j ≡ live o (holdings o (events j))
unfolding ledger taken_events
ledger-live j o e f = rw (e, f)

-- ---- a test that every event of these commands passes

pub taken-all : (P : Event → Bool) (good : Command → Bool)
    → ((o : Opening) (q : Quote) (now : ℤ) (p : Print) → good (Offer q now) ≡ true → accept o.terms.exponent o.bps q ≡ ok p → P (posted (record { print = p; now = now })) ≡ true)
    → ((now : ℤ) (i : ℕ) → good (Withdraw now i) ≡ true → P (withdrawal now i) ≡ true)
    → (j : Log Command) → all good j ≡ true → all P (events j) ≡ true
unfolding events
taken-all P good h w ε a = refl
taken-all P good h w (j ▹ c) a =
    let (aj, ac) = both (all good j) (good c) a in
    all-put P (events j) (taken (opening j) c) (taken-all P good h w j aj) (go (opening j) c ac)
  where
    go : (x : Option Opening) (c : Command) → good c ≡ true → maybe true P (taken x c) ≡ true
    go None c a = refl
    go (Some o) (Open q) a = refl
    go (Some o) (Ask now) a = refl
    go (Some o) (Fix now) a = refl
    go (Some o) (Withdraw now i) a = w now i a
    go (Some o) (Offer q now) a = at (times_fit o.terms o.expiry) (accept o.terms.exponent o.bps q) refl
      where
        at : (b : Bool) (r : Result Print) → accept o.terms.exponent o.bps q ≡ r → maybe true P (if b then accepted now r else None) ≡ true
        at true (refused r) e = refl
        at true (ok p) e = h o q now p a e
        at false r e = refl

-- no print is taken where one of the two times that it is measured by does not fit
pub no_prints : (j : Log Command) (o : Opening) → opening j ≡ Some o → times_fit o.terms o.expiry ≡ false → all (of_prints (λ p. false)) (events j) ≡ true
unfolding opening events
no_prints ε o e f = refl
no_prints (j ▹ c) o e f = go (opening j) refl e (no_prints j o)
  where
    go : (x : Option Opening) → opening j ≡ x → x or_else good_open c ≡ Some o → (opening j ≡ Some o → times_fit o.terms o.expiry ≡ false → all (of_prints (λ p. false)) (events j) ≡ true)
        → all (of_prints (λ p. false)) (put (events j) (taken x c)) ≡ true
    go None d e r = rw (no_events j d)
    go (Some x) d e r =
        let y : x ≡ o = cc in
        all-put (of_prints (λ p. false)) (events j) (taken (Some x) c) (r (d ∙ e) f) (none_of c y)
      where
        none_of : (c : Command) → x ≡ o → maybe true (of_prints (λ p. false)) (taken (Some x) c) ≡ true
        none_of (Open q) y = refl
        none_of (Offer q now) y = rw (y, f)
        none_of (Ask now) y = refl
        none_of (Fix now) y = refl
        none_of (Withdraw now i) y = refl

-- an offer's price as it comes from an i64
abbrev pub in_range : Command → Bool
in_range (Open o) = true
in_range (Offer q now) = fits q.price
in_range (Ask now) = true
in_range (Fix now) = true
in_range (Withdraw now i) = true

pub events_small : (j : Log Command) → all in_range j ≡ true → all (of_prints small) (events j) ≡ true
events_small j h = taken-all (of_prints small) in_range (λ o q now p f e. accept_small o.terms.exponent o.bps q p f e) (λ now i f. refl) j h

-- ---- one more command

-- an offer that is not used leaves the holdings as they were, and one that is used places its print
module _ (o : Opening) (h : Holdings) (p : Print) (now : ℤ) where
  abbrev c : Candidates
  c = h.candidates

  abbrev t : Terms
  t = o.terms

  abbrev E : ℤ
  E = o.expiry

  pub offered-changed : times_fit t E && sum_fits t E c p ≡ true
      → maybe (live o h) (λ s. s) (changed (offered o h now (ok p))) ≡ live o (offer_held o h now (ok p))
  unfolding print_answer
  offered-changed f = rw f (go (usable t E c p) refl)
    where
      a : Bool → Answer
      a u = if not u then Refused 14 else Used (slot_for t E c p) (if is_link t E c p then Some (size c.times) else None) (is_fallback t E c p)

      go : (u : Bool) → usable t E c p ≡ u
          → maybe (live o h) (λ s. s) (changed (if is_used (a u) then leaves (a u) (live o (offer_held o h now (ok p))) else keeps (a u))) ≡ live o (offer_held o h now (ok p))
      go true e = refl
      go false e = ap (live o) (sym kept)
        where
          unfilled : (f : Option ℕ) (a b : Bool) → is_some f || a || b ≡ false → maybe h.slot_prices (λ i. set h.slot_prices i p.price) f ≡ h.slot_prices
          unfilled None a b e = refl
          unfilled (Some i) a b e = cc

          kept : offer_held o h now (ok p) ≡ h
          kept = λ i. record { candidates = place_unusable t E c p now e i; slot_prices = unfilled (slot_for t E c p) (is_link t E c p) (is_fallback t E c p) e i }

  offered_late : times_fit t E ≡ false → maybe (live o h) (λ s. s) (changed (offered o h now (ok p))) ≡ live o h
  unfolding print_answer
  offered_late f = rw f

module _ (j : Log Command) (range : all in_range j ≡ true) where
  after-empty : (c : Command) → opening j ≡ None → after empty c ≡ ledger (j ▹ c)
  unfolding step ledger taken_events opening freeze events
  after-empty (Open o) e = rw (e, no_freeze j e, no_events j e) (go (good_terms o.terms))
    where
      go : (b : Bool) → maybe empty (λ s. s) (changed (if b then leaves Answer.Opened (live o no_holdings) else keeps (Refused 12)))
          ≡ maybe empty (λ q. live q (holdings q ε)) (if b then Some o else None)
      go true = ap (live o) (sym (holdings_none o))
      go false = refl
  after-empty (Offer q now) e = rw e
  after-empty (Ask now) e = rw e
  after-empty (Fix now) e = rw e
  after-empty (Withdraw now i) e = rw e

  module _ (o : Opening) (e : opening j ≡ Some o) where
    abbrev h : Holdings
    h = holdings o (events j)

    after_offer : (q : Quote) (now : ℤ) → fits q.price ≡ true
        → maybe (live o h) (λ s. s) (changed (offered o h now (accept o.terms.exponent o.bps q)))
        ≡ live o (holdings o (put (events j) (if times_fit o.terms o.expiry then accepted now (accept o.terms.exponent o.bps q) else None)))
    after_offer q now r = go (accept o.terms.exponent o.bps q) (times_fit o.terms o.expiry) refl refl
      where
        go : (a : Result Print) (b : Bool) → accept o.terms.exponent o.bps q ≡ a → times_fit o.terms o.expiry ≡ b
            → maybe (live o h) (λ s. s) (changed (offered o h now a)) ≡ live o (holdings o (put (events j) (if b then accepted now a else None)))
        go (refused r) true _ _ = refl
        go (refused r) false _ _ = refl
        go (ok p) true i f =
            let x : Posting = record { print = p; now = now } in
            let (g, m) = accept_facts o.terms.exponent o.bps q p i in
            offered-changed o h p now (rw (f, sum_fits_lem o (events j) x (opening_good j o e) (events_small j range) (accept_small o.terms.exponent o.bps q p r i)))
            ∙ ap (live o) (sym (holdings_more o (events j) x (opening_good j o e) (good_positive p g).1))
        go (ok p) false i f = offered_late o h p now f

    after_withdraw : (now : ℤ) (i : ℕ) → maybe (live o h) (λ s. s) (changed (withdrawing o h now i)) ≡ live o (holdings o (events j ▹ withdrawal now i))
    after_withdraw now i = go (ltb i (slots o.terms)) (is_some (holder o (events j) i)) refl refl
      where
        es : Log Event
        es = events j

        go : (a b : Bool) → ltb i (slots o.terms) ≡ a → is_some (holder o es i) ≡ b
            → maybe (live o h) (λ s. s) (changed (withdrawing o h now i)) ≡ live o (holdings o (es ▹ withdrawal now i))
        go false b x y = rw (le-leb (slots o.terms) i (ltb-false i (slots o.terms) x)) (ap (live o) (sym (holdings_kept o es now i (rw x))))
        go true false x y =
            rw (lt-leb (slots o.terms) i (ltb-true i (slots o.terms) x), candidates-bit o es i (ltb-true i (slots o.terms) x), y)
            (ap (live o) (sym (holdings_kept o es now i (rw (x, y)))))
        go true true x y =
            rw (lt-leb (slots o.terms) i (ltb-true i (slots o.terms) x), candidates-bit o es i (ltb-true i (slots o.terms) x), y)
            (ap (live o) (sym (holdings_freed o es now i (opening_good j o e) (rw (x, y)))))

    after-live : (c : Command) → freeze j ≡ None → in_range c ≡ true → after (live o h) c ≡ ledger (j ▹ c)
    unfolding step ledger taken_events opening freeze events
    after-live (Open q) f _ = rw (e, f)
    after-live (Offer q now) f r = rw (e, f) (after_offer q now r)
    after-live (Ask now) f _ = rw (e, f)
    after-live (Fix now) f _ = rw (e, f) (go (final (decided o h.candidates now)))
      where
        go : (b : Bool) → maybe (live o h) (λ s. s) (changed (if b then leaves (decided o h.candidates now) (fixed Order.voted o h (decided o h.candidates now) now) else keeps (waiting (decided o h.candidates now))))
            ≡ (let z : Option Freeze = if b then Some (record { ahead = j; now = now }) else None in
            since o (holdings o (maybe (events j) (λ z. events z.ahead) z)) z)
        go true = refl
        go false = refl
    after-live (Withdraw now i) f _ = rw (e, f) (after_withdraw now i)

    after-fixed : (z : Freeze) (c : Command) → freeze j ≡ Some z
        → after (since o (holdings o (events z.ahead)) (Some z)) c ≡ ledger (j ▹ c)
    unfolding step ledger taken_events opening freeze
    after-fixed z (Open q) f = rw (e, f)
    after-fixed z (Offer q now) f = rw (e, f)
    after-fixed z (Ask now) f = rw (e, f)
    after-fixed z (Fix now) f = rw (e, f)
    after-fixed z (Withdraw now i) f = rw (e, f)

  pub after-ledger : (c : Command) → in_range c ≡ true → after (ledger j) c ≡ ledger (j ▹ c)
  unfolding ledger taken_events
  after-ledger c r = go (opening j) (freeze j) refl refl
    where
      go : (o : Option Opening) (z : Option Freeze) → opening j ≡ o → freeze j ≡ z
          → after (maybe empty (λ q. since q (holdings q (maybe (events j) (λ y. events y.ahead) z)) z) o) c ≡ ledger (j ▹ c)
      go None z e f = after-empty c e
      go (Some o) None e f = after-live o e c f r
      go (Some o) (Some z) e f = after-fixed o e z c f
