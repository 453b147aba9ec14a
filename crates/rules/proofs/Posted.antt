-- A series that was only posted to: what it holds comes of offers that it used, and every offer that passes acceptance was taken.
use Rattle.std.specs.Prelude.{if◌then◌else◌, Option, None, Some}
use Prim.Native.Nat.{ℕ, ◌<◌}
use mathlib.Core.Path.{◌≡◌, refl, sym, ap, ◌∙◌}
use mathlib.Core.Bool.{Bool, true, false, not, ◌&&◌, ◌||◌}
use native.Mathlib.Omega.{arith}
use lib.IntN.{ℤ, pos}
use lib.Signed.{lt_z}
use lib.Dec.{eqb}
use borrow.Author.Tests.{lt-leb, eqb-true}
use Rattle.rules.proofs.Bools.{both, or_true, not_both}
use Rattle.rules.proofs.Sums.{find_none}
use Rattle.rules.proofs.Logs.{among_put, among_none, among_split}
use Rattle.rules.proofs.Fallback.{fallback_more}
use Rattle.rules.proofs.Place.{candidates-bit, sum_fits_lem}
use Rattle.rules.proofs.Series.{accept_facts, accept_small, good_positive, none_ahead, ledger-empty, no_events, opening_good, ledger-live, in_range, events_small}
use Rattle.rules.specs.Log.{Log, ε, ◌▹◌, Among, here, ahead, ◌or_else◌, is_some, put, all}
use Rattle.rules.specs.Answers.{Result, ok, refused, Answer, Opened, Used, Wait, Settle, Done, Refused, final, is_used, is_refused}
use Rattle.rules.specs.Terms.{slots, good_terms}
use Rattle.rules.specs.Prints.{Print, Quote, accept}
use Rattle.rules.specs.Taking.{bit, canonical, slot_for, is_link, is_fallback, usable, times_fit, sum_fits, print_answer}
use Rattle.rules.specs.Series.{Opening, Command, Open, Offer, Ask, Fix, Withdraw, Holdings, empty, live, no_holdings, answer_of, keeps, leaves, withdrawn, decided, fixing, withdrawing, step, answer}
use Rattle.rules.specs.Ledger.{good_open, opening, Posting, Event, posted, withdrawal, accepted, taken, events, prints, first_for, after_withdrawal, holder, chain, fallback, candidates, holdings, freezes, freeze, ledger}
use Rattle.rules.specs.Feed.{quoted, offers, used, is_fix_or_withdraw, not_fixed_or_freed}

-- an empty series uses no print
unused : (c : Command) → is_used (answer empty c) ≡ false
unfolding step
unused (Open o) = go (good_terms o.terms)
  where
    go : (b : Bool) → is_used (answer_of (if b then leaves Opened (live o no_holdings) else keeps (Refused 12))) ≡ false
    go true = refl
    go false = refl
unused (Offer q now) = refl
unused (Ask now) = refl
unused (Fix now) = refl
unused (Withdraw now i) = refl

-- the opening stands at this command, or ahead of it
by_opening : (C : Type 0) (j : Log Command) (c : Command) (o : Opening) → opening (j ▹ c) ≡ Some o → (opening j ≡ None → C) → (opening j ≡ Some o → C) → C
unfolding opening
by_opening C j c o e f g = go (opening j) refl e
  where
    go : (x : Option Opening) → opening j ≡ x → x or_else good_open c ≡ Some o → C
    go None d e = f d
    go (Some x) d e = g (d ∙ e)

none_some : {A : Type 0} (x : A) → None ≡ Some x → ⊥
none_some x e = let z : ◌≡◌ {A = ℕ} 0 1 = cc in omega arith

-- ---- what was offered

pub used-offered : (j : Log Command) (q : Quote) → Among q (used j) → Among q (offers j)
unfolding used offers
used-offered ε q m = absurd (among_none q (used ε) m refl)
used-offered (j ▹ c) q m = go (opening j) refl m (used-offered j q)
  where
    go : (x : Option Opening) → opening j ≡ x → Among q (put (used j) (if is_used (answer (ledger j) c) then quoted c else None)) → (Among q (used j) → Among q (offers j))
        → Among q (put (offers j) (if is_some x then quoted c else None))
    go None e m k = k (rw (ledger-empty j e, unused c) at m)
    go (Some o) e m k = at (is_used (answer (ledger j) c)) (quoted c) m
      where
        at : (b : Bool) (x : Option Quote) → Among q (put (used j) (if b then x else None)) → Among q (put (offers j) x)
        at false x m = among_put q (offers j) x (k m)
        at true None m = k m
        at true (Some x) m = among_split (Among q (offers j ▹ x)) (used j) x q m (λ e. rw e here) (λ h. ahead (k h))

no_offers : (j : Log Command) → opening j ≡ None → offers j ≡ ε
unfolding opening offers
no_offers ε e = refl
no_offers (j ▹ c) e =
    let h : opening j ≡ None = none_ahead (opening j) (good_open c) e in
    rw (no_offers j h, h)

-- a print that was taken
abbrev pub Taken : Log Command → Print → Type 0
Taken j r = (p : Posting) × Among p (prints (events j)) × (p.print ≡ r)

-- ---- nothing is fixed, and no slot is freed

not_final : (o : Opening) (h : Holdings) (now : ℤ) (a : Answer) → is_refused (answer_of (fixing o h now a)) ≡ true → final a ≡ false
not_final o h now Opened r = refl
not_final o h now (Used s l f) r = refl
not_final o h now (Wait t) r = refl
not_final o h now (Settle m p n) r = cc
not_final o h now Answer.Void r = cc
not_final o h now Done r = refl
not_final o h now (Refused n) r = refl

not_filled : (o : Opening) (h : Holdings) (now : ℤ) (i : ℕ) → i < slots o.terms → is_refused (answer_of (withdrawing o h now i)) ≡ true → bit i h.candidates.bits ≡ false
not_filled o h now i l r = go (bit i h.candidates.bits) refl (rw (lt-leb (slots o.terms) i l) at r)
  where
    go : (b : Bool) → bit i h.candidates.bits ≡ b
        → is_refused (answer_of (if not b then keeps (Refused 41) else leaves Done (live o (withdrawn h now i)))) ≡ true → b ≡ false
    go false e r = refl
    go true e r = cc

pub unfrozen : (j : Log Command) → not_fixed_or_freed j ≡ true → freeze j ≡ None
unfolding freeze step
unfrozen ε h = refl
unfrozen (j ▹ c) h =
    let (a, b) = both (not_fixed_or_freed j) (not (is_fix_or_withdraw c) || is_refused (answer (ledger j) c)) h in
    rw (unfrozen j a) (go c b (unfrozen j a))
  where
    go : (c : Command) → not (is_fix_or_withdraw c) || is_refused (answer (ledger j) c) ≡ true → freeze j ≡ None → freezes j c ≡ None
    go (Open o) h f = refl
    go (Offer q now) h f = refl
    go (Ask now) h f = refl
    go (Withdraw now i) h f = refl
    go (Fix now) h f = at (opening j) refl
      where
        at : (x : Option Opening) → opening j ≡ x → freezes j (Fix now) ≡ None
        at None e = rw e
        at (Some o) e =
            let held = holdings o (events j) in
            rw (e, not_final o held now (decided o held.candidates now) (rw (ledger-live j o e f) at h))

module _ (o : Opening) where
  -- a slot is read off all that was taken
  pub unfreed : (j : Log Command) → opening j ≡ Some o → not_fixed_or_freed j ≡ true → (i : ℕ) → i < slots o.terms → after_withdrawal o (events j) i ≡ prints (events j)
  unfolding events after_withdrawal prints holder step
  unfreed ε e h i l = refl
  unfreed (j ▹ c) e h i l =
      let (a, b) = both (not_fixed_or_freed j) (not (is_fix_or_withdraw c) || is_refused (answer (ledger j) c)) h in
      by_opening (after_withdrawal o (events (j ▹ c)) i ≡ prints (events (j ▹ c))) j c o e (λ d. rw (no_events j d, d)) (λ d. rw d (go c b d (unfrozen j a) (unfreed j d a i l)))
    where
      go : (c : Command) → not (is_fix_or_withdraw c) || is_refused (answer (ledger j) c) ≡ true → opening j ≡ Some o → freeze j ≡ None
          → after_withdrawal o (events j) i ≡ prints (events j)
          → after_withdrawal o (put (events j) (taken (Some o) c)) i ≡ prints (put (events j) (taken (Some o) c))
      go (Open q) h d f r = r
      go (Ask now) h d f r = r
      go (Fix now) h d f r = r
      go (Offer q now) h d f r = at (times_fit o.terms o.expiry) (accept o.terms.exponent o.bps q)
        where
          at : (b : Bool) (x : Result Print) → after_withdrawal o (put (events j) (if b then accepted now x else None)) i ≡ prints (put (events j) (if b then accepted now x else None))
          at true (ok p) = ap (λ (ps : Log Posting). ps ▹ record { print = p; now = now }) r
          at true (refused n) = r
          at false x = r
      go (Withdraw now k) h d f r = at (eqb k i) refl
        where
          at : (b : Bool) → eqb k i ≡ b → (if b && is_some (first_for o i (after_withdrawal o (events j) i)) then ε else after_withdrawal o (events j) i) ≡ prints (events j)
          at false q = r
          at true q =
              let m = eqb-true k i q in
              let empty : is_some (holder o (events j) i) ≡ false = sym (candidates-bit o (events j) i l) ∙ not_filled o (holdings o (events j)) now i l (rw (m, ledger-live j o d f) at h) in
              rw empty r

  -- ---- what is held was used

  -- p comes of an offer that was used, and that passes acceptance where the times fit
  abbrev pub Source : Log Command → Posting → Type 0
  Source j p = (q : Quote) × Among q (used j) × (accept o.terms.exponent o.bps q ≡ ok p.print) × (times_fit o.terms o.expiry ≡ true)

  still_source : (j : Log Command) (c : Command) (p : Posting) → Source j p → Source (j ▹ c) p
  unfolding used
  still_source j c p (q, u, e, f) = (q, among_put q (used j) (if is_used (answer (ledger j) c) then quoted c else None) u, e, f)

  offer_used : (h : Holdings) (q : Quote) (now : ℤ) (p : Print) → accept o.terms.exponent o.bps q ≡ ok p
      → times_fit o.terms o.expiry ≡ true → sum_fits o.terms o.expiry h.candidates p ≡ true → usable o.terms o.expiry h.candidates p ≡ true
      → is_used (answer (live o h) (Offer q now)) ≡ true
  unfolding step print_answer
  offer_used h q now p a t s u = rw (a, t, s, u)

  -- a print that has a use where it comes
  abbrev Useful : Log Command → Posting → Type 0
  Useful j y = usable o.terms o.expiry (candidates o (events j)) y.print ≡ true

  -- What can be found in a log of prints: nothing in an empty one, and with one more print only that one, where it is of use, and what was found before.
  module _ (Found : Log Posting → Posting → Type 0) (nothing : (p : Posting) → Found ε p → ⊥)
      (more : (j : Log Command) → opening j ≡ Some o → not_fixed_or_freed j ≡ true → (y : Posting) → lt_z (pos 0) y.print.published ≡ true
      → (p : Posting) → Found (prints (events j) ▹ y) p → (C : Type 0) → (Found (prints (events j)) p → C) → (y ≡ p → Useful j y → C) → C) where
    source : (j : Log Command) → opening j ≡ Some o → not_fixed_or_freed j ≡ true → all in_range j ≡ true → (p : Posting) → Found (prints (events j)) p → Source j p
    unfolding events prints used
    source ε e h r p k = absurd (nothing p k)
    source (j ▹ c) e h r p k =
        let (h₁, _) = both (not_fixed_or_freed j) (not (is_fix_or_withdraw c) || is_refused (answer (ledger j) c)) h in
        let (r₁, r₂) = both (all in_range j) (in_range c) r in
        by_opening (Source (j ▹ c) p) j c o e (λ d. absurd (nothing p (rw (no_events j d, d) at k))) (λ d. go d h₁ r₁ c r₂ (source j d h₁ r₁ p) (rw d at k))
      where
        go : opening j ≡ Some o → not_fixed_or_freed j ≡ true → all in_range j ≡ true → (c : Command) → in_range c ≡ true → (Found (prints (events j)) p → Source j p)
            → Found (prints (put (events j) (taken (Some o) c))) p → Source (j ▹ c) p
        go d h r (Open x) f i k = still_source j (Open x) p (i k)
        go d h r (Ask now) f i k = still_source j (Ask now) p (i k)
        go d h r (Fix now) f i k = still_source j (Fix now) p (i k)
        go d h r (Withdraw now n) f i k = still_source j (Withdraw now n) p (i k)
        go d h r (Offer q now) f i k = at (times_fit o.terms o.expiry) (accept o.terms.exponent o.bps q) refl refl k
          where
            old : Found (prints (events j)) p → Source (j ▹ Offer q now) p
            old k = still_source j (Offer q now) p (i k)

            at : (b : Bool) (x : Result Print) → times_fit o.terms o.expiry ≡ b → accept o.terms.exponent o.bps q ≡ x
                → Found (prints (put (events j) (if b then accepted now x else None))) p → Source (j ▹ Offer q now) p
            at false x t a k = old k
            at true (refused n) t a k = old k
            at true (ok x) t a k = more j d h y (good_positive x (accept_facts o.terms.exponent o.bps q x a).0).1 p k (Source (j ▹ Offer q now) p) old new
              where
                y : Posting
                y = record { print = x; now = now }

                new : y ≡ p → Useful j y → Source (j ▹ Offer q now) p
                new same u =
                    let fit = sum_fits_lem o (events j) y (opening_good j o d) (events_small j r) (accept_small o.terms.exponent o.bps q x f a) in
                    let there : Among q (used (j ▹ Offer q now)) = rw (ledger-live j o d (unfrozen j h), offer_used (holdings o (events j)) q now x a t fit u) here in
                    (q, there, a ∙ ap (λ (z : Posting). ok z.print) same, t)

  module _ (j : Log Command) (e : opening j ≡ Some o) (h : not_fixed_or_freed j ≡ true) (r : all in_range j ≡ true) (p : Posting) where
    pub slot_source : (i : ℕ) → i < slots o.terms → first_for o i (prints (events j)) ≡ Some p → Source j p
    unfolding slot_for holder
    slot_source i l k = source (λ ps p. first_for o i ps ≡ Some p) (λ p k. none_some p k) more j e h r p k
      where
        -- a print that is canonical for i, while no print before it is
        fills : (j : Log Command) → opening j ≡ Some o → not_fixed_or_freed j ≡ true → (y : Posting) → first_for o i (prints (events j)) ≡ None
            → canonical o.terms o.expiry i y.print ≡ true → Useful j y
        fills j e h y n c = go (slot_for o.terms o.expiry (candidates o (events j)) y.print) refl
          where
            vacant : bit i (candidates o (events j)).bits ≡ false
            vacant = candidates-bit o (events j) i l ∙ ap (λ (ps : Log Posting). is_some (first_for o i ps)) (unfreed j e h i l) ∙ ap is_some n

            go : (x : Option ℕ) → slot_for o.terms o.expiry (candidates o (events j)) y.print ≡ x
                → is_some x || is_link o.terms o.expiry (candidates o (events j)) y.print || is_fallback o.terms o.expiry (candidates o (events j)) y.print ≡ true
            go (Some k) s = refl
            go None s =
                let none_open = find_none (slots o.terms) (λ k. canonical o.terms o.expiry k y.print && not (bit k (candidates o (events j)).bits)) s i l in
                absurd (not_both {b = true} refl (rw (c, vacant) at none_open))

        more : (j : Log Command) → opening j ≡ Some o → not_fixed_or_freed j ≡ true → (y : Posting) → lt_z (pos 0) y.print.published ≡ true
            → (p : Posting) → first_for o i (prints (events j) ▹ y) ≡ Some p → (C : Type 0) → (first_for o i (prints (events j)) ≡ Some p → C) → (y ≡ p → Useful j y → C) → C
        more j e h y _ p k C old new = go (first_for o i (prints (events j))) (canonical o.terms o.expiry i y.print) refl refl k
          where
            go : (x : Option Posting) (b : Bool) → first_for o i (prints (events j)) ≡ x → canonical o.terms o.expiry i y.print ≡ b → x or_else (if b then Some y else None) ≡ Some p → C
            go (Some z) b d c k = old (d ∙ k)
            go None true d c k = let same : y ≡ p = cc in new same (fills j e h y d c)
            go None false d c k = absurd (none_some p k)

    pub fallback_source : fallback o (prints (events j)) ≡ Some p → Source j p
    unfolding fallback
    fallback_source k = source (λ ps p. fallback o ps ≡ Some p) (λ p k. none_some p k) more j e h r p k
      where
        more : (j : Log Command) → opening j ≡ Some o → not_fixed_or_freed j ≡ true → (y : Posting) → lt_z (pos 0) y.print.published ≡ true
            → (p : Posting) → fallback o (prints (events j) ▹ y) ≡ Some p → (C : Type 0) → (fallback o (prints (events j)) ≡ Some p → C) → (y ≡ p → Useful j y → C) → C
        more j e h y l p k C old new = go (is_fallback o.terms o.expiry (candidates o (events j)) y.print) refl (sym (fallback_more o (events j) y l) ∙ k)
          where
            go : (b : Bool) → is_fallback o.terms o.expiry (candidates o (events j)) y.print ≡ b → (if b then Some y else fallback o (prints (events j))) ≡ Some p → C
            go false t k = old k
            go true t k =
                let same : y ≡ p = cc in
                new same (rw t (or_true (is_some (slot_for o.terms o.expiry (candidates o (events j)) y.print) || is_link o.terms o.expiry (candidates o (events j)) y.print)))

    pub chain_source : Among p (chain o (prints (events j))) → Source j p
    unfolding chain candidates
    chain_source k = source (λ ps p. Among p (chain o ps)) (λ p k. among_none p ε k refl) more j e h r p k
      where
        between : (a b : Bool) → a || true || b ≡ true
        between true b = refl
        between false b = refl

        more : (j : Log Command) → opening j ≡ Some o → not_fixed_or_freed j ≡ true → (y : Posting) → lt_z (pos 0) y.print.published ≡ true
            → (p : Posting) → Among p (chain o (prints (events j) ▹ y)) → (C : Type 0) → (Among p (chain o (prints (events j))) → C) → (y ≡ p → Useful j y → C) → C
        more j e h y _ p k C old new = go (is_link o.terms o.expiry (candidates o (events j)) y.print) refl k
          where
            go : (b : Bool) → is_link o.terms o.expiry (candidates o (events j)) y.print ≡ b → Among p (if b then chain o (prints (events j)) ▹ y else chain o (prints (events j))) → C
            go false t k = old k
            go true t k =
                among_split C (chain o (prints (events j))) y p k
                (λ same. new (sym same) (rw t (between (is_some (slot_for o.terms o.expiry (candidates o (events j)) y.print)) (is_fallback o.terms o.expiry (candidates o (events j)) y.print)))) old

  -- ---- what was offered was taken

  pub offer_taken : (q : Quote) (r : Print) → accept o.terms.exponent o.bps q ≡ ok r → times_fit o.terms o.expiry ≡ true
      → (j : Log Command) → opening j ≡ Some o → Among q (offers j) → Taken j r
  unfolding events prints offers
  offer_taken q r a t ε e m = absurd (among_none q (offers ε) m refl)
  offer_taken q r a t (j ▹ c) e m =
      by_opening (Taken (j ▹ c) r) j c o e
      (λ d. absurd (among_none q (offers j) (rw d at m) (no_offers j d)))
      (λ d. go c (rw d at m) d (offer_taken q r a t j d))
    where
      still : (x : Option Event) → Taken j r → (p : Posting) × Among p (prints (put (events j) x)) × (p.print ≡ r)
      still None k = k
      still (Some (posted y)) (p, m, e) = (p, ahead m, e)
      still (Some (withdrawal now i)) k = k

      go : (c : Command) → Among q (put (offers j) (quoted c)) → opening j ≡ Some o → (Among q (offers j) → Taken j r) → Taken (j ▹ c) r
      go (Open x) m d k = rw d (still None (k m))
      go (Ask now) m d k = rw d (still None (k m))
      go (Fix now) m d k = rw d (still None (k m))
      go (Withdraw now i) m d k = rw d (still (Some (withdrawal now i)) (k m))
      go (Offer x now) (ahead m) d k = rw d (still (taken (Some o) (Offer x now)) (k m))
      go (Offer x now) here d k = (record { print = r; now = now }, rw (d, t, a) here, refl)
