-- One more event: the ledger's holdings are those that the placing rule, or a withdrawal, leaves.
use Rattle.std.specs.Prelude.{if◌then◌else◌, Option, None, Some}
use Prim.Native.Nat.{ℕ, ◌+◌, ◌*◌, ◌-◌, ◌^◌, ◌<◌, ◌≤◌}
use mathlib.Core.Path.{◌≡◌, refl, sym, ap, ◌∙◌, fun_ext}
use mathlib.Core.Bool.{Bool, true, false, not, ◌&&◌, ◌||◌}
use native.Mathlib.Omega.{arith}
use native.Mathlib.Nat.{mul-le-mul_right, suc-mul, one-mul, zero-mul, lt_of_le_of_lt}
use lib.ListN.{get_or, set}
use lib.IntN.{ℤ, pos, ◌+ℤ◌, ◌-ℤ◌}
use lib.Signed.{lt_z, le_z}
use lib.Dec.{ltb, eqb, lit<}
use lib.Arith.{lt_of_le-ne}
use borrow.Author.Tests.{ltb-true, ltb-false, leb-true, lt-ltb, eq-eqb, ne_eqb, eqb-true}
use Rattle.rules.proofs.Bools.{both, or_true, every_at, push}
use Rattle.rules.proofs.Integers.{tests, sum_law, le_yes, lt_yes}
use Rattle.rules.proofs.Sums.{Σ<_ext, Σ<_zero, Σ<-one, Σ<_le, find_ext, find_none, find_some, digit, digit_above}
use Rattle.rules.proofs.Logs.{first-all, list_at, list_set}
use Rattle.rules.proofs.Fallback.{fallback_more}
use Rattle.rules.specs.Log.{Log, ε, ◌▹◌, is_some, maybe, last_at, last, all, map, find, Σ<, list_from, ◌or_else◌}
use Rattle.rules.specs.Answers.{ok}
use Rattle.rules.specs.Terms.{Terms, good_terms, terms_tests, slots}
use Rattle.rules.specs.Prints.{Print}
use Rattle.rules.specs.Taking.{Candidates, canonical_tests, canonical, links, bit, slot_for, is_link, is_fallback, usable, sum_fits, place, vacate, offer_priced}
use Rattle.rules.specs.Series.{Opening, slot_places, no_candidates, no_holdings, offer_held, withdrawn}
use Rattle.rules.specs.Ledger.{Posting, Event, posted, withdrawal, event_now, prints, first_for, after_withdrawal, candidates, price_at, slot_prices, holdings, holder, chain, fallback, moves_window}

-- ---- a print is canonical for one slot at most

pub apart : (E at : ℤ) (w s i j : ℕ) → i < j
    → le_z (E -ℤ pos w +ℤ pos (j * s)) at ≡ true → lt_z at (E -ℤ pos w +ℤ pos (i * s) +ℤ pos s) ≡ true → ⊥
apart E at w s i j l p q =
    omega (
      arith,
      le_yes (E -ℤ pos w +ℤ pos (j * s)) at p,
      lt_yes at (E -ℤ pos w +ℤ pos (i * s) +ℤ pos s) q,
      sum_law (E -ℤ pos w) (pos (j * s)),
      sum_law (E -ℤ pos w) (pos (i * s)),
      sum_law (E -ℤ pos w +ℤ pos (i * s)) (pos s),
      mul-le-mul_right s l,
      suc-mul i s,
    )

canonical_apart : (t : Terms) (E : ℤ) (i j : ℕ) (p : Print) → i < j → canonical t E i p ≡ true → canonical t E j p ≡ true → ⊥
unfolding canonical
canonical_apart t E i j p l ci cj =
    apart E p.published t.window t.slot i j l
    (every_at (canonical_tests t E j p) 0 cj) (every_at (canonical_tests t E i p) 1 ci)

pub canonical-one : (t : Terms) (E : ℤ) (i k : ℕ) (p : Print) → (i ≡ k → ⊥) → canonical t E k p ≡ true → canonical t E i p ≡ false
canonical-one t E i k p ne ck = go (canonical t E i p) (ltb i k) refl refl
  where
    go : (b less : Bool) → canonical t E i p ≡ b → ltb i k ≡ less → b ≡ false
    go false less ci e = refl
    go true true ci e = absurd (canonical_apart t E i k p (ltb-true i k e) ci ck)
    go true false ci e = absurd (canonical_apart t E k i p (lt_of_le-ne (ltb-false i k e) (λ q. ne (sym q))) ck ci)

-- ---- the slots

unfoldable pub held : Option Posting → ℕ
held None = 0
held (Some p) = 1

pub held_small : (h : Option Posting) → held h < 2
unfolding held
held_small None = omega arith
held_small (Some p) = omega arith

pub held_pow : (h : Option Posting) (i : ℕ) → maybe 0 (λ p. 2 ^ i) h ≡ held h * 2 ^ i
unfolding held
held_pow None i = sym (zero-mul (2 ^ i))
held_pow (Some p) i = sym (one-mul (2 ^ i))

held_is : (h : Option Posting) → eqb (held h) 1 ≡ is_some h
unfolding held
held_is None = refl
held_is (Some p) = refl

unchanged : (h : Option Posting) (b : Bool) (p : Posting) → b && not (is_some h) ≡ false → (h or_else (if b then Some p else None)) ≡ h
unchanged (Some x) b p e = refl
unchanged None true p e = cc
unchanged None false p e = refl

vacant : (h : Option Posting) → not (is_some h) ≡ true → h ≡ None
vacant None e = refl
vacant (Some x) e = cc

module _ (o : Opening) (es : Log Event) where
  abbrev N : ℕ
  N = slots o.terms

  abbrev canon : ℕ → Posting → Bool
  canon i p = canonical o.terms o.expiry i p.print

  -- the slots that p is canonical for and that no print ahead of it holds
  open_to : Posting → ℕ → Bool
  open_to p i = canon i p && not (is_some (holder o es i))

  pub candidates-bit : (i : ℕ) → i < N → bit i (candidates o es).bits ≡ is_some (holder o es i)
  unfolding bit candidates
  candidates-bit i l =
      rw (Σ<_ext N _ _ (λ j m. held_pow (holder o es j) j), digit (λ j. held (holder o es j)) (λ j. held_small (holder o es j)) N i l)
      (held_is (holder o es i))

  pub no_bit : (i : ℕ) → N ≤ i → bit i (candidates o es).bits ≡ false
  unfolding bit candidates
  no_bit i l = rw (Σ<_ext N _ _ (λ j m. held_pow (holder o es j) j), digit_above (λ j. held (holder o es j)) (λ j. held_small (holder o es j)) N i l)

  -- the slot that p fills
  slot_for_is : (p : Posting) → slot_for o.terms o.expiry (candidates o es) p.print ≡ find N (open_to p)
  unfolding slot_for open_to
  slot_for_is p = find_ext N _ _ (λ i l. rw (candidates-bit i l))

  -- ---- who holds a slot after one more print

  module _ (p : Posting) where
    abbrev next : ℕ → Option Posting
    next i = holder o (es ▹ posted p) i

    none_filled : find N (open_to p) ≡ None → (i : ℕ) → i < N → next i ≡ holder o es i
    unfolding holder after_withdrawal open_to
    none_filled e i l = unchanged (holder o es i) (canon i p) p (find_none _ _ e i l)

    module _ (k : ℕ) (e : find N (open_to p) ≡ Some k) where
      filled_slot : k < N
      filled_slot = (find_some N (open_to p) k e).0

      was_vacant : holder o es k ≡ None
      unfolding open_to
      was_vacant = vacant (holder o es k) (both (canon k p) (not (is_some (holder o es k))) (find_some N (open_to p) k e).1).1

      is_canonical : canon k p ≡ true
      unfolding open_to
      is_canonical = (both (canon k p) (not (is_some (holder o es k))) (find_some N (open_to p) k e).1).0

      now_filled : next k ≡ Some p
      unfolding holder after_withdrawal
      now_filled = rw (was_vacant, is_canonical)

      others_kept : (i : ℕ) → (i ≡ k → ⊥) → next i ≡ holder o es i
      unfolding holder after_withdrawal
      others_kept i ne = unchanged (holder o es i) (canon i p) p (rw (canonical-one o.terms o.expiry i k p.print ne is_canonical))

    -- what is added up over the slots grows by p's share, if p fills one
    slots_more : (v : ℕ → Posting → ℕ) → Σ< N (λ i. maybe 0 (v i) (next i))
        ≡ maybe (Σ< N (λ i. maybe 0 (v i) (holder o es i))) (λ k. Σ< N (λ i. maybe 0 (v i) (holder o es i)) + v k p) (find N (open_to p))
    slots_more v = go (find N (open_to p)) refl
      where
        S : ℕ
        S = Σ< N (λ i. maybe 0 (v i) (holder o es i))

        go : (f : Option ℕ) → find N (open_to p) ≡ f → Σ< N (λ i. maybe 0 (v i) (next i)) ≡ maybe S (λ k. S + v k p) f
        go None e = Σ<_ext N _ _ (λ i l. ap (maybe 0 (v i)) (none_filled e i l))
        go (Some k) e =
            Σ<-one N k (λ i. maybe 0 (v i) (holder o es i)) (λ i. maybe 0 (v i) (next i)) (filled_slot k e) (rw (was_vacant k e))
            (λ i m ne. ap (maybe 0 (v i)) (others_kept k e i ne))
            ∙ ap (λ x. S + maybe 0 (v k) x) (now_filled k e)

    -- its price stands in the slot that it fills
    prices_more : N ≤ slot_places
        → slot_prices o (es ▹ posted p) ≡ maybe (slot_prices o es) (λ k. set (slot_prices o es) k p.print.price) (find N (open_to p))
    unfolding slot_prices
    prices_more few = go (find N (open_to p)) refl
      where
        at : (i : ℕ) → (i < N → next i ≡ holder o es i) → price_at o (es ▹ posted p) i ≡ price_at o es i
        at i h = choice (ltb i N) refl
          where
            choice : (b : Bool) → ltb i N ≡ b
                → (if b then maybe 0 (λ q. q.print.price) (next i) else 0) ≡ (if b then maybe 0 (λ q. q.print.price) (holder o es i) else 0)
            choice true e = rw (h (ltb-true i N e))
            choice false e = refl

        go : (f : Option ℕ) → find N (open_to p) ≡ f
            → list_from 0 slot_places (price_at o (es ▹ posted p)) ≡ maybe (list_from 0 slot_places (price_at o es)) (λ k. set (list_from 0 slot_places (price_at o es)) k p.print.price) f
        go None e = ap (list_from 0 slot_places) (fun_ext (λ i. at i (none_filled e i)))
        go (Some k) e =
            let l = filled_slot k e in
            list_set slot_places k (price_at o es) (price_at o (es ▹ posted p)) p.print.price (omega arith)
            (rw (lt-ltb k N l, now_filled k e)) (λ i ne. at i (λ _. others_kept k e i ne))

  -- ---- who holds a slot after a withdrawal

  module _ (now : ℤ) (k : ℕ) where
    abbrev freed : ℕ → Option Posting
    freed i = holder o (es ▹ withdrawal now k) i

    freed_is : (i : ℕ) → freed i ≡ (if eqb k i then None else holder o es i)
    unfolding holder after_withdrawal
    freed_is i = go (eqb k i) (holder o es i) refl
      where
        go : (b : Bool) (x : Option Posting) → first_for o i (after_withdrawal o es i) ≡ x
            → first_for o i (if b && is_some x then ε else after_withdrawal o es i) ≡ (if b then None else x)
        go true None e = e
        go true (Some q) e = refl
        go false x e = e

    freed_other : (i : ℕ) → (i ≡ k → ⊥) → freed i ≡ holder o es i
    freed_other i ne = freed_is i ∙ rw (ne_eqb k i (λ e. ne (sym e)))

    freed_same : freed k ≡ None
    freed_same = freed_is k ∙ rw (eq-eqb k k refl)

    -- one that finds the slot empty, or none of that number, changes nothing
    freed_nothing : ltb k N && is_some (holder o es k) ≡ false → (i : ℕ) → i < N → freed i ≡ holder o es i
    freed_nothing h i l = freed_is i ∙ go (eqb k i) refl
      where
        empty : (x : Option Posting) → is_some x ≡ false → None ≡ x
        empty None e = refl
        empty (Some q) e = cc

        go : (b : Bool) → eqb k i ≡ b → (if b then None else holder o es i) ≡ holder o es i
        go true e = let q = eqb-true k i e in empty (holder o es i) (rw (q, lt-ltb i N l) at h)
        go false e = refl

    slots_freed : (v : ℕ → Posting → ℕ) → k < N
        → Σ< N (λ i. maybe 0 (v i) (freed i)) ≡ Σ< N (λ i. maybe 0 (v i) (holder o es i)) - maybe 0 (v k) (holder o es k)
    slots_freed v l =
        let e = Σ<-one N k (λ i. maybe 0 (v i) (freed i)) (λ i. maybe 0 (v i) (holder o es i)) l (rw freed_same) (λ i m ne. ap (maybe 0 (v i)) (sym (freed_other i ne))) in
        omega arith

pub candidates_none : (o : Opening) → candidates o ε ≡ no_candidates
unfolding candidates holder after_withdrawal prints chain fallback
candidates_none o = simp Σ<_zero

pub holdings_none : (o : Opening) → holdings o ε ≡ no_holdings
unfolding slot_prices holder after_withdrawal
holdings_none o = rw (candidates_none o) (ap (λ (f : ℕ → ℕ). record { candidates = no_candidates; slot_prices = list_from 0 slot_places f }) (fun_ext (λ i. go (ltb i (slots o.terms)))))
  where
    go : (b : Bool) → ◌≡◌ {A = ℕ} (if b then 0 else 0) 0
    go true = refl
    go false = refl

-- ---- all of them

same : {c d : Candidates} → c.bits ≡ d.bits → c.sum ≡ d.sum → c.times ≡ d.times → c.prices ≡ d.prices
    → c.fallback_time ≡ d.fallback_time → c.fallback_price ≡ d.fallback_price
    → c.window_changed ≡ d.window_changed → c.link_changed ≡ d.link_changed → c.fallback_changed ≡ d.fallback_changed → c ≡ d
same b s t p ft fp w l f =
    λ i. record {
      bits = b i;
      sum = s i;
      times = t i;
      prices = p i;
      fallback_time = ft i;
      fallback_price = fp i;
      window_changed = w i;
      link_changed = l i;
      fallback_changed = f i;
    }

moved : (f : Option ℕ) (p : Posting) (l : Option Event)
    → maybe (pos 0) event_now (if is_some f then Some (posted p) else l) ≡ maybe (maybe (pos 0) event_now l) (λ i. p.now) f
moved None p l = refl
moved (Some k) p l = refl

pub candidates_more : (o : Opening) (es : Log Event) (p : Posting) → lt_z (pos 0) p.print.published ≡ true
    → candidates o (es ▹ posted p) ≡ place o.terms o.expiry (candidates o es) p.print p.now
unfolding candidates prints chain place open_to
candidates_more o es p h =
    same
    (rw (slot_for_is o es p) (slots_more o es p (λ i q. 2 ^ i)))
    (rw (slot_for_is o es p) (slots_more o es p (λ i q. q.print.price)))
    (push (map (λ q. q.print.published)) linked (chain o ps ▹ p) (chain o ps))
    (push (map (λ q. q.print.price)) linked (chain o ps ▹ p) (chain o ps))
    (ap (maybe (pos 0) (λ q. q.print.published)) (fallback_more o es p h) ∙ push (maybe (pos 0) (λ q. q.print.published)) fell_back (Some p) (fallback o ps))
    (ap (maybe 0 (λ q. q.print.price)) (fallback_more o es p h) ∙ push (maybe 0 (λ q. q.print.price)) fell_back (Some p) (fallback o ps))
    (rw (slot_for_is o es p) (moved (find (slots o.terms) (open_to o es p)) p (last_at (moves_window o) es)))
    (push (λ c. maybe (pos 0) (λ q. q.now) (last c)) linked (chain o ps ▹ p) (chain o ps))
    (ap (maybe (pos 0) (λ q. q.now)) (fallback_more o es p h) ∙ push (maybe (pos 0) (λ q. q.now)) fell_back (Some p) (fallback o ps))
  where
    ps : Log Posting
    ps = prints es

    linked : Bool
    linked = links o.terms o.expiry (map (λ q. q.print.published) (chain o ps)) p.print

    fell_back : Bool
    fell_back = is_fallback o.terms o.expiry (candidates o es) p.print

pub few_slots : (o : Opening) → good_terms o.terms ≡ true → slots o.terms ≤ slot_places
unfolding good_terms
few_slots o g = leb-true (slots o.terms) 32 (every_at (terms_tests o.terms) 3 g)

pub few_links : (o : Opening) → good_terms o.terms ≡ true → o.terms.k ≤ 5
unfolding good_terms
few_links o g = leb-true o.terms.k 5 (every_at (terms_tests o.terms) 8 g)

-- one more print leaves what an offer of it leaves
pub holdings_more : (o : Opening) (es : Log Event) (p : Posting) → good_terms o.terms ≡ true → lt_z (pos 0) p.print.published ≡ true
    → holdings o (es ▹ posted p) ≡ offer_held o (holdings o es) p.now (ok p.print)
holdings_more o es p g h =
    λ i. record { candidates = candidates_more o es p h i; slot_prices = prices i }
  where
    prices : slot_prices o (es ▹ posted p) ≡ offer_priced o.terms o.expiry (candidates o es) (slot_prices o es) (ok p.print)
    prices = rw (slot_for_is o es p) (prices_more o es p (few_slots o g))

-- and so does a withdrawal: a refused one changes nothing, an accepted one frees its slot
module _ (o : Opening) (es : Log Event) (now : ℤ) (k : ℕ) where
  price-here : good_terms o.terms ≡ true → k < slots o.terms → get_or (slot_prices o es) k 0 ≡ maybe 0 (λ q. q.print.price) (holder o es k)
  unfolding slot_prices
  price-here g l = list_at slot_places (price_at o es) k 0 (omega (arith, few_slots o g)) ∙ rw (lt-ltb k (slots o.terms) l)

  pub holdings_kept : ltb k (slots o.terms) && is_some (holder o es k) ≡ false → holdings o (es ▹ withdrawal now k) ≡ holdings o es
  unfolding candidates prints slot_prices
  holdings_kept h =
      λ i. record {
        candidates =
            same {c = candidates o (es ▹ withdrawal now k)} {d = candidates o es}
            (Σ<_ext N' _ _ (λ i l. ap (maybe 0 (λ q. 2 ^ i)) (freed_nothing o es now k h i l)))
            (Σ<_ext N' _ _ (λ i l. ap (maybe 0 (λ q. q.print.price)) (freed_nothing o es now k h i l)))
            refl refl refl refl
            (ap (λ (b : Bool). maybe (pos 0) event_now (if b then Some (withdrawal now k) else last_at (moves_window o) es)) h)
            refl refl
            i;
        slot_prices = prices i;
      }
    where
      N' : ℕ
      N' = slots o.terms

      at : (i : ℕ) (b : Bool) → ltb i N' ≡ b
          → (if b then maybe 0 (λ q. q.print.price) (freed o es now k i) else 0) ≡ (if b then maybe 0 (λ q. q.print.price) (holder o es i) else 0)
      at i true e = rw (freed_nothing o es now k h i (ltb-true i N' e))
      at i false e = refl

      prices : slot_prices o (es ▹ withdrawal now k) ≡ slot_prices o es
      prices = ap (list_from 0 slot_places) (fun_ext (λ i. at i (ltb i N') refl))

  pub holdings_freed : good_terms o.terms ≡ true → ltb k (slots o.terms) && is_some (holder o es k) ≡ true
      → holdings o (es ▹ withdrawal now k) ≡ withdrawn (holdings o es) now k
  unfolding candidates prints withdrawn vacate slot_prices
  holdings_freed g h =
      λ i. record {
        candidates =
            same {c = candidates o (es ▹ withdrawal now k)} {d = vacate (candidates o es) k (get_or (slot_prices o es) k 0) now}
            (slots_freed o es now k (λ i q. 2 ^ i) l ∙ ap (λ (x : ℕ). Σ< N' (λ i. maybe 0 (λ q. 2 ^ i) (holder o es i)) - x) (filled (holder o es k) f))
            (slots_freed o es now k (λ i q. q.print.price) l ∙ ap (λ (x : ℕ). (candidates o es).sum - x) (sym (price-here g l)))
            refl refl refl refl
            (ap (λ (b : Bool). maybe (pos 0) event_now (if b then Some (withdrawal now k) else last_at (moves_window o) es)) h)
            refl refl
            i;
        slot_prices = prices i;
      }
    where
      N' : ℕ
      N' = slots o.terms

      l : k < N'
      l = ltb-true k N' (both (ltb k N') (is_some (holder o es k)) h).0

      f : is_some (holder o es k) ≡ true
      f = (both (ltb k N') (is_some (holder o es k)) h).1

      filled : (x : Option Posting) → is_some x ≡ true → maybe 0 (λ q. 2 ^ k) x ≡ 2 ^ k
      filled None e = cc
      filled (Some q) e = refl

      price-other : (i : ℕ) → (i ≡ k → ⊥) → price_at o (es ▹ withdrawal now k) i ≡ price_at o es i
      price-other i ne = rw (freed_other o es now k i ne)

      zero_there : (b : Bool) → (if b then maybe 0 (λ q. q.print.price) (freed o es now k k) else 0) ≡ 0
      zero_there true = rw (freed_same o es now k)
      zero_there false = refl

      prices : slot_prices o (es ▹ withdrawal now k) ≡ set (slot_prices o es) k 0
      prices =
          list_set slot_places k (price_at o es) (price_at o (es ▹ withdrawal now k)) 0 (omega (arith, l, few_slots o g)) (zero_there (ltb k N')) price-other

pub place_unusable : (t : Terms) (E : ℤ) (c : Candidates) (p : Print) (now : ℤ) → usable t E c p ≡ false → place t E c p now ≡ c
unfolding place
place_unusable t E c p now h = go (slot_for t E c p) (is_link t E c p) (is_fallback t E c p) refl refl refl h
  where
    go : (s : Option ℕ) (l f : Bool) → slot_for t E c p ≡ s → is_link t E c p ≡ l → is_fallback t E c p ≡ f → is_some s || l || f ≡ false → place t E c p now ≡ c
    go None false false s l f e = rw (s, l, f)
    go None false true s l f e = cc
    go None true f _ _ _ e = cc
    go (Some k) l f _ _ _ e = cc

-- ---- the sum fits

-- a price as it comes from an i64
abbrev pub small : Posting → Bool
small p = ltb p.print.price (2 ^ 63)

-- what holds of every taken print, where P says nothing of a withdrawal
abbrev pub of_prints : (Posting → Bool) → Event → Bool
of_prints P (posted p) = P p
of_prints P (withdrawal now i) = true

pub prints-all : (P : Posting → Bool) (es : Log Event) → all (of_prints P) es ≡ true → all P (prints es) ≡ true
unfolding prints
prints-all P ε a = refl
prints-all P (es ▹ posted p) a = let (x, y) = both (all (of_prints P) es) (P p) a in rw (prints-all P es x, y)
prints-all P (es ▹ withdrawal now i) a = prints-all P es (both (all (of_prints P) es) true a).0

pub holder-all : (o : Opening) (P : Posting → Bool) (es : Log Event) (i : ℕ) → all (of_prints P) es ≡ true → maybe true P (holder o es i) ≡ true
unfolding holder after_withdrawal
holder-all o P es i a = first-all (λ p. canonical o.terms o.expiry i p.print) P (after_withdrawal o es i) (after-all es a)
  where
    after-all : (es : Log Event) → all (of_prints P) es ≡ true → all P (after_withdrawal o es i) ≡ true
    after-all ε a = refl
    after-all (es ▹ posted p) a = let (x, y) = both (all (of_prints P) es) (P p) a in rw (after-all es x, y)
    after-all (es ▹ withdrawal now k) a =
        go (eqb k i && is_some (first_for o i (after_withdrawal o es i))) (after-all es (both (all (of_prints P) es) true a).0)
      where
        go : (b : Bool) → all P (after_withdrawal o es i) ≡ true → all P (if b then ε else after_withdrawal o es i) ≡ true
        go true r = refl
        go false r = r

price_small : (h : Option Posting) → maybe true small h ≡ true → maybe 0 (λ q. q.print.price) h ≤ 2 ^ 63
price_small None e = omega arith
price_small (Some q) e = omega tests

-- the prices of 32 such prints don't reach 2^128
pub sum_low : (o : Opening) (es : Log Event) → good_terms o.terms ≡ true → all (of_prints small) es ≡ true → (candidates o es).sum ≤ 32 * 2 ^ 63
unfolding candidates
sum_low o es g a =
    omega (
      tests,
      few_slots o g,
      Σ<_le (slots o.terms) (2 ^ 63) (λ i. maybe 0 (λ q. q.print.price) (holder o es i))
          (λ i l. price_small (holder o es i) (holder-all o small es i a)),
    )

pub sum_fits_lem : (o : Opening) (es : Log Event) (p : Posting) → good_terms o.terms ≡ true → all (of_prints small) es ≡ true → small p ≡ true
    → sum_fits o.terms o.expiry (candidates o es) p.print ≡ true
sum_fits_lem o es p g a h = rw (lt-ltb _ (2 ^ 128) fit) (or_true (not (is_some (slot_for o.terms o.expiry (candidates o es) p.print))))
  where
    low : (candidates o es).sum + p.print.price ≤ 33 * 2 ^ 63
    low = omega (tests, sum_low o es g a)

    fit : (candidates o es).sum + p.print.price < 2 ^ 128
    fit = lt_of_le_of_lt low (lit< tt)
