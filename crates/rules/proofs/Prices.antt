-- A Settle's price is the mean of the prices that its method takes from the ledger, and samples is how many these are.
use Rattle.std.specs.Prelude.{if◌then◌else◌, Option, None, Some}
use Prim.Native.Nat.{ℕ, zero, suc, ◌+◌, ◌*◌, ◌/◌, ◌%◌, ◌^◌, ◌<◌, ◌≤◌}
use mathlib.Core.Path.{◌≡◌, refl, sym, ◌∙◌}
use mathlib.Core.Bool.{Bool, true, false, not, ◌&&◌}
use native.Mathlib.Omega.{arith}
use lib.IntN.{ℤ}
use lib.Dec.{ltb, leb}
use borrow.Author.Tests.{leb-true}
use Rattle.rules.proofs.Bools.{every_at}
use Rattle.rules.proofs.Logs.{size-map}
use Rattle.rules.proofs.Sums.{Σ<_ext, Σ<_stop, digit, digit_above}
use Rattle.rules.proofs.Place.{held, held_small, held_pow}
use Rattle.rules.proofs.Decision.{decide_each}
use Rattle.rules.proofs.Series.{opening_good}
use Rattle.rules.specs.Log.{Log, ε, maybe, size, put, map, total, Σ<, up_to}
use Rattle.rules.specs.Answers.{Result, ok, refused, Method, number, Answer, Opened, Used, Wait, Settle, Done, Refused, final, is_used}
use Rattle.rules.specs.Terms.{slots, good_terms, terms_tests}
use Rattle.rules.specs.Prints.{Print, accept}
use Rattle.rules.specs.Mean.{mean}
use Rattle.rules.specs.Taking.{Candidates, bit, usable, times_fit, sum_fits, print_answer}
use Rattle.rules.specs.Decision.{Order, ones, settle_at, settle}
use Rattle.rules.specs.Series.{Opening, Command, Open, Offer, Ask, Fix, Withdraw, Holdings, Series, fixed, keeps, leaves, decided, offered, waiting, fixing, withdrawing, step, answer_of, answer}
use Rattle.rules.specs.Ledger.{Posting, Event, prints, opening, holdings, candidates, holder, chain, fallback, prices_for, FairSettle, Freeze, freeze, taken_events, since, ledger}

-- an answer that is no Settle, or a fair one
pub data FairAnswer (o : Opening) (es : Log Event) : Answer → Type 0 where
  opened : FairAnswer o es Opened
  used : {s l : Option ℕ} {f : Bool} → FairAnswer o es (Used s l f)
  wait : {t : ℤ} → FairAnswer o es (Wait t)
  fair : {m : Method} {p n : ℕ} → FairSettle o es m p n → FairAnswer o es (Settle m p n)
  void : FairAnswer o es Answer.Void
  done : FairAnswer o es Done
  refusal : {r : ℕ} → FairAnswer o es (Refused r)

pub fair_is : {o : Opening} {es : Log Event} {m : Method} {p n : ℕ} → FairAnswer o es (Settle m p n) → FairSettle o es m p n
fair_is (fair f) = f

-- ---- sums and counts of the slots

total_up_to : (n : ℕ) (h : ℕ → Option Posting) → total (map (λ p. p.print.price) (up_to n h)) ≡ Σ< n (λ i. maybe 0 (λ p. p.print.price) (h i))
total_up_to zero h = refl
total_up_to (suc n) h = go (h n) (total_up_to n h)
  where
    go : (m : Option Posting) → total (map (λ p. p.print.price) (up_to n h)) ≡ Σ< n (λ i. maybe 0 (λ p. p.print.price) (h i))
        → total (map (λ p. p.print.price) (put (up_to n h) m)) ≡ Σ< n (λ i. maybe 0 (λ p. p.print.price) (h i)) + maybe 0 (λ p. p.print.price) m
    go None r = omega arith
    go (Some p) r = rw r

size_up_to : (n : ℕ) (h : ℕ → Option Posting) → size (map (λ p. p.print.price) (up_to n h)) ≡ Σ< n (λ i. held (h i))
unfolding held
size_up_to zero h = refl
size_up_to (suc n) h = go (h n) (size_up_to n h)
  where
    go : (m : Option Posting) → size (map (λ p. p.print.price) (up_to n h)) ≡ Σ< n (λ i. held (h i))
        → size (map (λ p. p.print.price) (put (up_to n h) m)) ≡ Σ< n (λ i. held (h i)) + held m
    go None r = omega arith
    go (Some p) r = omega arith

module _ (o : Opening) (es : Log Event) (g : good_terms o.terms ≡ true) where
  abbrev slot_prices : Log ℕ
  slot_prices = map (λ p. p.print.price) (up_to (slots o.terms) (holder o es))

  -- the bits of the first m, for m at or above slots
  bits_up_to : (m : ℕ) → slots o.terms ≤ m → Σ< m (λ i. (candidates o es).bits / 2 ^ i % 2) ≡ Σ< (slots o.terms) (λ i. held (holder o es i))
  unfolding candidates
  bits_up_to m l =
      rw (Σ<_ext (slots o.terms) (λ i. maybe 0 (λ p. 2 ^ i) (holder o es i)) (λ i. held (holder o es i) * 2 ^ i) (λ i _. held_pow (holder o es i) i))
      (Σ<_stop (slots o.terms) m (λ i. Σ< (slots o.terms) (λ j. held (holder o es j) * 2 ^ j) / 2 ^ i % 2) l (λ i h. digit_above (λ j. held (holder o es j)) (λ j. held_small (holder o es j)) (slots o.terms) i h)
      ∙ Σ<_ext (slots o.terms) (λ i. Σ< (slots o.terms) (λ j. held (holder o es j) * 2 ^ j) / 2 ^ i % 2) (λ i. held (holder o es i)) (λ i h. digit (λ j. held (holder o es j)) (λ j. held_small (holder o es j)) (slots o.terms) i h))

  ones_is : ones (candidates o es).bits ≡ size slot_prices
  unfolding ones good_terms
  ones_is = bits_up_to 32 (leb-true (slots o.terms) 32 (every_at (terms_tests o.terms) 3 g)) ∙ sym (size_up_to (slots o.terms) (holder o es))

  sum_is : (candidates o es).sum ≡ total slot_prices
  unfolding candidates
  sum_is = sym (total_up_to (slots o.terms) (holder o es))

  links_is : size (candidates o es).times ≡ size (map (λ p. p.print.price) (chain o (prints es)))
  unfolding candidates
  links_is = size-map (λ p. p.print.published) (chain o (prints es)) ∙ sym (size-map (λ p. p.print.price) (chain o (prints es)))

  prices_is : total (candidates o es).prices ≡ total (map (λ p. p.print.price) (chain o (prints es)))
  unfolding candidates
  prices_is = refl

  -- ---- each step of the decision

  settle_fair : (m : Method) (s n : ℕ) → number m < number Method.Void → s ≡ total (prices_for o es m) → n ≡ size (prices_for o es m)
      → FairAnswer o es (settle o.terms.exponent m s n)
  settle_fair m s n h hs hn = go (mean s n o.terms.exponent) refl
    where
      go : (r : Result ℕ) → mean s n o.terms.exponent ≡ r → FairAnswer o es (settle_at m n r)
      go (ok p) e = fair {m = m} {p = p} {n = n} (record { by_price = h; counted = hn; priced = rw (← hs, ← hn) e })
      go (refused r) e = refusal

  fallback_fair : ltb 0 (candidates o es).fallback_price ≡ true
      → FairAnswer o es (settle o.terms.exponent Method.Fallback (candidates o es).fallback_price 1)
  unfolding prices_for candidates
  fallback_fair e = let (s, n) = go (fallback o (prints es)) e in settle_fair Method.Fallback (maybe 0 (λ p. p.print.price) (fallback o (prints es))) 1 (omega arith) s n
    where
      go : (f : Option Posting) → ltb 0 (maybe 0 (λ p. p.print.price) f) ≡ true
          → (maybe 0 (λ p. p.print.price) f ≡ total (map (λ p. p.print.price) (put ε f))) × (1 ≡ size (map (λ p. p.print.price) (put ε f)))
      go None e = (cc, cc)
      go (Some p) e = (omega arith, refl)

  decide_fair : (t : ℤ) → FairAnswer o es (decided o (candidates o es) t)
  unfolding prices_for
  decide_fair t =
      decide_each (FairAnswer o es) o.terms o.expiry c t _ (λ u. wait) refusal void
      (settle_fair Method.Window c.sum _ (omega arith) sum_is ones_is)
      (settle_fair Method.NextPrint (total c.prices) _ (omega arith) prices_is links_is)
      (settle_fair Method.PartialNextPrint (total c.prices) _ (omega arith) prices_is links_is)
      (settle_fair Method.PartialWindow c.sum _ (omega arith) sum_is ones_is)
      (λ e. fallback_fair e)
    where
      c : Candidates
      c = candidates o es

-- ---- every answer on the ledger

module _ (o : Opening) (es : Log Event) where
  waiting_fair : {a : Answer} → FairAnswer o es a → FairAnswer o es (waiting a)
  waiting_fair opened = opened
  waiting_fair used = used
  waiting_fair wait = refusal
  waiting_fair (fair f) = fair f
  waiting_fair void = void
  waiting_fair done = done
  waiting_fair refusal = refusal

  fixing_fair : (h : Holdings) (now : ℤ) (a : Answer) → FairAnswer o es a → FairAnswer o es (answer_of (fixing o h now a))
  fixing_fair h now a f = go (final a)
    where
      go : (b : Bool) → FairAnswer o es (answer_of (if b then leaves a (fixed Order.voted o h a now) else keeps (waiting a)))
      go true = f
      go false = waiting_fair f

  print_fair : (c : Candidates) (p : Print) → FairAnswer o es (print_answer o.terms o.expiry c p)
  unfolding print_answer
  print_fair c p = go (not (times_fit o.terms o.expiry && sum_fits o.terms o.expiry c p)) (not (usable o.terms o.expiry c p)) _ _ _
    where
      go : (a b : Bool) (s l : Option ℕ) (f : Bool) → FairAnswer o es (if a then Refused 0 else if b then Refused 14 else Used s l f)
      go true b s l f = refusal
      go false true s l f = refusal
      go false false s l f = used

  offered_fair : (h : Holdings) (now : ℤ) (r : Result Print) → FairAnswer o es (answer_of (offered o h now r))
  offered_fair h now (refused r) = refusal
  offered_fair h now (ok p) = go (is_used (print_answer o.terms o.expiry h.candidates p)) _
    where
      go : (b : Bool) (s : Series) → FairAnswer o es (answer_of (if b then leaves (print_answer o.terms o.expiry h.candidates p) s else keeps (print_answer o.terms o.expiry h.candidates p)))
      go true s = print_fair h.candidates p
      go false s = print_fair h.candidates p

  withdrawing_fair : (h : Holdings) (now : ℤ) (i : ℕ) → FairAnswer o es (answer_of (withdrawing o h now i))
  withdrawing_fair h now i = go (leb (slots o.terms) i) (not (bit i h.candidates.bits)) _
    where
      go : (a b : Bool) (s : Series) → FairAnswer o es (answer_of (if a then keeps (Refused 40) else if b then keeps (Refused 41) else leaves Done s))
      go true b s = refusal
      go false true s = refusal
      go false false s = done

pub answers_fair : (j : Log Command) (c : Command) (o : Opening) → opening j ≡ Some o → FairAnswer o (taken_events j) (answer (ledger j) c)
unfolding ledger step
answers_fair j c o e = rw e (go (freeze j) c)
  where
    es : Log Event
    es = taken_events j

    decision : (t : ℤ) → FairAnswer o es (decided o (candidates o es) t)
    decision t = decide_fair o es (opening_good j o e) t

    go : (z : Option Freeze) (c : Command) → FairAnswer o es (answer (since o (holdings o es) z) c)
    go None (Open q) = refusal
    go None (Offer q now) = offered_fair o es (holdings o es) now (accept o.terms.exponent o.bps q)
    go None (Ask now) = decision now
    go None (Fix now) = fixing_fair o es (holdings o es) now (decided o (candidates o es) now) (decision now)
    go None (Withdraw now i) = withdrawing_fair o es (holdings o es) now i
    go (Some z) (Open q) = refusal
    go (Some z) (Offer q now) = refusal
    go (Some z) (Ask now) = decision z.now
    go (Some z) (Fix now) = refusal
    go (Some z) (Withdraw now i) = refusal
