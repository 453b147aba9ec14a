-- Every command leaves an acceptable record where it finds one, whatever made that (#111).
use Rattle.std.specs.Prelude.{if◌then◌else◌, Option, Some}
use Prim.Native.Nat.{ℕ}
use mathlib.Core.Path.{◌≡◌, refl, sym, ap, ◌∙◌}
use mathlib.Core.Bool.{Bool, true, false, not, ◌&&◌}
use mathlib.Core.List.{List, [], ◌∷◌}
use native.Mathlib.Omega.{arith}
use lib.IntN.{ℤ}
use lib.Dec.{leb}
use borrow.Author.Tests.{leb-false}
use Rattle.rules.proofs.Bools.{every_at}
use Rattle.rules.proofs.Series.{accept_facts, accept_small, after-ledger}
use Rattle.rules.proofs.Fields.{command_fits, outcome_fits_lem}
use Rattle.rules.proofs.Acceptable.{sound}
use Rattle.rules.proofs.Record.{written-stored, ledger-stored}
use Rattle.rules.proofs.Sound.{opening-fits, candidates_fit_lem, prices_fit_lem, slots_32}
use Rattle.rules.proofs.Offer.{placed_fits, placed_sound}
use Rattle.rules.proofs.Withdraw.{withdrawn-fits, withdrawn_sound}
use Rattle.rules.specs.Log.{ε, ◌▹◌}
use Rattle.rules.specs.Bytes.{fits}
use Rattle.rules.specs.Answers.{Result, ok, refused, Answer, Used, Refused, Done, final, is_used}
use Rattle.rules.specs.Terms.{slots, good_terms}
use Rattle.rules.specs.Prints.{Print, Quote, accept}
use Rattle.rules.specs.Taking.{Candidates, bit, usable, times_fit, sum_fits, print_answer}
use Rattle.rules.specs.Decision.{Order}
use Rattle.rules.specs.Series.{Opening, Command, Open, Offer, Ask, Fix, Withdraw, Holdings, Series, empty, live, fixed, no_holdings, keeps, leaves, decided, offer_held, offered, waiting, fixing, withdrawn, withdrawing, step, changed, after}
use Rattle.rules.specs.Record.{bytes_of, stored, opening_fits, series_fits}
use Rattle.rules.specs.Ledger.{opening, ledger}

-- the record of this series reads back as it
abbrev Reads : Series → Type 0
Reads s = stored (bytes_of s) ≡ ok s

-- ---- an open: a ledger of it alone

none_yet : ledger ε ≡ empty
unfolding ledger opening
none_yet = refl

after_open : (o : Opening) → good_terms o.terms ≡ true → after empty (Open o) ≡ live o no_holdings
unfolding step
after_open o g = rw g

opened : (o : Opening) → good_terms o.terms ≡ true → opening_fits o ≡ true → Reads (live o no_holdings)
opened o g f =
    let same : live o no_holdings ≡ ledger (ε ▹ Open o) =
    sym (after_open o g) ∙ ap (λ (s : Series). after s (Open o)) (sym none_yet) ∙ after-ledger ε refl (Open o) refl in
    rw same (ledger-stored (ε ▹ Open o) f)

-- ---- the others, on an open series

module _ (o : Opening) (h : Holdings) (f : series_fits (live o h) ≡ true) (k : sound (live o h) ≡ true) where
  abbrev c : Candidates
  c = h.candidates

  module _ (q : Quote) (now : ℤ) (fq : command_fits (Offer q now) ≡ true) where
    placed_reads : (p : Print) → accept o.terms.exponent o.bps q ≡ ok p → times_fit o.terms o.expiry ≡ true → sum_fits o.terms o.expiry c p ≡ true
        → Reads (live o (offer_held o h now (ok p)))
    placed_reads p e tf sf =
        let tests : List Bool = fits q.price ∷ fits q.published ∷ fits now ∷ [] in
        let (gp, m) = accept_facts o.terms.exponent o.bps q p e in
        let low = accept_small o.terms.exponent o.bps q p (every_at tests 0 fq) e in
        let time : fits p.published ≡ true = ap (λ (x : Print). fits x.published) (sym m) ∙ every_at tests 1 fq in
        let n = every_at tests 2 fq in
        written-stored (live o (offer_held o h now (ok p))) (placed_fits o h f k p now gp low time n tf sf) (placed_sound o h f k p now gp low time n tf sf) tt

    offer_reads : (next : Series) → changed (offered o h now (accept o.terms.exponent o.bps q)) ≡ Some next → Reads next
    unfolding print_answer
    offer_reads next = at (accept o.terms.exponent o.bps q) refl
      where
        at : (x : Result Print) → accept o.terms.exponent o.bps q ≡ x → changed (offered o h now x) ≡ Some next → Reads next
        at (refused r) e g = cc
        at (ok p) e g = go (times_fit o.terms o.expiry) (sum_fits o.terms o.expiry c p) (not (usable o.terms o.expiry c p)) _ _ _ refl refl g
          where
            there : Series
            there = live o (offer_held o h now (ok p))

            go : (a b d : Bool) (s l : Option ℕ) (w : Bool) → times_fit o.terms o.expiry ≡ a → sum_fits o.terms o.expiry c p ≡ b
                → (let x = if not (a && b) then Refused 0 else if d then Refused 14 else Used s l w in changed (if is_used x then leaves x there else keeps x)) ≡ Some next
                → Reads next
            go false b d s l w _ _ g = cc
            go true false d s l w _ _ g = cc
            go true true true s l w _ _ g = cc
            go true true false s l w tf sf g = let same : there ≡ next = cc in rw (← same) (placed_reads p e tf sf)

  fix_reads : (now : ℤ) → fits now ≡ true → (next : Series) → changed (fixing o h now (decided o c now)) ≡ Some next → Reads next
  fix_reads now fn next = go (final (decided o c now)) refl
    where
      there : Series
      there = fixed Order.voted o h (decided o c now) now

      go : (b : Bool) → final (decided o c now) ≡ b → changed (if b then leaves (decided o c now) there else keeps (waiting (decided o c now))) ≡ Some next → Reads next
      go true e g =
          let same : there ≡ next = cc in
          let fit : series_fits there ≡ true = rw (opening-fits o h f k, candidates_fit_lem o h f k, prices_fit_lem o h f k, outcome_fits_lem Order.voted o c (candidates_fit_lem o h f k) now e, fn) in
          rw (← same) (written-stored there fit (rw (k, e)) refl)
      go false e g = cc

  withdraw_reads : (now : ℤ) (i : ℕ) → fits now ≡ true → (next : Series) → changed (withdrawing o h now i) ≡ Some next → Reads next
  withdraw_reads now i fn next = go (leb (slots o.terms) i) (bit i c.bits) refl refl
    where
      there : Series
      there = live o (withdrawn h now i)

      go : (a b : Bool) → leb (slots o.terms) i ≡ a → bit i c.bits ≡ b
          → changed (if a then keeps (Refused 40) else if not b then keeps (Refused 41) else leaves Done there) ≡ Some next → Reads next
      go true b x y g = cc
      go false false x y g = cc
      go false true x y g =
          let l = leb-false (slots o.terms) i x in
          let m = slots_32 o h f k in
          let same : there ≡ next = cc in
          rw (← same) (written-stored there (withdrawn-fits o h f k now i fn (omega arith) y) (withdrawn_sound o h f k now i fn (omega arith) y) tt)

-- ---- every command, on every series whose record is acceptable

pub step-leaves : (s : Series) (c : Command) → series_fits s ≡ true → sound s ≡ true → command_fits c ≡ true
    → (next : Series) → changed (step s c) ≡ Some next → stored (bytes_of next) ≡ ok next
unfolding step
step-leaves empty (Open o) f k fc next h = go (good_terms o.terms) refl h
  where
    go : (b : Bool) → good_terms o.terms ≡ b → changed (if b then leaves Answer.Opened (live o no_holdings) else keeps (Refused 12)) ≡ Some next → stored (bytes_of next) ≡ ok next
    go true g h = let same : live o no_holdings ≡ next = cc in rw (← same) (opened o g fc)
    go false g h = cc
step-leaves empty (Offer q now) f k fc next h = cc
step-leaves empty (Ask now) f k fc next h = cc
step-leaves empty (Fix now) f k fc next h = cc
step-leaves empty (Withdraw now i) f k fc next h = cc
step-leaves (fixed r o x w at) (Open q) f k fc next h = cc
step-leaves (fixed r o x w at) (Offer q now) f k fc next h = cc
step-leaves (fixed r o x w at) (Ask now) f k fc next h = cc
step-leaves (fixed r o x w at) (Fix now) f k fc next h = cc
step-leaves (fixed r o x w at) (Withdraw now i) f k fc next h = cc
step-leaves (live o x) (Open q) f k fc next h = cc
step-leaves (live o x) (Ask now) f k fc next h = cc
step-leaves (live o x) (Offer q now) f k fc next h = offer_reads o x f k q now fc next h
step-leaves (live o x) (Fix now) f k fc next h = fix_reads o x f k now fc next h
step-leaves (live o x) (Withdraw now i) f k fc next h = withdraw_reads o x f k now i fc next h
