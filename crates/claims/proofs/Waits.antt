-- An open series asked after a list, with other entries between the asks.
use Rattle.std.specs.Prelude.{if◌then◌else◌, Option, None, Some}
use Prim.Native.Nat.{ℕ, suc, ◌<◌, ◌^◌}
use mathlib.Core.Path.{◌≡◌, refl, sym, ap, ◌∙◌}
use mathlib.Core.Bool.{Bool, true, false, not, ◌&&◌, ◌||◌}
use native.Mathlib.Omega.{arith}
use lib.IntN.{ℤ}
use lib.Dec.{leb, eqb}
use borrow.Author.Tests.{lt-ltb, eqb-true, eq-eqb}
use Rattle.rules.proofs.Bools.{both, every_at}
use Rattle.rules.proofs.Integers.{le_refl}
use Rattle.rules.proofs.Bytes.{bytes_are, little-bytes, signed_word, word_below}
use Rattle.rules.proofs.Series.{opening_good, ledger-live}
use Rattle.rules.proofs.Fields.{opening-fits}
use Rattle.rules.proofs.Waits.{Decides, stays, waits, three_waits_lem}
use Rattle.rules.specs.Log.{Log, ε, ◌▹◌, is_some, all}
use Rattle.rules.specs.Bytes.{Bytes, are_bytes, signed, unsigned_at, signed_at, bytes, word, fits}
use Rattle.rules.specs.Answers.{Result, ok, refused, Answer, Opened, Used, Wait, Settle, Done, Refused, is_used, is_refused}
use Rattle.rules.specs.Terms.{slots, good_terms}
use Rattle.rules.specs.Prints.{Print, accept}
use Rattle.rules.specs.Taking.{bit, print_answer}
use Rattle.rules.specs.Series.{Opening, Command, Open, Offer, Ask, Fix, Withdraw, Holdings, Series, empty, live, fixed, no_holdings, keeps, leaves, decided, offer_held, offered, fixing, withdrawn, withdrawing, step, Step, answer_of, changed, answer, after}
use Rattle.rules.specs.Record.{series_count, opening_fields, opening_fits}
use Rattle.rules.specs.Entries.{Entry, no_command, command, entry}
use Rattle.rules.specs.Ledger.{opening, events, holdings, Freeze, freeze, command_to, commands_to, ledgers, is_open, ledger_answer}
use Rattle.claims.specs.Demand3.{answered, ask_of, is_ask, may_stand, ◌▹▹◌, between, Settles}
use Rattle.claims.proofs.Entries.{commands_fit, series_after, ledgers_more}
use Rattle.claims.proofs.Book.{answer_is}

-- ---- the entry of an ask

ask_bytes : (s : ℕ) (t : ℤ) → s < series_count → are_bytes (ask_of s t) ≡ true
unfolding ask_of
ask_bytes s t h = rw (lt-ltb s 256 (omega arith), bytes_are 8 (word 64 t))

ask_time : (s : ℕ) (t : ℤ) → fits t ≡ true → signed_at (ask_of s t) 2 8 ≡ t
unfolding signed_at unsigned_at ask_of bytes
ask_time s t h = ap (signed 64) (little-bytes 8 (word 64 t) (lt-ltb (word 64 t) (2 ^ 64) (word_below 63 t h))) ∙ signed_word 63 t h

ask_series : (s : ℕ) (t : ℤ) → unsigned_at (ask_of s t) 1 1 ≡ s
unfolding unsigned_at ask_of
ask_series s t = omega arith

pub ask_entry : (s : ℕ) (t : ℤ) → s < series_count → fits t ≡ true → entry (ask_of s t) ≡ command s (Ask t)
unfolding entry ask_of bytes
ask_entry s t h f = rw (ask_series s t, lt-ltb s series_count h) (ap (λ (x : ℤ). command s (Ask x)) (ask_time s t f))

-- ---- a refused command, and an ask, leave the series as it was

used_kept : (a : Answer) (next : Series) → is_refused (answer_of (if is_used a then leaves a next else keeps a)) ≡ true
    → changed (if is_used a then leaves a next else keeps a) ≡ None
used_kept (Used s l f) next h = cc
used_kept Opened next h = refl
used_kept (Wait t) next h = refl
used_kept (Settle m p n) next h = refl
used_kept Answer.Void next h = refl
used_kept Done next h = refl
used_kept (Refused r) next h = refl

fixing_kept : (o : Opening) (c : Holdings) (now : ℤ) (a : Answer) → is_refused (answer_of (fixing o c now a)) ≡ true → changed (fixing o c now a) ≡ None
fixing_kept o c now (Settle m p n) h = cc
fixing_kept o c now Answer.Void h = cc
fixing_kept o c now Opened h = refl
fixing_kept o c now (Used s l f) h = refl
fixing_kept o c now (Wait t) h = refl
fixing_kept o c now Done h = refl
fixing_kept o c now (Refused r) h = refl

offered_kept : (o : Opening) (c : Holdings) (now : ℤ) (r : Result Print) → is_refused (answer_of (offered o c now r)) ≡ true → changed (offered o c now r) ≡ None
offered_kept o c now (refused r) h = refl
offered_kept o c now (ok p) h = used_kept (print_answer o.terms o.expiry c.candidates p) (live o (offer_held o c now (ok p))) h

withdrawing_kept : (o : Opening) (c : Holdings) (now : ℤ) (i : ℕ) → is_refused (answer_of (withdrawing o c now i)) ≡ true → changed (withdrawing o c now i) ≡ None
withdrawing_kept o c now i h = go (leb (slots o.terms) i) (not (bit i c.candidates.bits)) h
  where
    step_of : Bool → Bool → Step
    step_of a b = if a then keeps (Refused 40) else if b then keeps (Refused 41) else leaves Done (live o (withdrawn c now i))

    go : (a b : Bool) → is_refused (answer_of (step_of a b)) ≡ true → changed (step_of a b) ≡ None
    go true b h = refl
    go false true h = refl
    go false false h = cc

opened_kept : (b : Bool) (next : Series) → is_refused (answer_of (if b then leaves Opened next else keeps (Refused 12))) ≡ true
    → changed (if b then leaves Opened next else keeps (Refused 12)) ≡ None
opened_kept true next h = cc
opened_kept false next h = refl

pub refused_kept : (s : Series) (c : Command) → is_refused (answer s c) ≡ true → changed (step s c) ≡ None
unfolding step
refused_kept empty (Open o) h = opened_kept (good_terms o.terms) (live o no_holdings) h
refused_kept empty (Offer q now) h = refl
refused_kept empty (Ask now) h = refl
refused_kept empty (Fix now) h = refl
refused_kept empty (Withdraw now i) h = refl
refused_kept (live o c) (Open q) h = refl
refused_kept (live o c) (Offer q now) h = offered_kept o c now (accept o.terms.exponent o.bps q) h
refused_kept (live o c) (Ask now) h = refl
refused_kept (live o c) (Fix now) h = fixing_kept o c now (decided o c.candidates now) h
refused_kept (live o c) (Withdraw now i) h = withdrawing_kept o c now i h
refused_kept (fixed r o c a at) (Open q) h = refl
refused_kept (fixed r o c a at) (Offer q now) h = refl
refused_kept (fixed r o c a at) (Ask now) h = refl
refused_kept (fixed r o c a at) (Fix now) h = refl
refused_kept (fixed r o c a at) (Withdraw now i) h = refl

pub ask_kept : (s : Series) (c : Command) → is_ask c ≡ true → changed (step s c) ≡ None
unfolding step
ask_kept s (Open o) h = cc
ask_kept s (Offer q now) h = cc
ask_kept empty (Ask now) h = refl
ask_kept (live o c) (Ask now) h = refl
ask_kept (fixed r o c a at) (Ask now) h = refl
ask_kept s (Fix now) h = cc
ask_kept s (Withdraw now i) h = cc

-- ---- entries between the asks

-- one that is no command of the series may always stand there
others_stand : (a : Answer) → may_stand None a ≡ true
others_stand a = refl

module _ (s : ℕ) where
  -- one entry that may stand there leaves the ledger of s as it was
  stands_kept : (l : Log Bytes) (e : Bytes) → all are_bytes l ≡ true → are_bytes e ≡ true → may_stand (command_to s (entry e)) (answered l e) ≡ true
      → ledgers (l ▹ e) s ≡ ledgers l s
  stands_kept l e h k m = ap (λ (b : ℕ → Series). b s) (sym (ledgers_more l e h k)) ∙ go (entry e) (rw (answer_is l e h k) at m)
    where
      go : (n : Entry) → may_stand (command_to s n) (ledger_answer (ledgers l) n) ≡ true → series_after (ledgers l) n s ≡ ledgers l s
      go (no_command r) m = refl
      go (command i c) m = at (eqb s i) refl m
        where
          kept : (a b : Bool) → is_ask c ≡ a → is_refused (answer (ledgers l s) c) ≡ b → a || b ≡ true → after (ledgers l s) c ≡ ledgers l s
          kept true b x y z = rw (ask_kept (ledgers l s) c x)
          kept false true x y z = rw (refused_kept (ledgers l s) c y)
          kept false false x y z = cc

          at : (b : Bool) → eqb s i ≡ b → may_stand (if b then Some c else None) (answer (ledgers l i) c) ≡ true
              → (if b then after (ledgers l s) c else ledgers l s) ≡ ledgers l s
          at true e m = kept (is_ask c) (is_refused (answer (ledgers l s) c)) refl refl (rw (eqb-true s i e) m)
          at false e m = refl

  between_kept : (l m : Log Bytes) → all are_bytes l ≡ true → between s l m ≡ true
      → (all are_bytes (l ▹▹ m) ≡ true) × (ledgers (l ▹▹ m) s ≡ ledgers l s)
  between_kept l ε h k = (h, refl)
  between_kept l (m ▹ e) h k =
      let (k₁, k₂) = both (between s l m) (are_bytes e && may_stand (command_to s (entry e)) (answered (l ▹▹ m) e)) k in
      let (b, st) = both (are_bytes e) (may_stand (command_to s (entry e)) (answered (l ▹▹ m) e)) k₂ in
      let (a, r) = between_kept l m h k₁ in
      (rw (a, b), stands_kept (l ▹▹ m) e a b st ∙ r)

  module _ (small : s < series_count) where
    ask_answered : (l : Log Bytes) (o : Opening) (c : Holdings) (t : ℤ) → all are_bytes l ≡ true → ledgers l s ≡ live o c → fits t ≡ true
        → answered l (ask_of s t) ≡ decided o c.candidates t
    unfolding step
    ask_answered l o c t h e f =
        answer_is l (ask_of s t) h (ask_bytes s t small) ∙ ap (ledger_answer (ledgers l)) (ask_entry s t small f) ∙ ap (λ (x : Series). answer x (Ask t)) e

    ask_stands : (l : Log Bytes) (t : ℤ) → all are_bytes l ≡ true → fits t ≡ true → ledgers (l ▹ ask_of s t) s ≡ ledgers l s
    ask_stands l t h f = stands_kept l (ask_of s t) h (ask_bytes s t small) (rw (ask_entry s t small f, eq-eqb s s refl))

    -- what the decision gives, the list gives
    settles : (l : Log Bytes) (o : Opening) (c : Holdings) (n : ℕ) (t : ℤ) → all are_bytes l ≡ true → ledgers l s ≡ live o c → fits t ≡ true
        → Decides (decided o c.candidates) n t → Settles s n l t
    settles l o c n t h e f d = go o c n t d l h e f
      where
        go : (o : Opening) (c : Holdings) (n : ℕ) (t : ℤ) → Decides (decided o c.candidates) n t
            → (l : Log Bytes) → all are_bytes l ≡ true → ledgers l s ≡ live o c → fits t ≡ true → Settles s n l t
        go o c n t (stays a good later) l h e f =
            Settles.stays a good
            (λ m k u fu le. let (b, r) = between_kept l m h k in ask_answered (l ▹▹ m) o c u b (r ∙ e) fu ∙ later u le)
        go o c (suc n) t (waits until fu ahead w d) l h e f =
            Settles.waits until fu (ask_answered l o c t h e f ∙ w t (le_refl t) ahead)
            (λ m k.
            let next = l ▹ ask_of s t in
            let (b, r) = between_kept next m (rw (h, ask_bytes s t small)) k in
            go o c n until d (next ▹▹ m) b (r ∙ ask_stands l t h f ∙ e) fu)

    -- ---- an open series

    pub open_settles : (l : Log Bytes) → all are_bytes l ≡ true → is_open l s ≡ true → (t : ℤ) → fits t ≡ true → Settles s 3 l t
    unfolding opening_fits ledgers
    open_settles l h p t f = go (opening j) (freeze j) refl refl p
      where
        j : Log Command
        j = commands_to s l

        go : (x : Option Opening) (z : Option Freeze) → opening j ≡ x → freeze j ≡ z → is_some x && not (is_some z) ≡ true → Settles s 3 l t
        go None z e y p = let c : ◌≡◌ {A = ℕ} 0 1 = cc in let c : ⊥ = omega arith in absurd c
        go (Some o) (Some z) e y p = let c : ◌≡◌ {A = ℕ} 0 1 = cc in let c : ⊥ = omega arith in absurd c
        go (Some o) None e y p =
            let c = holdings o (events j) in
            let expiry : fits o.expiry ≡ true = every_at (opening_fields o) 10 (opening-fits j o (commands_fit s l h) e) in
            settles l o c 3 t h (ledger-live j o e y) f (three_waits_lem o.terms o.expiry c.candidates (opening_good j o e) expiry t)
