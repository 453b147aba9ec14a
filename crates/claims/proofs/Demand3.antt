-- Demand 3 holds.
use Rattle.std.specs.Prelude.{if◌then◌else◌, Option, None, Some}
use mathlib.Core.Path.{◌≡◌, refl}
use mathlib.Core.Bool.{Bool, true, false}
use Rattle.rules.proofs.Bools.{both}
use Rattle.rules.proofs.Series.{ledger-empty}
use Rattle.rules.proofs.Prices.{FairAnswer, opened, used, wait, fair, void, done, refusal, answers_fair}
use Rattle.rules.specs.Log.{Log, ε, ◌▹◌, all}
use Rattle.rules.specs.Bytes.{Bytes, are_bytes}
use Rattle.rules.specs.Answers.{Answer, Opened, Refused}
use Rattle.rules.specs.Terms.{good_terms}
use Rattle.rules.specs.Series.{Opening, Command, Open, Offer, Ask, Fix, Withdraw, empty, live, no_holdings, keeps, leaves, step, answer_of, answer}
use Rattle.rules.specs.Entries.{Entry, no_command, command, entry}
use Rattle.rules.specs.Ledger.{opening, taken_events, ledger, commands_to, ledgers, ledger_answer}
use Rattle.claims.specs.Demand3 as Claim
use Rattle.claims.specs.Demand3.{answered, Each, FairEntry, Demand3}
use Rattle.claims.proofs.Book.{run_is, answer_is}
use Rattle.claims.proofs.Waits.{open_settles}

-- what holds after every list of bytes holds of each entry of a list
each : (P : Log Bytes → Bytes → Type 0) → ((l : Log Bytes) (e : Bytes) → all are_bytes l ≡ true → are_bytes e ≡ true → P l e)
    → (l : Log Bytes) → all are_bytes l ≡ true → Each P l
each P f ε h = tt
each P f (l ▹ e) h = let (a, b) = both (all are_bytes l) (are_bytes e) h in (each P f l a, f l e a b)

-- ---- prices

-- an empty series gives no price
empty_fair : (j : Log Command) (c : Command) → Claim.FairAnswer j (answer empty c)
unfolding step
empty_fair j (Open o) = go (good_terms o.terms)
  where
    go : (b : Bool) → Claim.FairAnswer j (answer_of (if b then leaves Opened (live o no_holdings) else keeps (Refused 12)))
    go true = tt
    go false = tt
empty_fair j (Offer q now) = tt
empty_fair j (Ask now) = tt
empty_fair j (Fix now) = tt
empty_fair j (Withdraw now i) = tt

opened_fair : (j : Log Command) (o : Opening) → opening j ≡ Some o → {a : Answer} → FairAnswer o (taken_events j) a → Claim.FairAnswer j a
opened_fair j o e opened = tt
opened_fair j o e used = tt
opened_fair j o e wait = tt
opened_fair j o e (fair f) = record { opened = o; is_opening = e; settle = f }
opened_fair j o e void = tt
opened_fair j o e done = tt
opened_fair j o e refusal = tt

command_fair : (j : Log Command) (c : Command) → Claim.FairAnswer j (answer (ledger j) c)
command_fair j c = go (opening j) refl
  where
    go : (x : Option Opening) → opening j ≡ x → Claim.FairAnswer j (answer (ledger j) c)
    go None e = rw (ledger-empty j e) (empty_fair j c)
    go (Some o) e = opened_fair j o e (answers_fair j c o e)

entry_fair : (l : Log Bytes) (e : Bytes) → all are_bytes l ≡ true → are_bytes e ≡ true → FairEntry l (entry e) (answered l e)
unfolding ledgers
entry_fair l e a b = rw (answer_is l e a b) (go (entry e))
  where
    go : (n : Entry) → FairEntry l n (ledger_answer (ledgers l) n)
    go (no_command r) = refl
    go (command s c) = command_fair (commands_to s l) c

-- ---- the claim

pub demand3 : (l : Log Bytes) → all are_bytes l ≡ true → Demand3 l
demand3 l h =
    record {
      book = run_is l h;
      answers = each (λ before e. answered before e ≡ ledger_answer (ledgers before) (entry e)) answer_is l h;
      prices = each (λ before e. FairEntry before (entry e) (answered before e)) entry_fair l h;
      three_waits = λ s small p t f. open_settles s small l h p t f;
    }
