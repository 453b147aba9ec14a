-- #102 of the call `ask`: by its contract it answers `answer_at`, on which a Wait is exact and every other answer stays.
use Prim.Native.Nat.{ℕ}
use mathlib.Core.Path.{◌≡◌}
use lib.IntN.{ℤ}
use Rattle.rules.specs.Bytes.{Bytes}
use Rattle.rules.specs.Answers.{Result, ok, refused, Wait}
use Rattle.rules.specs.Exact.{Exact, ForGood}
use Rattle.rules.specs.Series.{Ask}
use Rattle.rules.specs.Book.{look, stored_answer}
use Rattle.rules.proofs.Asked.{Timed, timed_exact, timed_for_good, refused_always, ask_timed}
use Rattle.record_test.specs.Statuses.{stored_in}
use Rattle.answers.specs.Commands.{answer_at}

module _ (book : Bytes) (s : ℕ) where
  call_timed : Timed (λ at. answer_at book s (Ask at))
  call_timed = go (look book s)
    where
      go : (x : Result Bytes) → Timed (λ at. stored_answer (stored_in x) (Ask at))
      go (ok bytes) = ask_timed bytes
      go (refused r) = refused_always r

  pub call_exact : (now until : ℤ) → answer_at book s (Ask now) ≡ Wait until → Exact (λ at. answer_at book s (Ask at)) now until
  call_exact = timed_exact call_timed

  pub call_for_good : (now : ℤ) → ((until : ℤ) → answer_at book s (Ask now) ≡ Wait until → ⊥) → ForGood (λ at. answer_at book s (Ask at)) now
  call_for_good = timed_for_good call_timed
