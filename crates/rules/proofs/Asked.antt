-- An ask of a record of any bytes: a Wait is exact, and every other answer stays.
use Rattle.std.specs.Prelude.{if◌then◌else◌}
use Prim.Native.Nat.{ℕ}
use mathlib.Core.Path.{◌≡◌, refl, sym, ap, ◌∙◌}
use mathlib.Core.Bool.{Bool, true, false}
use native.Mathlib.Omega.{arith}
use lib.IntN.{ℤ}
use Rattle.rules.proofs.Bools.{every_at}
use Rattle.rules.proofs.Bytes.{signed-fits_8}
use Rattle.rules.proofs.Waits.{Decides, no_wait, exact, for_good, three_waits_lem}
use Rattle.rules.proofs.Record.{outcome_stands}
use Rattle.rules.proofs.Read.{fixed_in, by_tag}
use Rattle.rules.specs.Log.{every}
use Rattle.rules.specs.Bytes.{Bytes}
use Rattle.rules.specs.Answers.{ok, refused, Answer, Wait, Refused, final}
use Rattle.rules.specs.Exact.{Exact, ForGood}
use Rattle.rules.specs.Series.{Ask, Opening, Holdings, empty, live, decided, step, answer}
use Rattle.rules.specs.Record.{opening_in, holdings_in, series_in, body_tests, fixed_tests, acceptable, stored}
use Rattle.rules.specs.Book.{stored_answer}

-- ---- answers over time

-- one answer that is no Wait, at every time, or at most three Waits from any time on
pub data Timed (answers : ℤ → Answer) : Type 0 where
  always : (a : Answer) → ((until : ℤ) → a ≡ Wait until → ⊥) → ((at : ℤ) → answers at ≡ a) → Timed answers
  decides : ((now : ℤ) → Decides answers 3 now) → Timed answers

module _ {answers : ℤ → Answer} where
  pub timed_exact : Timed answers → (now until : ℤ) → answers now ≡ Wait until → Exact answers now until
  timed_exact (always a none h) now until e = absurd (none until (sym (h now) ∙ e))
  timed_exact (decides d) now until e = exact answers 3 now until (d now) e

  pub timed_for_good : Timed answers → (now : ℤ) → ((until : ℤ) → answers now ≡ Wait until → ⊥) → ForGood answers now
  timed_for_good (always a none h) now other = λ later _ _. h later ∙ sym (h now)
  timed_for_good (decides d) now other = for_good answers 3 now (d now) other

pub refused_always : (r : ℕ) → Timed (λ at. Refused r)
refused_always r = always (Refused r) (λ until e. let z : ◌≡◌ {A = ℕ} 0 1 = cc in omega arith) (λ at. refl)

-- ---- a record

module _ (bs : Bytes) where
  live_timed : every (body_tests bs) ≡ true → Timed (λ at. answer (live (opening_in bs) (holdings_in bs)) (Ask at))
  unfolding step opening_in
  live_timed k =
      decides (λ now. three_waits_lem (opening_in bs).terms (opening_in bs).expiry (holdings_in bs).candidates (every_at (body_tests bs) 0 k) (signed-fits_8 bs 40) now)

  fixed_timed : every (fixed_tests bs) ≡ true → Timed (λ at. answer (fixed_in bs) (Ask at))
  unfolding step
  fixed_timed k = always _ (no_wait final (λ u. refl) _ (ap final (outcome_stands bs k) ∙ every_at (fixed_tests bs) 0 k)) (λ at. refl)

  empty_timed : Timed (λ at. answer empty (Ask at))
  unfolding step
  empty_timed = refused_always 37

  pub ask_timed : Timed (λ at. stored_answer (stored bs) (Ask at))
  unfolding stored
  ask_timed = go (acceptable bs) refl
    where
      go : (b : Bool) → acceptable bs ≡ b → Timed (λ at. stored_answer (if b then ok (series_in bs) else refused 11) (Ask at))
      go true a = by_tag bs (λ s. Timed (λ at. answer s (Ask at))) a empty_timed live_timed (λ _ k. fixed_timed k)
      go false a = refused_always 11

  -- the decision on an open one
  pub decision_exact : (o : Opening) (h : Holdings) → stored bs ≡ ok (live o h)
      → (now until : ℤ) → decided o h.candidates now ≡ Wait until → Exact (decided o h.candidates) now until
  unfolding step
  decision_exact o h e = timed_exact (rw e at ask_timed)
