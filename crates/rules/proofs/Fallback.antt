-- One more taken print: the first print with the greatest qualifying pub.
use Rattle.std.specs.Prelude.{if◌then◌else◌, Option, None, Some}
use mathlib.Core.Path.{◌≡◌, refl, sym, ◌∙◌}
use mathlib.Core.Bool.{Bool, true, false, not, ◌&&◌, ◌||◌}
use lib.IntN.{pos}
use lib.Signed.{lt_z, le_z}
use borrow.Author.Tests.{not-true}
use Rattle.rules.proofs.Bools.{both, and_true, and_false, or_true, drop-last}
use Rattle.rules.proofs.Integers.{le_lt_trans, le_trans, lt_le, lt_true, lt_false, le_refl}
use Rattle.rules.proofs.Logs.{all_mono, first_none, first_some, first_ext, first_stronger, or_else_none}
use Rattle.rules.specs.Log.{Log, ε, ◌▹◌, maybe, first, all}
use Rattle.rules.specs.Taking.{is_fallback}
use Rattle.rules.specs.Series.{Opening}
use Rattle.rules.specs.Ledger.{Posting, Event, prints, candidates, qualified, greatest, fallback}

module _ (o : Opening) where
  -- p comes after the best so far
  beats : Option Posting → Posting → Bool
  beats None p = true
  beats (Some q) p = lt_z q.print.published p.print.published

  abbrev pub unqualified : Log Posting → Bool
  unqualified ps = all (λ q. not (qualified o q)) ps

  -- it qualifies, and no print that does is later
  pub bound : (ps : Log Posting) (q : Posting) → fallback o ps ≡ Some q
      → (qualified o q ≡ true) × (all (λ x. not (qualified o x) || le_z x.print.published q.print.published) ps ≡ true)
  unfolding fallback greatest
  bound ps q e = both (qualified o q) (all (λ x. not (qualified o x) || le_z x.print.published q.print.published) ps) (first_some (greatest o ps) ps q e)

  module _ (ps : Log Posting) (p : Posting) where
    -- a print that doesn't qualify changes nothing
    passed : qualified o p ≡ false → fallback o (ps ▹ p) ≡ fallback o ps
    unfolding fallback greatest
    passed q =
        rw (first_ext (greatest o (ps ▹ p)) (greatest o ps) (λ x. rw (q, and_true (all (λ y. not (qualified o y) || le_z y.print.published x.print.published) ps))) ps, q)
        (or_else_none (first (greatest o ps) ps))

    -- none so far: the first that qualifies is it
    begun : qualified o p ≡ true → unqualified ps ≡ true → fallback o (ps ▹ p) ≡ Some p
    unfolding fallback greatest
    begun q u =
        rw (
          first_none (greatest o (ps ▹ p)) ps (all_mono (λ x. not (qualified o x)) (λ x. not (greatest o (ps ▹ p) x)) (λ x n. rw (not-true (qualified o x) n)) ps u),
          q,
          all_mono (λ x. not (qualified o x)) (λ x. not (qualified o x) || le_z x.print.published p.print.published) (λ x n. rw n) ps u,
          le_refl p.print.published,
        )

    module _ (q : Posting) (e : fallback o ps ≡ Some q) where
      -- a later one takes its place
      replaced : qualified o p ≡ true → lt_z q.print.published p.print.published ≡ true → fallback o (ps ▹ p) ≡ Some p
      unfolding fallback greatest
      replaced qp l =
          rw (
            first_none (greatest o (ps ▹ p)) ps (all_mono (λ x. not (qualified o x) || le_z x.print.published q.print.published) (λ x. not (greatest o (ps ▹ p) x)) (λ x n. lower x (qualified o x) refl n) ps (bound ps q e).1),
            qp,
            all_mono (λ x. not (qualified o x) || le_z x.print.published q.print.published) (λ x. not (qualified o x) || le_z x.print.published p.print.published) (λ x n. below x (qualified o x) n) ps (bound ps q e).1,
            le_refl p.print.published,
          )
        where
          lower : (x : Posting) (t : Bool) → qualified o x ≡ t → not t || le_z x.print.published q.print.published ≡ true → not (greatest o (ps ▹ p) x) ≡ true
          lower x true t n = rw (t, qp, lt_true x.print.published p.print.published (le_lt_trans x.print.published q.print.published p.print.published n l), and_false (all (λ y. not (qualified o y) || le_z y.print.published x.print.published) ps))
          lower x false t n = rw t

          below : (x : Posting) (t : Bool) → not t || le_z x.print.published q.print.published ≡ true → not t || le_z x.print.published p.print.published ≡ true
          below x true n = le_trans x.print.published q.print.published p.print.published n (lt_le q.print.published p.print.published l)
          below x false n = refl

      -- one that isn't later doesn't
      kept : lt_z q.print.published p.print.published ≡ false → fallback o (ps ▹ p) ≡ Some q
      unfolding fallback greatest
      kept l =
          rw (first_stronger (greatest o ps) (greatest o (ps ▹ p)) weaker ps q e
          (rw ((bound ps q e).0, (bound ps q e).1, lt_false q.print.published p.print.published l) (or_true (not (qualified o p)))))
        where
          weaker : (x : Posting) → greatest o (ps ▹ p) x ≡ true → greatest o ps x ≡ true
          weaker x g = drop-last (qualified o x) (all (λ y. not (qualified o y) || le_z y.print.published x.print.published) ps) (not (qualified o p) || le_z p.print.published x.print.published) g

  step : (ps : Log Posting) (p : Posting) (b : Option Posting) → fallback o ps ≡ b → (b ≡ None → unqualified ps ≡ true)
      → fallback o (ps ▹ p) ≡ (if qualified o p && beats b p then Some p else b)
  unfolding beats
  step ps p b e u = go (qualified o p) b refl e u
    where
      go : (t : Bool) (b : Option Posting) → qualified o p ≡ t → fallback o ps ≡ b → (b ≡ None → unqualified ps ≡ true)
          → fallback o (ps ▹ p) ≡ (if t && beats b p then Some p else b)
      go false b t e u = passed ps p t ∙ e
      go true None t e u = begun ps p t (u refl)
      go true (Some q) t e u = at (lt_z q.print.published p.print.published) refl
        where
          at : (l : Bool) → lt_z q.print.published p.print.published ≡ l → fallback o (ps ▹ p) ≡ (if l then Some p else Some q)
          at true l = replaced ps p q e t l
          at false l = kept ps p q e l

  pub no_fallback_lem : (ps : Log Posting) → fallback o ps ≡ None → unqualified ps ≡ true
  unfolding beats
  no_fallback_lem ε e = refl
  no_fallback_lem (ps ▹ p) e =
      go (qualified o p) (fallback o ps) refl (no_fallback_lem ps) (sym (step ps p (fallback o ps) refl (no_fallback_lem ps)) ∙ e)
    where
      go : (t : Bool) (b : Option Posting) → fallback o ps ≡ b → (fallback o ps ≡ None → unqualified ps ≡ true)
          → (if t && beats b p then Some p else b) ≡ None → unqualified ps && not t ≡ true
      go true None f r e = cc
      go true (Some q) f r e = at (lt_z q.print.published p.print.published) e
        where
          at : (l : Bool) → (if l then Some p else Some q) ≡ None → unqualified ps && false ≡ true
          at true e = cc
          at false e = cc
      go false None f r e = rw (r f)
      go false (Some q) f r e = cc

  pub fallback_more : (es : Log Event) (p : Posting) → lt_z (pos 0) p.print.published ≡ true
      → fallback o (prints es ▹ p) ≡ (if is_fallback o.terms o.expiry (candidates o es) p.print then Some p else fallback o (prints es))
  unfolding candidates beats
  fallback_more es p h = go (fallback o ps) refl
    where
      ps : Log Posting
      ps = prints es

      go : (b : Option Posting) → fallback o ps ≡ b
          → fallback o (ps ▹ p) ≡ (if qualified o p && lt_z (maybe (pos 0) (λ q. q.print.published) b) p.print.published then Some p else b)
      go None e = rw h (step ps p None e (λ z. no_fallback_lem ps e))
      go (Some q) e = step ps p (Some q) e (λ z. cc)
