-- A feed: at most one of its prints lies over a given time.
use mathlib.Core.Path.{◌≡◌, refl, sym}
use mathlib.Core.Bool.{true, ◌&&◌}
use native.Mathlib.Omega.{arith}
use lib.IntN.{ℤ}
use lib.Signed.{lt_z, le_z}
use Rattle.rules.proofs.Bools.{both}
use Rattle.rules.proofs.Integers.{le_trans, lt_yes, le_yes}
use Rattle.rules.proofs.Logs.{among_split}
use Rattle.rules.specs.Log.{Log, ε, ◌▹◌, Among, here, ahead}
use Rattle.rules.specs.Prints.{Quote}
use Rattle.rules.specs.Feed.{forward, continues, is_feed}

feed_own : (l : Log Quote) (q : Quote) → is_feed (l ▹ q) ≡ true → le_z q.prev q.published ≡ true
feed_own ε q f = f
feed_own (l ▹ p) q f = (both (continues p q) (forward q) (both (is_feed (l ▹ p)) (continues p q && forward q) f).1).1

feed_init : (l : Log Quote) (q : Quote) → is_feed (l ▹ q) ≡ true → is_feed l ≡ true
feed_init ε q f = refl
feed_init (l ▹ p) q f = (both (is_feed (l ▹ p)) (continues p q && forward q) f).0

feed_prev : (l : Log Quote) (p q : Quote) → is_feed (l ▹ p ▹ q) ≡ true → le_z p.published q.prev ≡ true
feed_prev l p q f =
    let same = (both (continues p q) (forward q) (both (is_feed (l ▹ p)) (continues p q && forward q) f).1).0 in
    (both (le_z q.prev p.published) (le_z p.published q.prev) same).1

-- what comes ahead of q was published by q's prev
feed_before : (l : Log Quote) (q x : Quote) → is_feed (l ▹ q) ≡ true → Among x l → le_z x.published q.prev ≡ true
feed_before l q x f h = go x l h q f
  where
    go : (x : Quote) (l : Log Quote) → Among x l → (q : Quote) → is_feed (l ▹ q) ≡ true → le_z x.published q.prev ≡ true
    go x l (here {l = k}) q f = feed_prev k x q f
    go x l (ahead {l = k} {y = p} h) q f =
        let i = feed_init (k ▹ p) q f in
        le_trans x.published p.prev q.prev (go x k h p i) (le_trans p.prev p.published q.prev (feed_own k p i) (feed_prev k p q f))

module _ (b : ℤ) where
  -- prev is before b, and pub is not
  abbrev pub Over : ℤ → ℤ → Type 0
  Over prev published = (lt_z prev b ≡ true) × (le_z b published ≡ true)

  two_over : (l : Log Quote) (q x : Quote) → is_feed (l ▹ q) ≡ true → Among x l → Over x.prev x.published → Over q.prev q.published → ⊥
  two_over l q x f h s t = omega (arith, le_yes x.published q.prev (feed_before l q x f h), le_yes b x.published s.1, lt_yes q.prev b t.0)

  pub one_over : (l : Log Quote) (x y : Quote) → is_feed l ≡ true → Among x l → Among y l → Over x.prev x.published → Over y.prev y.published → x ≡ y
  one_over l x y f g h s t = go x l g f h s
    where
      go : (x : Quote) (l : Log Quote) → Among x l → is_feed l ≡ true → Among y l → Over x.prev x.published → x ≡ y
      go x l (here {l = k}) f h s = among_split (x ≡ y) k x y h (λ e. sym e) (λ h. absurd (two_over k x y f h t s))
      go x l (ahead {l = k} {y = z} g) f h s =
          let r : Among y k → x ≡ y = λ h. go x k g (feed_init k z f) h s in
          among_split (x ≡ y) k z y h (λ e. absurd (two_over k z x f g s (rw e at t))) r
