-- A decision asked at any time, and then only when its Waits say: at most three Waits, each of them exact, and then one answer for good.
use Rattle.std.specs.Prelude.{if◌then◌else◌}
use Prim.Native.Nat.{ℕ, suc, ◌^◌}
use mathlib.Core.Path.{◌≡◌, refl, sym, ap, ◌∙◌}
use mathlib.Core.Bool.{Bool, true, false, ◌||◌}
use native.Mathlib.Omega.{arith}
use lib.IntN.{ℤ, pos, ◌+ℤ◌}
use lib.Signed.{lt_z, le_z}
use lib.Dec.{ltb, leb, eqb}
use Rattle.rules.proofs.Bools.{not_both, every_at}
use Rattle.rules.proofs.Integers.{lt_yes, le_refl, le_trans, lt_le, le_true, lt_false, le_lt_trans, both_le}
use Rattle.rules.specs.Log.{size, total}
use Rattle.rules.specs.Bytes.{fits}
use Rattle.rules.specs.Answers.{ok, refused, Method, Answer, Wait, Refused, settled}
use Rattle.rules.specs.Terms.{Terms, slots, good_terms, terms_tests}
use Rattle.rules.specs.Mean.{rounded, numerator, denominator, mean}
use Rattle.rules.specs.Taking.{Candidates}
use Rattle.rules.specs.Exact.{Exact, ForGood}
use Rattle.rules.specs.Decision.{ones, max_z, settle_at, from, settle, Order, window_first, decide_by, decide}

-- d asked at t gives at most n Waits, asked again when they say, and then an answer that is the same at every later time. A Wait is for a later time, and the same at each time before that.
pub data Decides (d : ℤ → Answer) : ℕ → ℤ → Type 0 where
  stays : {n : ℕ} {t : ℤ} (a : Answer) → settled a ≡ true → ((later : ℤ) → le_z t later ≡ true → d later ≡ a) → Decides d n t
  waits : {n : ℕ} {t : ℤ} (until : ℤ) → fits until ≡ true → lt_z t until ≡ true → ((at : ℤ) → le_z t at ≡ true → lt_z at until ≡ true → d at ≡ Wait until)
      → Decides d n until → Decides d (suc n) t

-- ---- each of these Waits is exact

-- an answer that passes a test which no Wait passes is no Wait
pub no_wait : (P : Answer → Bool) → ((u : ℤ) → P (Wait u) ≡ false) → (a : Answer) → P a ≡ true → (until : ℤ) → a ≡ Wait until → ⊥
no_wait P none a p until e = not_both p (ap P e ∙ none until)

module _ (d : ℤ → Answer) where
  waiting_until : {a b : ℤ} → Wait a ≡ Wait b → a ≡ b
  waiting_until e = cc

  settled_no_wait : (a : Answer) → settled a ≡ true → (until : ℤ) → a ≡ Wait until → ⊥
  settled_no_wait = no_wait settled (λ u. refl)

  -- the time that a Wait names has another answer
  over : (n : ℕ) (until : ℤ) → Decides d n until → d until ≡ Wait until → ⊥
  over n until (stays a s h) e = settled_no_wait a s until (sym (h until (le_refl until)) ∙ e)
  over (suc n) until (waits next f l w more) e =
      let same : next ≡ until = waiting_until (sym (w until (le_refl until) l) ∙ e) in
      omega (arith, lt_yes until until (rw same at l))

  pub exact : (n : ℕ) (now until : ℤ) → Decides d n now → d now ≡ Wait until → Exact d now until
  exact n now until (stays a s h) e = absurd (settled_no_wait a s until (sym (h now (le_refl now)) ∙ e))
  exact (suc n) now until (waits next f l w more) e =
      let same : next ≡ until = waiting_until (sym (w now (le_refl now) l) ∙ e) in
      rw (← same) (record { later = l; in_range = f; same = λ at _ from to. w at from to; other = over n next more })

  -- and an answer that is no Wait stays
  pub for_good : (n : ℕ) (now : ℤ) → Decides d n now → ((until : ℤ) → d now ≡ Wait until → ⊥) → ForGood d now
  for_good n now (stays a s h) none = λ later _ l. h later l ∙ sym (h now (le_refl now))
  for_good (suc n) now (waits next f l w more) none = absurd (none next (w now (le_refl now) l))

-- ---- a delay counts from the later of two times

max_first : (a b : ℤ) → le_z b a ≡ true → max_z a b ≡ a
max_first a b l = rw (le_true b a l)

max_second : (a b : ℤ) → le_z a b ≡ true → max_z a b ≡ b
max_second a b l = go (lt_z a b) refl
  where
    go : (t : Bool) → lt_z a b ≡ t → (if t then b else a) ≡ b
    go true e = refl
    go false e = both_le a b (rw (l, lt_false a b e))

-- ---- the decision

module _ (t : Terms) (E : ℤ) (c : Candidates) (good : good_terms t ≡ true) where
  settle-settled : (m : Method) (s n : ℕ) → settled (settle t.exponent m s n) ≡ true
  unfolding mean good_terms
  settle-settled m s n = rw (every_at (terms_tests t) 12 good) (go (eqb n 0 || leb (2 ^ 64) (rounded (numerator s t.exponent) (denominator n t.exponent))))
    where
      go : (b : Bool) → settled (settle_at m n (if b then refused 0 else ok (rounded (numerator s t.exponent) (denominator n t.exponent)))) ≡ true
      go true = refl
      go false = refl

  -- where the decision is, from now on, the answer a from T on
  from_on : (T : ℤ) (a : Answer) → settled a ≡ true → (now : ℤ) → ((later : ℤ) → le_z now later ≡ true → decide t E c later ≡ from later T a)
      → (n : ℕ) → Decides (decide t E c) (suc n) now
  from_on T a s now h n = go (fits T) (lt_z now T) refl refl
    where
      go : (b w : Bool) → fits T ≡ b → lt_z now T ≡ w → Decides (decide t E c) (suc n) now
      go false w f _ = stays {t = now} (Refused 0) refl (λ later l. h later l ∙ rw f)
      go true true f w =
          waits {t = now} T f w (λ at l u. h at l ∙ rw (f, u))
          (stays {t = T} a s (λ later l. h later (le_trans now T later (lt_le now T w) l) ∙ rw (f, le_true T later l)))
      go true false f w = stays {t = now} a s (λ later l. h later l ∙ rw (f, le_true T later (le_trans T now later (lt_false now T w) l)))

  abbrev H : ℤ
  H = E +ℤ pos t.hard

  abbrev D : ℤ
  D = pos t.delay

  abbrev N : ℕ
  N = ones c.bits

  abbrev M : ℕ
  M = size c.times

  not_before : (b now later : ℤ) → le_z b now ≡ true → le_z now later ≡ true → lt_z later b ≡ false
  not_before b now later l r = le_true b later (le_trans b now later l r)

  -- from H on, with neither a window nor a chain complete
  after-H : fits H ≡ true → leb (slots t) N ≡ false → leb t.minimum N ≡ false → leb t.k M ≡ false
      → (now : ℤ) → le_z E now ≡ true → le_z H now ≡ true → (n : ℕ) → Decides (decide t E c) (suc n) now
  unfolding decide_by
  after-H e₁ e₂ e₃ e₄ now l h n = go (window_first Order.voted N M) (ltb 0 M) (ltb 0 N) (ltb 0 c.fallback_price) refl refl refl refl
    where
      go : (b₅ b₆ b₇ b₈ : Bool) → window_first Order.voted N M ≡ b₅ → ltb 0 M ≡ b₆ → ltb 0 N ≡ b₇ → ltb 0 c.fallback_price ≡ b₈ → Decides (decide t E c) (suc n) now
      go true b₆ b₇ b₈ e₅ e₆ e₇ e₈ =
          from_on (max_z H c.window_changed +ℤ D) (settle t.exponent Method.PartialWindow c.sum N) (settle-settled Method.PartialWindow c.sum N) now
          (λ later r. rw (not_before E now later l r, e₁, e₂, e₃, e₄, not_before H now later h r, e₅)) n
      go false true b₇ b₈ e₅ e₆ e₇ e₈ =
          from_on (max_z H c.link_changed +ℤ D) (settle t.exponent Method.PartialNextPrint (total c.prices) M) (settle-settled Method.PartialNextPrint (total c.prices) M) now
          (λ later r. rw (not_before E now later l r, e₁, e₂, e₃, e₄, not_before H now later h r, e₅, e₆)) n
      go false false true b₈ e₅ e₆ e₇ e₈ =
          from_on (max_z H c.window_changed +ℤ D) (settle t.exponent Method.PartialWindow c.sum N) (settle-settled Method.PartialWindow c.sum N) now
          (λ later r. rw (not_before E now later l r, e₁, e₂, e₃, e₄, not_before H now later h r, e₅, e₆, e₇)) n
      go false false false true e₅ e₆ e₇ e₈ =
          from_on (max_z H c.fallback_changed +ℤ D) (settle t.exponent Method.Fallback c.fallback_price 1) (settle-settled Method.Fallback c.fallback_price 1) now
          (λ later r. rw (not_before E now later l r, e₁, e₂, e₃, e₄, not_before H now later h r, e₅, e₆, e₇, e₈)) n
      go false false false false e₅ e₆ e₇ e₈ =
          from_on (H +ℤ D) Answer.Void refl now (λ later r. rw (not_before E now later l r, e₁, e₂, e₃, e₄, not_before H now later h r, e₅, e₆, e₇, e₈)) n

  -- from E on
  after_E : (now : ℤ) → le_z E now ≡ true → (n : ℕ) → Decides (decide t E c) (suc (suc n)) now
  unfolding decide_by
  after_E now l n = go (fits H) (leb (slots t) N) (leb t.minimum N) (leb t.k M) refl refl refl refl
    where
      go : (b₁ b₂ b₃ b₄ : Bool) → fits H ≡ b₁ → leb (slots t) N ≡ b₂ → leb t.minimum N ≡ b₃ → leb t.k M ≡ b₄
          → Decides (decide t E c) (suc (suc n)) now
      go false b₂ b₃ b₄ e₁ e₂ e₃ e₄ = stays {t = now} (Refused 0) refl (λ later r. rw (not_before E now later l r, e₁))
      go true true b₃ b₄ e₁ e₂ e₃ e₄ =
          stays {t = now} (settle t.exponent Method.Window c.sum N) (settle-settled Method.Window c.sum N) (λ later r. rw (not_before E now later l r, e₁, e₂))
      go true false true b₄ e₁ e₂ e₃ e₄ =
          from_on (max_z E c.window_changed +ℤ D) (settle t.exponent Method.Window c.sum N) (settle-settled Method.Window c.sum N) now
          (λ later r. rw (not_before E now later l r, e₁, e₂, e₃)) (suc n)
      go true false false true e₁ e₂ e₃ e₄ =
          from_on (E +ℤ D) (settle t.exponent Method.NextPrint (total c.prices) M) (settle-settled Method.NextPrint (total c.prices) M) now
          (λ later r. rw (not_before E now later l r, e₁, e₂, e₃, e₄)) (suc n)
      go true false false false e₁ e₂ e₃ e₄ = at (lt_z now H) refl
        where
          at : (b : Bool) → lt_z now H ≡ b → Decides (decide t E c) (suc (suc n)) now
          at true h =
              waits {t = now} H e₁ h (λ at r u. rw (not_before E now at l r, e₁, e₂, e₃, e₄, u))
              (after-H e₁ e₂ e₃ e₄ H (lt_le E H (le_lt_trans E now H l h)) (le_refl H) n)
          at false h = after-H e₁ e₂ e₃ e₄ now l (lt_false now H h) (suc n)

  -- before E it is one Wait more
  pub three_waits_lem : fits E ≡ true → (now : ℤ) → Decides (decide t E c) 3 now
  unfolding decide_by
  three_waits_lem f now = go (lt_z now E) refl
    where
      go : (b : Bool) → lt_z now E ≡ b → Decides (decide t E c) 3 now
      go true e = waits {t = now} E f e (λ at _ u. rw u) (after_E E (le_refl E) 0)
      go false e = after_E now (lt_false now E e) 1
