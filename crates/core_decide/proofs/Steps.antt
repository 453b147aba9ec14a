-- The steps of the decision, over plain numbers: where the tests ahead of a step fail and its own passes, its answer is the decision.
use Rattle.std.specs.Prelude.{Option, None, Some}
use Prim.Native.Nat.{ℕ, ◌≤◌, ◌<◌}
use mathlib.Core.Path.{◌≡◌, refl, sym, ◌∙◌}
use mathlib.Core.Bool.{Bool, true, false, not}
use native.Mathlib.Omega.{arith}
use borrow.Author.Tests.{not-true, lt-ltb, le-ltb, le-leb, lt-leb}
use lib.IntN.{ℤ, pos, ◌+ℤ◌}
use lib.Signed.{lt_z}
use lib.Dec.{ltb}
use mir.Syntax.{w8, w64}
use mir.Val.{SFits, to_z, of_z}
use mir.Facts.{to_z-of_z}
use Rattle.rules.proofs.Bools.{both, and_true}
use Rattle.rules.specs.Log.{size, total}
use Rattle.rules.specs.Bytes.{fits}
use Rattle.rules.specs.Answers.{Method, Answer, Wait, Refused}
use Rattle.rules.specs.Terms.{Terms, slots}
use Rattle.rules.specs.Taking.{Candidates}
use Rattle.rules.specs.Decision.{H, ones, max_z, settle, from, Order, window_first, decide_by}
use Rattle.numbers.specs.Times.{time_of}
use Rattle.numbers.proofs.Times.{over_is, later-fits}
use Rattle.core_decide.specs.Decisions.{chain_first, decide_from}

-- A time and an exponent as the machine hands them on, in bits. They fit, so nothing is lost.
abbrev sent : ℤ → ℤ
sent z = to_z w64 (of_z w64 z)

abbrev sent_8 : ℤ → ℤ
sent_8 z = to_z w8 (of_z w8 z)

pub test : (b : Bool) (x y : ℤ) → SFits w64 x → SFits w64 y → lt_z (sent x) (sent y) ≡ b → lt_z x y ≡ b
test b x y f g h = simp to_z-of_z at h

pub settled : (e : ℤ) → SFits w8 e → (m : Method) (sum count : ℕ) (a : Answer) → a ≡ settle (sent_8 e) m sum count → a ≡ settle e m sum count
settled e f m sum count a q = simp to_z-of_z at q

later_is : (x y T : ℤ) → SFits w64 x → SFits w64 y → T ≡ max_z (sent x) (sent y) → T ≡ max_z x y
later_is x y T f g e = simp to_z-of_z at e

-- by what `after` said of a time x + d
module _ (x : ℤ) (d : ℕ) (f : SFits w64 x) (r : Option ℤ) (said : r ≡ time_of (sent x +ℤ pos d)) where
  pub sum_is : (y : ℤ) → r ≡ Some y → Some y ≡ time_of (x +ℤ pos d)
  sum_is y k = sym k ∙ simp to_z-of_z at said

  pub sum_over : r ≡ None → fits (x +ℤ pos d) ≡ false
  sum_over k = over_is (x +ℤ pos d) (sym k ∙ simp to_z-of_z at said)

module _ (t : Terms) (E : ℤ) (c : Candidates) (now : ℤ) (r : Order) where
  pub expiry-ahead : lt_z now E ≡ true → Wait E ≡ decide_by t E c now r
  unfolding decide_by
  expiry-ahead p = rw p

  module _ (past : lt_z now E ≡ false) where
    pub no_deadline : fits (H t E c now) ≡ false → Refused 0 ≡ decide_by t E c now r
    unfolding decide_by
    no_deadline h = rw (past, h)

    -- n of all the slots filled
    module _ (fit : fits (H t E c now) ≡ true) (n : ℕ) (filled : n ≡ ones c.bits) (all : ℕ) (counted : all ≡ slots t) {a : Answer} where
      pub full : SFits w8 t.exponent → all ≤ n → a ≡ settle (sent_8 t.exponent) Method.Window c.sum n → a ≡ decide_by t E c now r
      unfolding decide_by
      full fe l q = simp (past, fit, ← filled, ← counted, le-leb all n l) (simp to_z-of_z at q)

      module _ (gaps : n < all) (fE : SFits w64 E) (fn : SFits w64 now) where
        pub window : (T : ℤ) → SFits w64 c.window_changed → T ≡ max_z (sent E) (sent c.window_changed) → t.minimum ≤ n
            → a ≡ from (sent now) (sent T +ℤ pos t.delay) (settle t.exponent Method.Window c.sum n)
            → a ≡ decide_by t E c now r
        unfolding decide_by
        window T fc e l q =
            let k = later_is E c.window_changed T fE fc e in
            let fT = later-fits E c.window_changed T k fE fc in
            simp (past, fit, ← filled, ← counted, lt-leb all n gaps, le-leb t.minimum n l, ← k) (simp to_z-of_z at q)

        -- m links
        module _ (few : n < t.minimum) (m : ℕ) (links : m ≡ size c.times) where
          pub next_print : t.k ≤ m → a ≡ from (sent now) (sent E +ℤ pos t.delay) (settle t.exponent Method.NextPrint (total c.prices) m) → a ≡ decide_by t E c now r
          unfolding decide_by
          next_print l q = simp (past, fit, ← filled, ← links, ← counted, lt-leb all n gaps, lt-leb t.minimum n few, le-leb t.k m l) (simp to_z-of_z at q)

          pub partials : m < t.k → a ≡ decide_from 5 t E c (sent now) r → a ≡ decide_by t E c now r
          unfolding decide_by
          partials l q =
              simp (past, fit, ← filled, ← links, ← counted, lt-leb all n gaps, lt-leb t.minimum n few, lt-leb t.k m l)
              (simp (to_z-of_z, ← filled, ← links) at q)

-- where the chain is passed over, and the window is not ahead, there is no link
no_link_lem : (r : Order) (n m : ℕ) → chain_first r n m ≡ false → window_first r n m ≡ false → ltb 0 m ≡ false
no_link_lem r n m over after = rw (after, and_true) at over

-- a window with no more prints than the chain is not ahead, whatever the order
pub behind : (r : Order) (n m : ℕ) → n ≤ m → window_first r n m ≡ false
behind Order.old n m l = refl
behind Order.voted n m l = le-ltb m n l

-- from the hard deadline h on, with n slots filled and m links
module _ (t : Terms) (E : ℤ) (c : Candidates) (now h : ℤ) (r : Order) (deadline : h ≡ H t E c now) where
  pub deadline_ahead : lt_z now h ≡ true → Wait h ≡ decide_from 5 t E c now r
  deadline_ahead p = rw (← deadline, p)

  module _ (past : lt_z now h ≡ false) (fh : SFits w64 h) (fn : SFits w64 now) (m : ℕ) (links : m ≡ size c.times) (n : ℕ) (filled : n ≡ ones c.bits) {a : Answer} where
    pub partial_print : (T : ℤ) → SFits w64 c.link_changed → T ≡ max_z (sent h) (sent c.link_changed) → chain_first r n m ≡ true
        → a ≡ from (sent now) (sent T +ℤ pos t.delay) (settle t.exponent Method.PartialNextPrint (total c.prices) m)
        → a ≡ decide_from 5 t E c now r
    partial_print T fc e l q =
        let k = later_is h c.link_changed T fh fc e in
        let fT = later-fits h c.link_changed T k fh fc in
        let (some, after) = both (ltb 0 m) (not (window_first r n m)) l in
        simp (← deadline, past, ← links, ← filled, not-true (window_first r n m) after, some, ← k) (simp to_z-of_z at q)

    module _ (over : chain_first r n m ≡ false) where
      pub partial_window_lem : (T : ℤ) → SFits w64 c.window_changed → T ≡ max_z (sent h) (sent c.window_changed) → 0 < n
          → a ≡ from (sent now) (sent T +ℤ pos t.delay) (settle t.exponent Method.PartialWindow c.sum n)
          → a ≡ decide_from 5 t E c now r
      partial_window_lem T fc e l q =
          let k = later_is h c.window_changed T fh fc e in
          go (window_first r n m) refl k (later-fits h c.window_changed T k fh fc)
        where
          go : (b : Bool) → window_first r n m ≡ b → T ≡ max_z h c.window_changed → SFits w64 T → a ≡ decide_from 5 t E c now r
          go true w k fT = simp (← deadline, past, ← links, ← filled, w, ← k) (simp to_z-of_z at q)
          go false w k fT = simp (← deadline, past, ← links, ← filled, w, no_link_lem r n m over w, lt-ltb 0 n l, ← k) (simp to_z-of_z at q)

      module _ (empty : n ≤ 0) where
        pub fallback : (T : ℤ) → SFits w64 c.fallback_changed → T ≡ max_z (sent h) (sent c.fallback_changed) → 0 < c.fallback_price
            → a ≡ from (sent now) (sent T +ℤ pos t.delay) (settle t.exponent Method.Fallback c.fallback_price 1)
            → a ≡ decide_from 5 t E c now r
        fallback T fc e l q =
            let k = later_is h c.fallback_changed T fh fc e in
            let fT = later-fits h c.fallback_changed T k fh fc in
            let after = behind r n m (omega (arith, empty)) in
            simp (← deadline, past, ← links, ← filled, after, no_link_lem r n m over after, le-ltb 0 n empty, lt-ltb 0 c.fallback_price l, ← k) (simp to_z-of_z at q)

        pub void : c.fallback_price ≤ 0 → a ≡ from (sent now) (sent h +ℤ pos t.delay) Answer.Void → a ≡ decide_from 5 t E c now r
        void l q =
            let after = behind r n m (omega (arith, empty)) in
            simp (← deadline, past, ← links, ← filled, after, no_link_lem r n m over after, le-ltb 0 n empty, le-ltb 0 c.fallback_price l) (simp to_z-of_z at q)
