-- The slot of a print, by what is known of its times.
use Rattle.std.specs.Prelude.{Option, None, Some}
use Prim.Native.Nat.{ℕ, ◌≤◌, ◌<◌}
use mathlib.Core.Path.{◌≡◌, refl, ap, ◌∙◌}
use borrow.Author.Tests.{lt-ltb, le-ltb}
use lib.IntN.{ℤ, pos, ◌-ℤ◌}
use Rattle.rules.specs.Answers.{ok, refused}
use Rattle.numbers.specs.Times.{time_of, gap_of}
use Rattle.numbers.proofs.Times.{at_is, over_is}
use Rattle.core_uses.specs.Uses.{slot_at, slot_ahead, slot_in}

module _ (E : ℤ) (window slot tolerance bits : ℕ) (published prev : ℤ) where
  pub no_start : None ≡ time_of (E -ℤ pos window) → refused 0 ≡ slot_in E window slot tolerance bits published prev
  unfolding slot_in
  no_start e = rw (over_is (E -ℤ pos window) e)

  module _ (start : ℤ) (told : Some start ≡ time_of (E -ℤ pos window)) where
    pub ahead : (a b : Option ℕ) → a ≡ gap_of start published → b ≡ gap_of prev published
        → ok (slot_ahead window slot tolerance bits a b) ≡ slot_in E window slot tolerance bits published prev
    unfolding slot_in
    ahead a b ea eb =
        let (f, e) = at_is start (E -ℤ pos window) told in
        let ez : a ≡ gap_of (E -ℤ pos window) published = ea ∙ ap (λ (s : ℤ). gap_of s published) e in
        rw f (λ i. ok (slot_ahead window slot tolerance bits (ez i) (eb i)))

    module _ (offset : ℕ) (gap : Some offset ≡ gap_of start published) where
      pub too_late : window ≤ offset → ok None ≡ slot_in E window slot tolerance bits published prev
      too_late h = rw (le-ltb offset window h) at (ahead (Some offset) (gap_of prev published) gap refl)

      pub no_new : offset < window → None ≡ gap_of prev published → ok None ≡ slot_in E window slot tolerance bits published prev
      no_new h e = rw (lt-ltb offset window h) at (ahead (Some offset) None gap e)

      pub at_slot : offset < window → (back : ℕ) → Some back ≡ gap_of prev published → (u : Option ℕ) → u ≡ slot_at slot tolerance bits offset back
          → ok u ≡ slot_in E window slot tolerance bits published prev
      at_slot h back e u s = ap ok s ∙ rw (lt-ltb offset window h) at (ahead (Some offset) (Some back) gap e)
