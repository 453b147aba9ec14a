-- The slot that a print fills, as code finds it: by the one slot in whose time it was published.
use Rattle.std.specs.Prelude.{if◌then◌else◌, Option, None, Some}
use Prim.Native.Nat.{ℕ, ◌+◌, ◌*◌, ◌<◌, ◌≤◌}
use mathlib.Core.Path.{◌≡◌, refl, sym, ap}
use mathlib.Core.Bool.{Bool, true, false, not, ◌&&◌}
use native.Mathlib.Omega.{arith}
use native.Mathlib.Nat.{mul-le-mul_right, suc-mul, div-mul-le_self}
use lib.IntN.{ℤ, pos, ◌+ℤ◌, ◌-ℤ◌}
use lib.Signed.{lt_z, le_z}
use lib.Dec.{ltb, eqb}
use lib.Arith.{lt_of_le-ne}
use borrow.Author.Tests.{ltb-true, ltb-false, eqb-true, eqb-false}
use Rattle.rules.specs.Log.{find}
use Rattle.rules.specs.Terms.{Terms, slots}
use Rattle.rules.specs.Prints.{Print}
use Rattle.rules.specs.Taking.{Candidates, boundary, canonical_tests, canonical, bit, slot_for}
use Rattle.rules.proofs.Bools.{and_false, every_at}
use Rattle.rules.proofs.Integers.{sum_law, difference_law, lt_yes, le_yes, no_lt, no_le}
use Rattle.rules.proofs.Sums.{find_none, find_some}
use Rattle.rules.proofs.Place.{apart}

find_only : (n : ℕ) (P : ℕ → Bool) (k : ℕ) → k < n → ((i : ℕ) → (i ≡ k → ⊥) → P i ≡ false) → find n P ≡ (if P k then Some k else None)
find_only n P k l h = go (find n P) (P k) refl refl
  where
    go : (f : Option ℕ) (b : Bool) → find n P ≡ f → P k ≡ b → f ≡ (if b then Some k else None)
    go None false e p = refl
    go None true e p = let q = find_none n P e k l in cc
    go (Some j) b e p = let (m, q) = find_some n P j e in at (eqb j k) refl b p q
      where
        at : (t : Bool) → eqb j k ≡ t → (b : Bool) → P k ≡ b → P j ≡ true → Some j ≡ (if b then Some k else None)
        at true e true p q = ap Some (eqb-true j k e)
        at true e false p q = let r = ap P (eqb-true j k e) in cc
        at false e b p q = let r = h j (eqb-false j k e) in cc

find_nothing : (n : ℕ) (P : ℕ → Bool) → ((i : ℕ) → i < n → P i ≡ false) → find n P ≡ None
find_nothing n P h = go (find n P) refl
  where
    go : (f : Option ℕ) → find n P ≡ f → f ≡ None
    go None e = refl
    go (Some j) e = let (m, q) = find_some n P j e in let r = h j m in cc

-- before E − window, and from E on, it is in no slot's time
before : (E at : ℤ) (w m : ℕ) → lt_z at (E -ℤ pos w) ≡ true → le_z (E -ℤ pos w +ℤ pos m) at ≡ false
before E at w m h =
    no_le (E -ℤ pos w +ℤ pos m) at (omega (arith, lt_yes at (E -ℤ pos w) h, sum_law (E -ℤ pos w) (pos m)))

past : (E at : ℤ) (w m s : ℕ) → m + s ≤ w → le_z E at ≡ true → lt_z at (E -ℤ pos w +ℤ pos m +ℤ pos s) ≡ false
past E at w m s l h =
    no_lt at (E -ℤ pos w +ℤ pos m +ℤ pos s)
    (omega (arith, le_yes E at h, difference_law E (pos w), sum_law (E -ℤ pos w) (pos m), sum_law (E -ℤ pos w +ℤ pos m) (pos s)))

module _ (t : Terms) (E : ℤ) (c : Candidates) (p : Print) where
  pub slot_before : lt_z p.published (E -ℤ pos t.window) ≡ true → slot_for t E c p ≡ None
  unfolding slot_for canonical
  slot_before h =
      find_nothing (slots t) (λ i. canonical t E i p && not (bit i c.bits))
      (λ i l. rw (before E p.published t.window (i * t.slot) h))

  pub slot_past : le_z E p.published ≡ true → slot_for t E c p ≡ None
  unfolding slot_for canonical
  slot_past h =
      find_nothing (slots t) (λ i. canonical t E i p && not (bit i c.bits))
      (λ i l. rw (past E p.published t.window (i * t.slot) t.slot
      (omega (arith, mul-le-mul_right t.slot l, suc-mul i t.slot, div-mul-le_self t.window t.slot)) h)
      (ap (λ (x : Bool). x && not (bit i c.bits)) (and_false (le_z (boundary t E i) p.published))))

  -- published in the time of slot k, it is canonical for no other
  pub slot_at_lem : (k : ℕ) → k < slots t
      → le_z (boundary t E k) p.published ≡ true → lt_z p.published (boundary t E k +ℤ pos t.slot) ≡ true
      → slot_for t E c p ≡ (if canonical t E k p && not (bit k c.bits) then Some k else None)
  unfolding slot_for canonical
  slot_at_lem k l b a = find_only (slots t) (λ i. canonical t E i p && not (bit i c.bits)) k l (λ i ne. rw (other i ne))
    where
      other : (i : ℕ) → (i ≡ k → ⊥) → canonical t E i p ≡ false
      other i ne = go (canonical t E i p) (ltb i k) refl refl
        where
          go : (x y : Bool) → canonical t E i p ≡ x → ltb i k ≡ y → x ≡ false
          go false y e f = refl
          go true true e f = absurd (apart E p.published t.window t.slot i k (ltb-true i k f) b (every_at (canonical_tests t E i p) 1 e))
          go true false e f =
              absurd (apart E p.published t.window t.slot k i (lt_of_le-ne (ltb-false i k f) (λ q. ne (sym q))) (every_at (canonical_tests t E i p) 0 e) a)
