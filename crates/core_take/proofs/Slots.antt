-- The slot that a print fills is the one that a division finds.
use Rattle.std.specs.Prelude.{if◌then◌else◌, Option, None, Some}
use Prim.Native.Nat.{ℕ, ◌+◌, ◌*◌, ◌/◌, ◌%◌, ◌≤◌, ◌<◌}
use mathlib.Core.Path.{◌≡◌, refl, sym, ap, ◌∙◌}
use mathlib.Core.Bool.{Bool, true, false, not, ◌&&◌}
use native.Mathlib.Omega.{arith}
use native.Mathlib.Nat.{div-add-mod', mod-lt, div-lt_iff_lt-mul}
use borrow.Author.Tests.{ltb-true, ltb-false, leb-true, leb-false, eqb-true, lt-ltb}
use lib.Dec.{ltb, leb}
use lib.IntN.{ℤ, pos, ◌+ℤ◌, ◌-ℤ◌}
use lib.Signed.{lt_z, le_z}
use Rattle.rules.specs.Log.{find}
use Rattle.rules.specs.Bytes.{fits}
use Rattle.rules.specs.Answers.{Result, ok, refused}
use Rattle.rules.specs.Terms.{Terms, slots, terms_tests, good_terms}
use Rattle.rules.specs.Prints.{Print}
use Rattle.rules.specs.Taking.{Candidates, boundary, canonical, bit, slot_for}
use Rattle.rules.proofs.Bools.{both, and_true, and_false, every_at}
use Rattle.rules.proofs.Integers.{up, dn, sum_law, difference_law, lt_yes, yes_lt, no_lt, yes_le, no_le}
use Rattle.rules.proofs.Sums.{find_some}
use Rattle.rules.proofs.Slot.{slot_before, slot_past, slot_at_lem}
use Rattle.numbers.specs.Times.{gap_of}
use Rattle.core_uses.specs.Uses.{slot_at, slot_since, slot_ahead, slot_in}
use Rattle.core_take.specs.Placing.{slot_use, fillable}
use Rattle.numbers.proofs.Times.{gap_is, behind_is}

module _ (t : Terms) (E : ℤ) (c : Candidates) (p : Print) (g : good_terms t ≡ true) where
  -- the slot is one of 32, and empty
  pub fills : fillable c.bits (slot_for t E c p) ≡ true
  unfolding fillable slot_for good_terms
  fills = go (find (slots t) free) refl
    where
      free : ℕ → Bool
      free i = canonical t E i p && not (bit i c.bits)

      go : (f : Option ℕ) → find (slots t) free ≡ f → fillable c.bits f ≡ true
      go None e = refl
      go (Some k) e =
          let (l, h) = find_some (slots t) free k e in
          let few = leb-true (slots t) 32 (every_at (terms_tests t) 3 g) in
          rw (lt-ltb k 32 (omega arith)) (both (canonical t E k p) (not (bit k c.bits)) h).1

  abbrev start : ℤ
  start = E -ℤ pos t.window

  has_slot : 0 < t.slot
  unfolding good_terms
  has_slot = ltb-true 0 t.slot (every_at (terms_tests t) 0 g)

  module _ (offset : ℕ) (gap : Some offset ≡ gap_of start p.published) where
    ahead : up p.published + dn start ≡ offset + up start + dn p.published
    ahead = gap_is start p.published offset gap

    too_late : t.window ≤ offset → None ≡ slot_for t E c p
    too_late h = sym (slot_past t E c p (yes_le E p.published (omega (arith, ahead, difference_law E (pos t.window)))))

    module _ (within : offset < t.window) where
      abbrev k : ℕ
      k = offset / t.slot

      abbrev late : ℕ
      late = offset % t.slot

      abbrev b : ℤ
      b = boundary t E k

      has_place : k < slots t
      unfolding good_terms
      has_place =
          let whole = eqb-true (t.window % t.slot) 0 (every_at (terms_tests t) 1 g) in
          (div-lt_iff_lt-mul {x = offset} has_slot).1 (omega (arith, within, div-add-mod' t.window t.slot, whole))

      one_of_32 : offset / t.slot < 32
      unfolding good_terms
      one_of_32 = omega (arith, has_place, leb-true (slots t) 32 (every_at (terms_tests t) 3 g))

      -- the print lies late after the slot's boundary
      lies : up p.published + dn b ≡ late + up b + dn p.published
      lies = omega (arith, ahead, div-add-mod' offset t.slot, sum_law (E -ℤ pos t.window) (pos (offset / t.slot * t.slot)))

      begun : le_z b p.published ≡ true
      begun = yes_le b p.published (omega (arith, lies))

      not_over : lt_z p.published (b +ℤ pos t.slot) ≡ true
      not_over = yes_lt p.published (b +ℤ pos t.slot) (omega (arith, lies, mod-lt offset has_slot, sum_law b (pos t.slot)))

      in_tolerance : le_z (p.published -ℤ b) (pos t.tolerance) ≡ leb late t.tolerance
      in_tolerance = go (leb late t.tolerance) refl
        where
          go : (x : Bool) → leb late t.tolerance ≡ x → le_z (p.published -ℤ b) (pos t.tolerance) ≡ x
          go true e = yes_le (p.published -ℤ b) (pos t.tolerance) (omega (arith, lies, leb-true late t.tolerance e, difference_law p.published b))
          go false e = no_le (p.published -ℤ b) (pos t.tolerance) (omega (arith, lies, leb-false late t.tolerance e, difference_law p.published b))

      -- the slot in whose time the print was published, where it is canonical for it and it is empty
      by_canonical : (x : Bool) → canonical t E k p ≡ x → slot_for t E c p ≡ (if x && not (bit k c.bits) then Some k else None)
      by_canonical x e = slot_at_lem t E c p k has_place begun not_over ∙ rw e

      no_new : None ≡ gap_of p.prev p.published → None ≡ slot_for t E c p
      unfolding canonical
      no_new e = sym (by_canonical false not_canonical)
        where
          old : lt_z p.prev b ≡ false
          old = no_lt p.prev b (omega (arith, lies, lt_yes p.published p.prev (behind_is p.prev p.published e)))

          not_canonical : canonical t E k p ≡ false
          not_canonical = rw (begun, not_over, old) (and_false (le_z (p.published -ℤ b) (pos t.tolerance)))

      at_slot : (back : ℕ) → Some back ≡ gap_of p.prev p.published → slot_at t.slot t.tolerance c.bits offset back ≡ slot_for t E c p
      unfolding slot_at canonical
      at_slot back h = rw (lt-ltb 0 t.slot has_slot, lt-ltb k 32 one_of_32) (sym (by_canonical (leb late t.tolerance && ltb late back) is_canonical))
        where
          new : lt_z p.prev b ≡ ltb late back
          new = go (ltb late back) refl
            where
              go : (x : Bool) → ltb late back ≡ x → lt_z p.prev b ≡ x
              go true e = yes_lt p.prev b (omega (arith, lies, ltb-true late back e, gap_is p.prev p.published back h))
              go false e = no_lt p.prev b (omega (arith, lies, ltb-false late back e, gap_is p.prev p.published back h))

          is_canonical : canonical t E k p ≡ leb late t.tolerance && ltb late back
          is_canonical = rw (begun, not_over, in_tolerance, new) (ap (λ (y : Bool). leb late t.tolerance && y) (and_true (ltb late back)))

  by_gaps : (x y : Option ℕ) → x ≡ gap_of start p.published → y ≡ gap_of p.prev p.published
      → slot_ahead t.window t.slot t.tolerance c.bits x y ≡ slot_for t E c p
  by_gaps None y ex ey = sym (slot_before t E c p (behind_is start p.published ex))
  by_gaps (Some offset) y ex ey = go (ltb offset t.window) refl y ey
    where
      go : (x : Bool) → ltb offset t.window ≡ x → (y : Option ℕ) → y ≡ gap_of p.prev p.published
          → (if x then slot_since t.slot t.tolerance c.bits offset y else None) ≡ slot_for t E c p
      go true e (Some back) ey = at_slot offset ex (ltb-true offset t.window e) back ey
      go true e None ey = no_new offset ex (ltb-true offset t.window e) ey
      go false e y ey = too_late offset ex (ltb-false offset t.window e)

  pub by_division : (r : Result (Option ℕ)) → r ≡ slot_in E t.window t.slot t.tolerance c.bits p.published p.prev → r ≡ slot_use t E c p
  unfolding slot_in slot_use
  by_division r e = e ∙ (λ i. if fits start then ok (by_gaps (gap_of start p.published) (gap_of p.prev p.published) refl refl i) else refused 0)
