-- What a check of terms and a state says.
use mathlib.Core.Path.{◌≡◌, refl}
use mathlib.Core.Bool.{Bool, true, false, not}
use Prim.Native.Nat.{ℕ}
use native.Mathlib.Omega.{arith}
use Rattle.std.specs.Prelude.{if◌then◌else◌}
use Rattle.rules.specs.Answers.{ok, refused, Answer, Refused}
use Rattle.rules.specs.Terms.{Terms, good_terms}
use Rattle.rules.specs.State.{Parts, good_state, checked, restore}

by_two : (g h : Bool) {s : Parts} → ok s ≡ (if not g then refused 12 else if not h then refused 11 else ok s) → (g ≡ true) × (h ≡ true)
by_two true true e = (refl, refl)
by_two true false e = let n : ◌≡◌ {A = ℕ} 0 1 = cc in absurd (omega arith)
by_two false h e = let n : ◌≡◌ {A = ℕ} 0 1 = cc in absurd (omega arith)

not_two : (g h : Bool) (s : Parts) (n : ℕ) (a : Answer) → refused n ≡ (if not g then refused 12 else if not h then refused 11 else ok s)
    → Refused n ≡ (if not g then Refused 12 else if not h then Refused 11 else a)
not_two true true s n a e = let n : ◌≡◌ {A = ℕ} 0 1 = cc in absurd (omega arith)
not_two true false s n a e = let f : n ≡ 11 = cc in rw f
not_two false h s n a e = let f : n ≡ 12 = cc in rw f

module _ (t : Terms) (s : Parts) where
  -- one that passed
  pub checks : ok s ≡ restore t s → (good_terms t ≡ true) × (good_state t s ≡ true)
  unfolding restore
  checks e = by_two (good_terms t) (good_state t s) e

  -- its refusal is that of the call
  pub not_checked : (n : ℕ) (a : Answer) → refused n ≡ restore t s → Refused n ≡ checked t s a
  unfolding restore
  not_checked n a e = not_two (good_terms t) (good_state t s) s n a e
