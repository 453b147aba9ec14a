-- When two times are the same.
use mathlib.Core.Path.{◌≡◌, refl}
use mathlib.Core.Bool.{Bool, true, false, ◌&&◌}
use native.Mathlib.Omega.{arith}
use lib.IntN.{ℤ}
use lib.Signed.{le_z}
use Rattle.rules.specs.Prints.{eq_z}
use Rattle.rules.proofs.Integers.{same, le_yes, le_refl}

pub eq_eq_z : (a b : ℤ) → a ≡ b → eq_z a b ≡ true
eq_eq_z a b e = rw (e, le_refl b)

pub ne_eq_z : (a b : ℤ) → (a ≡ b → ⊥) → eq_z a b ≡ false
ne_eq_z a b ne = go (le_z a b) (le_z b a) refl refl
  where
    go : (x y : Bool) → le_z a b ≡ x → le_z b a ≡ y → x && y ≡ false
    go true true e f = absurd (ne (same a b (omega (arith, le_yes a b e, le_yes b a f))))
    go true false e f = refl
    go false y e f = refl
