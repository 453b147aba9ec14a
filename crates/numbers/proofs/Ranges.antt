-- Machine ranges of whole numbers, for omega.
use Prim.Native.Nat.{zero, suc, ◌+◌, ◌≤◌, ◌<◌, ◌^◌}
use mathlib.Core.Path.{◌≡◌, refl, sym, ◌∙◌}
use mathlib.Core.Bool.{true, false}
use native.Mathlib.Omega.{arith}
use lib.IntN.{ℤ, pos, negsuc, nat_abs}
use lib.Signed.{mag, non_neg}
use lib.Dec.{T, ltb, eqb}
use borrow.Author.Tests.{lt-ltb, le-ltb, lt-leb, ne_eqb}
use mir.Syntax.{Width, w64}
use mir.Val.{Fits, SFits, of_z, bits, hbits}
use Rattle.rules.specs.Prints.{eq_z}
use Rattle.rules.proofs.Integers.{up, dn}

-- a range, without the two's being apart: -2 ^ (w - 1) ≤ z < 2 ^ (w - 1)
abbrev pub In : Width → ℤ → Type 0
In w z = (up z < 2 ^ hbits w + dn z) × (dn z ≤ 2 ^ hbits w + up z)

pub in_range_lem : (w : Width) (z : ℤ) → SFits w z → (up z < 2 ^ hbits w) × (dn z ≤ 2 ^ hbits w)
in_range_lem w (pos n) h = omega (arith, h.sfits)
in_range_lem w (negsuc n) h = omega (arith, h.sfits)

mag_in : (w : Width) (z : ℤ) → In w z → mag z < 2 ^ hbits w
mag_in w (pos n) h = omega arith
mag_in w (negsuc n) h = omega arith

pub fits_in : (w : Width) (z : ℤ) → In w z → SFits w z
fits_in w z h = record { sfits = mag_in w z h }

pub in_64 : (z : ℤ) → SFits w64 z → (up z < 2 ^ 63) × (dn z ≤ 2 ^ 63)
in_64 z h = in_range_lem w64 z h

pub fits_64 : (z : ℤ) → In w64 z → SFits w64 z
fits_64 z h = fits_in w64 z h

pub fits_yes : (z : ℤ) → In w64 z → ltb (mag z) (2 ^ 63) ≡ true
fits_yes z h = lt-ltb (mag z) (2 ^ 63) (mag_in w64 z h)

over : (z : ℤ) → 2 ^ 63 + dn z ≤ up z → 2 ^ 63 ≤ mag z
over (pos n) h = omega arith
over (negsuc n) h = absurd (omega arith)

under : (z : ℤ) → 2 ^ 63 + up z < dn z → 2 ^ 63 ≤ mag z
under (pos n) h = absurd (omega arith)
under (negsuc n) h = omega arith

pub over_64 : (z : ℤ) → 2 ^ 63 + dn z ≤ up z → ltb (mag z) (2 ^ 63) ≡ false
over_64 z h = le-ltb (mag z) (2 ^ 63) (over z h)

pub under_64 : (z : ℤ) → 2 ^ 63 + up z < dn z → ltb (mag z) (2 ^ 63) ≡ false
under_64 z h = le-ltb (mag z) (2 ^ 63) (under z h)

-- a cast to an unsigned type
pub cast_in : (w : Width) (z : ℤ) → dn z ≤ up z → up z < 2 ^ bits w → T (non_neg z) × Fits w (nat_abs z)
cast_in w (pos n) h k = (tt, record { fits = k })
cast_in w (negsuc n) h k = absurd (omega arith)

pub cast_64 : (z : ℤ) → dn z ≤ up z → up z < 2 ^ 64 → T (non_neg z) × Fits w64 (nat_abs z)
cast_64 z h k = cast_in w64 z h k

-- an i64 is zero as its bits are
pub zero_64 : (z : ℤ) → SFits w64 z → eqb (of_z w64 z) 0 ≡ eq_z z (pos 0)
zero_64 (pos zero) h = refl
zero_64 (pos (suc n)) h = ne_eqb (suc n) 0 (omega arith) ∙ sym (rw (lt-leb (suc n) 0 (omega arith)))
zero_64 (negsuc n) h = ne_eqb (of_z w64 (negsuc n)) 0 (λ e. omega (arith, in_64 (negsuc n) h))
