-- Numbers in decimal: the rules' text is the library's, which `itoa` writes.
use Prim.Native.Nat.{ℕ, suc, ◌+◌, ◌^◌, ◌≤◌, ◌<◌}
use mathlib.Core.Path.{◌≡◌, refl, sym}
use mathlib.Core.Bool.{Bool, true, false}
use mathlib.Core.List.{◌∷◌}
use native.Mathlib.Omega.{arith}
use borrow.Author.Tests.{lt-ltb, le-ltb}
use lib.Dec.{T}
use lib.IntN.{ℤ, pos, negsuc, nat_abs, ◌-ℤ◌}
use lib.ListN.{length}
use lib.Signed.{le_z, non_neg}
use mir.Syntax.{w64}
use mir.Val.{Fits, SFits, bool_byte, to_z, of_z}
use Rattle.std.proofs.Common.{unsigned_abs}
use Rattle.std.specs.Fmt as library
use Rattle.std.proofs.lemmas.Fmt.{AppendsLastDigit, decimal_from_appends, length-decimal-le, length-decimal-le_succ}
use mir.Facts.{to_z-of_z}
use Rattle.rules.specs.Lines.{digits, decimal, signed_decimal, flag}
use Rattle.rules.proofs.Integers.{apart, difference_law, le_yes, le_no, abs_is}
use Rattle.numbers.proofs.Ranges.{in_64, fits_64, cast_64}

digits_append : AppendsLastDigit digits
unfolding digits
digits_append = record { one = λ f n h. rw (lt-ltb n 10 h); more = λ f n h. rw (le-ltb n 10 h) }

-- the rules' text of a number is the library's
pub decimal_same : (n : ℕ) → n < 2 ^ 64 → library.decimal n ≡ decimal n
unfolding decimal
decimal_same n h = sym (decimal_from_appends digits digits_append (suc n) n h (omega (arith, length-decimal-le_succ n h)))

-- a u64 has at most 20 digits
pub digits_most : (n : ℕ) → n < 2 ^ 64 → length (library.decimal n) ≤ 20
digits_most n h = length-decimal-le 20 n (omega arith) (omega arith) h

-- a number with its sign
pub no_sign : (z : ℤ) → le_z (pos 0) z ≡ true → signed_decimal z ≡ decimal (unsigned_abs z)
unfolding signed_decimal
no_sign (pos n) h = refl
no_sign (negsuc n) h = absurd (omega (arith, le_yes (pos 0) (negsuc n) h))

pub minus_sign : (z : ℤ) → le_z (pos 0) z ≡ false → signed_decimal z ≡ 45 ∷ decimal (unsigned_abs z)
unfolding signed_decimal
minus_sign (pos n) h = absurd (omega (arith, le_no (pos 0) (pos n) h))
minus_sign (negsuc n) h = refl

pub flag_same : (b : Bool) → flag b ≡ decimal (bool_byte b)
unfolding decimal digits
flag_same false = refl
flag_same true = refl

-- the magnitude of an i64
module _ (z : ℤ) (f : SFits w64 z) where
  not_below : le_z (pos 0) z ≡ true → T (non_neg z) × Fits w64 (nat_abs z)
  not_below h = cast_64 z (omega (arith, le_yes (pos 0) z h)) (omega (arith, in_64 z f))

  module _ (h : le_z (pos 0) z ≡ false) where
    less_one : SFits w64 (negsuc 0 -ℤ z)
    less_one = fits_64 (negsuc 0 -ℤ z) (omega (arith, in_64 z f, le_no (pos 0) z h, difference_law (negsuc 0) z))

    less_one_cast : T (non_neg (negsuc 0 -ℤ z)) × Fits w64 (nat_abs (negsuc 0 -ℤ z))
    less_one_cast = cast_64 (negsuc 0 -ℤ z) (omega (arith, le_no (pos 0) z h, difference_law (negsuc 0) z)) (omega (arith, in_64 (negsuc 0 -ℤ z) less_one))

    one_more : nat_abs (negsuc 0 -ℤ z) + 1 ≡ nat_abs z
    one_more = omega (arith, le_no (pos 0) z h, difference_law (negsuc 0) z, abs_is z, abs_is (negsuc 0 -ℤ z), apart z, apart (negsuc 0 -ℤ z))

    one_more_fits : Fits w64 (nat_abs (negsuc 0 -ℤ z) + 1)
    one_more_fits = record { fits = omega (arith, one_more, in_64 z f, abs_is z) }

-- the same of a number as it is held, in bits: it fits, so nothing is lost
abbrev sent : ℤ → ℤ
sent z = to_z w64 (of_z w64 z)

module _ (z : ℤ) (f : SFits w64 z) where
  module _ (h : le_z (pos 0) (sent z) ≡ true) where
    pub held_cast : T (non_neg (sent z)) × Fits w64 (nat_abs (sent z))
    held_cast = simp to_z-of_z (not_below z f (simp to_z-of_z at h))

  module _ (h : le_z (pos 0) (sent z) ≡ false) where
    below : le_z (pos 0) z ≡ false
    below = simp to_z-of_z at h

    pub held_less : SFits w64 (negsuc 0 -ℤ sent z)
    held_less = simp to_z-of_z (less_one z f below)

    pub held_less_cast : T (non_neg (sent (negsuc 0 -ℤ sent z))) × Fits w64 (nat_abs (sent (negsuc 0 -ℤ sent z)))
    held_less_cast = let g = less_one z f below in simp to_z-of_z (less_one_cast z f below)

    pub held_more : Fits w64 (nat_abs (sent (negsuc 0 -ℤ sent z)) + 1)
    held_more = let g = less_one z f below in simp to_z-of_z (one_more_fits z f below)
