-- Two's complement, over the width: the rules' numbers and words are the machine's.
use Rattle.std.specs.Prelude.{if◌then◌else◌}
use mathlib.Core.Path.{◌≡◌, refl, ap, ◌∙◌}
use mathlib.Core.Bool.{Bool, true, false}
use Prim.Native.Nat.{ℕ, suc, ◌-◌, ◌^◌, ◌<◌}
use native.Mathlib.Omega.{arith}
use lib.Dec.{T, ltb}
use lib.IntN.{ℤ, pos, negsuc, nat_abs}
use lib.Signed.{mag, non_neg}
use mir.Syntax.{Width, w8, w16, w32, w64, w128}
use mir.Val.{sel, Fits, SFits, bits, hbits, to_z, of_z}
use mir.Facts.{to_z-of_z, Fits-of_lt}
use Rattle.rules.specs.Bytes.{signed, word}

pub signed_is : (w : Width) (n : ℕ) → to_z w n ≡ signed (bits w) n
unfolding signed
signed_is w n = rw (half w) (go (ltb n (2 ^ hbits w)))
  where
    half : (w : Width) → bits w - 1 ≡ hbits w
    half w8 = refl
    half w16 = refl
    half w32 = refl
    half w64 = refl
    half w128 = refl

    go : (b : Bool) → sel b (pos n) (negsuc (2 ^ bits w - suc n)) ≡ (if b then pos n else negsuc (2 ^ bits w - 1 - n))
    go true = refl
    go false = ap negsuc (omega arith)

pub word_is : (w : Width) (z : ℤ) → of_z w z ≡ word (bits w) z
unfolding word
word_is w (pos n) = refl
word_is w (negsuc n) = omega arith

-- a signed number comes back from its bits
pub came : (w : Width) {z y : ℤ} → mag z < 2 ^ hbits w → z ≡ y → to_z w (of_z w z) ≡ y
came w {z} h e = let f : SFits w z = record { sfits = h } in to_z-of_z f ∙ e

pub signed_came : (w : Width) {z : ℤ} {m n : ℕ} → mag z < 2 ^ hbits w → z ≡ to_z w m → m ≡ n → to_z w (of_z w z) ≡ signed (bits w) n
signed_came w {z} {m} {n} h e f = came w h (e ∙ ap (to_z w) f ∙ signed_is w n)

-- what a cast of a number that is not negative to the unsigned type asks
pub cast_ok : (w : Width) (a : ℕ) → to_z w a ≡ pos a → Fits w a → T (non_neg (to_z w a)) × Fits w (nat_abs (to_z w a))
cast_ok w a e f = rw e (tt, f)

abbrev pub ones : Width → ℕ
ones w = 2 ^ bits w - 1

pub fits_not : (w : Width) (a : ℕ) → Fits w a → Fits w (ones w - a)
fits_not w a f = let h : a < 2 ^ bits w = f.fits in Fits-of_lt (omega arith)
