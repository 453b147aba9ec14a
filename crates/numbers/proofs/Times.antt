-- What the calls on times say, by their answer.
use Rattle.std.specs.Prelude.{if◌then◌else◌, None, Some}
use Prim.Native.Nat.{ℕ, ◌+◌, ◌^◌}
use mathlib.Core.Path.{◌≡◌, refl}
use mathlib.Core.Bool.{Bool, true, false}
use native.Mathlib.Omega.{arith}
use borrow.Author.Tests.{ltb-true}
use lib.IntN.{ℤ, nat_abs, ◌-ℤ◌}
use lib.Signed.{mag, lt_z}
use mir.Syntax.{w64}
use mir.Val.{SFits}
use Rattle.rules.specs.Bytes.{fits}
use Rattle.rules.specs.Decision.{max_z}
use Rattle.rules.proofs.Integers.{up, dn, apart, abs_is, difference_law, lt_no}
use Rattle.numbers.specs.Times.{time_of, gap_of}

at_if : (b : Bool) (x z : ℤ) → Some x ≡ (if b then Some z else None) → (b ≡ true) × (x ≡ z)
at_if true x z e = (refl, cc)
at_if false x z e = let n : ◌≡◌ {A = ℕ} 0 1 = cc in absurd (omega arith)

pub at_is : (x z : ℤ) → Some x ≡ time_of z → (fits z ≡ true) × (x ≡ z)
at_is x z e = at_if (fits z) x z e

pub at_fits : (x z : ℤ) → Some x ≡ time_of z → SFits w64 x
at_fits x z e = let k = at_is x z e in rw k.1 (record { sfits = ltb-true (mag z) (2 ^ 63) k.0 })

over_if : (b : Bool) (z : ℤ) → None ≡ (if b then Some z else None) → b ≡ false
over_if true z e = let n : ◌≡◌ {A = ℕ} 0 1 = cc in absurd (omega arith)
over_if false z e = refl

pub over_is : (z : ℤ) → None ≡ time_of z → fits z ≡ false
over_is z e = over_if (fits z) z e

of_if : (b : Bool) (n m : ℕ) → Some n ≡ (if b then None else Some m) → (b ≡ false) × (n ≡ m)
of_if true n m e = let z : ◌≡◌ {A = ℕ} 0 1 = cc in absurd (omega arith)
of_if false n m e = (refl, cc)

-- a gap, over natural numbers
pub gap_is : (a b : ℤ) (n : ℕ) → Some n ≡ gap_of a b → up b + dn a ≡ n + up a + dn b
gap_is a b n e =
    let f = of_if (lt_z b a) n (nat_abs (b -ℤ a)) e in
    omega (arith, f.1, lt_no b a f.0, difference_law b a, abs_is (b -ℤ a), apart (b -ℤ a))

behind_if : (b : Bool) (n : ℕ) → None ≡ (if b then None else Some n) → b ≡ true
behind_if true n e = refl
behind_if false n e = let z : ◌≡◌ {A = ℕ} 0 1 = cc in absurd (omega arith)

pub behind_is : (a b : ℤ) → None ≡ gap_of a b → lt_z b a ≡ true
behind_is a b e = behind_if (lt_z b a) (nat_abs (b -ℤ a)) e

pub later-fits : (a b r : ℤ) → r ≡ max_z a b → SFits w64 a → SFits w64 b → SFits w64 r
later-fits a b r e f g = rw e (go (lt_z a b))
  where
    go : (t : Bool) → SFits w64 (if t then b else a)
    go true = g
    go false = f
