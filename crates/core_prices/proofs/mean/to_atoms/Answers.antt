use Prim.Native.Nat.{ℕ, ◌*◌, ◌≤◌, ◌^◌}
use mathlib.Core.Path.{◌≡◌, refl, ap, ◌∙◌}
use mathlib.Core.Bool.{true, false}
use native.Mathlib.Omega.{arith}
use borrow.Author.Tests.{eq-eqb, ne_eqb}
use lib.Dec.{T}
use lib.IntN.{ℤ, pos, negsuc, nat_abs, ◌+ℤ◌, ◌-ℤ◌}
use lib.Signed.{lt_z, non_neg}
use mir.Syntax.{w8}
use mir.Val.{Fits, SFits}
use mir.Facts.{to_z-of_z}
use Rattle.rules.proofs.Integers.{up, dn, apart, sum_law, difference_law, lt_yes, lt_no, lt_true, lt_false, abs_is}
use Rattle.numbers.proofs.Ranges.{in_range_lem, fits_in, cast_in}
use Rattle.rules.specs.Mean.{above, below, rounded, mean}
use Rattle.core_prices.specs.Prices.{priced}
use Rattle.core_prices.proofs.mean.to_atoms.Goals as goal
use Rattle.core_prices.proofs.mean.to_atoms.Goals.{Else-expo-ltminus6, Then-expo-ltminus6}

-- the exponent's two ways, over integers
module _ (e : ℤ) (low : lt_z e (negsuc 11) ≡ false) (high : lt_z (pos 0) e ≡ false) where
  module _ (below : lt_z e (negsuc 5) ≡ true) where
    down_fits : SFits w8 (negsuc 5 -ℤ e)
    down_fits = fits_in w8 _ (omega (arith, lt_no e (negsuc 11) low, lt_yes e (negsuc 5) below, difference_law (negsuc 5) e))

    down_cast : T (non_neg (negsuc 5 -ℤ e)) × Fits w8 (nat_abs (negsuc 5 -ℤ e))
    down_cast = cast_in w8 (negsuc 5 -ℤ e) (omega (arith, lt_yes e (negsuc 5) below, difference_law (negsuc 5) e)) (omega (arith, in_range_lem w8 (negsuc 5 -ℤ e) down_fits))

    down_is : nat_abs (negsuc 5 -ℤ e) ≡ dn (pos 6 +ℤ e)
    down_is = omega (arith, lt_yes e (negsuc 5) below, difference_law (negsuc 5) e, sum_law (pos 6) e, abs_is (negsuc 5 -ℤ e), apart (negsuc 5 -ℤ e), apart (pos 6 +ℤ e), apart e)

    up_none : up (pos 6 +ℤ e) ≡ 0
    up_none = omega (arith, lt_yes e (negsuc 5) below, sum_law (pos 6) e, apart (pos 6 +ℤ e), apart e)

    down_small : nat_abs (negsuc 5 -ℤ e) ≤ 6
    down_small = omega (arith, lt_no e (negsuc 11) low, lt_yes e (negsuc 5) below, difference_law (negsuc 5) e, abs_is (negsuc 5 -ℤ e), apart (negsuc 5 -ℤ e), apart e)

  module _ (above : lt_z e (negsuc 5) ≡ false) where
    up_fits : SFits w8 (e +ℤ pos 6)
    up_fits = fits_in w8 _ (omega (arith, lt_no (pos 0) e high, lt_no e (negsuc 5) above, sum_law e (pos 6)))

    up_cast : T (non_neg (e +ℤ pos 6)) × Fits w8 (nat_abs (e +ℤ pos 6))
    up_cast = cast_in w8 (e +ℤ pos 6) (omega (arith, lt_no e (negsuc 5) above, sum_law e (pos 6))) (omega (arith, in_range_lem w8 (e +ℤ pos 6) up_fits))

    up_is : nat_abs (e +ℤ pos 6) ≡ up (pos 6 +ℤ e)
    up_is = omega (arith, lt_no e (negsuc 5) above, sum_law e (pos 6), sum_law (pos 6) e, abs_is (e +ℤ pos 6), apart (e +ℤ pos 6), apart (pos 6 +ℤ e), apart e)

    down_none : dn (pos 6 +ℤ e) ≡ 0
    down_none = omega (arith, lt_no e (negsuc 5) above, sum_law (pos 6) e, apart (pos 6 +ℤ e), apart e)

    up_small : nat_abs (e +ℤ pos 6) ≤ 6
    up_small = omega (arith, lt_no (pos 0) e high, lt_no e (negsuc 5) above, sum_law e (pos 6), abs_is (e +ℤ pos 6), apart (e +ℤ pos 6), apart e)

-- what is known past the four tests
module _ (c : Then-expo-ltminus6) where
  abbrev e4 : ℤ
  e4 = c.args.expo

  f4 : SFits w8 e4
  f4 = c.ranges.expo

  l4 : lt_z e4 (negsuc 11) ≡ false
  l4 = let f = c.ranges.expo in simp to_z-of_z at c.if-expo-lt-MIN_EXPO.false

  h4 : lt_z (pos 0) e4 ≡ false
  h4 = let f = c.ranges.expo in simp to_z-of_z at c.if-expo-gt-MAX_EXPO.false

  b4 : lt_z e4 (negsuc 5) ≡ true
  b4 = let f = c.ranges.expo in simp to_z-of_z at c.if-expo-ltminus6.true

power_up : (z : ℤ) → 10 ^ up z ≡ above z
power_up (pos n) = refl
power_up (negsuc n) = refl

power_down : (z : ℤ) → 10 ^ dn z ≡ below z
power_down (pos n) = refl
power_down (negsuc n) = refl

-- the answer, once the exponent and the count are good
good : (e : ℤ) (sum count : ℕ) → lt_z e (negsuc 11) ≡ false → lt_z (pos 0) e ≡ false → (count ≡ 0 → ⊥)
    → (u d : ℕ) → u ≡ 10 ^ up (pos 6 +ℤ e) → d ≡ 10 ^ dn (pos 6 +ℤ e) → priced (rounded (sum * u) (count * d)) ≡ mean sum count e
unfolding mean
good e sum count l h n u d p q =
    rw (
      lt_false e (negsuc 11) l,
      lt_false (pos 0) e h,
      ne_eqb count 0 n,
      p ∙ power_up (pos 6 +ℤ e),
      q ∙ power_down (pos 6 +ℤ e),
    )

module _ (c : Else-expo-ltminus6) where
  abbrev e5 : ℤ
  e5 = c.args.expo

  l5 : lt_z e5 (negsuc 11) ≡ false
  l5 = let f = c.ranges.expo in simp to_z-of_z at c.if-expo-lt-MIN_EXPO.false

  h5 : lt_z (pos 0) e5 ≡ false
  h5 = let f = c.ranges.expo in simp to_z-of_z at c.if-expo-gt-MAX_EXPO.false

  b5 : lt_z e5 (negsuc 5) ≡ false
  b5 = let f = c.ranges.expo in simp to_z-of_z at c.if-expo-ltminus6.false

pub returns-then-expo-lt-MIN_EXPO : goal.returns-then-expo-lt-MIN_EXPO
unfolding mean
returns-then-expo-lt-MIN_EXPO c =
    let f = c.ranges.expo in
    let g1 = simp to_z-of_z at c.if-expo-lt-MIN_EXPO.true in
    simp (lt_true c.args.expo (negsuc 11) g1)

pub returns-then-expo-gt-MAX_EXPO : goal.returns-then-expo-gt-MAX_EXPO
unfolding mean
returns-then-expo-gt-MAX_EXPO c =
    let f = c.ranges.expo in
    let g1 = simp to_z-of_z at c.if-expo-lt-MIN_EXPO.false in
    let g2 = simp to_z-of_z at c.if-expo-gt-MAX_EXPO.true in
    let e = c.args.expo in
    simp (lt_false e (negsuc 11) g1, lt_true (pos 0) e g2)

pub returns-then-count-eq0 : goal.returns-then-count-eq0
unfolding mean
returns-then-count-eq0 c =
    let f = c.ranges.expo in
    let g1 = simp to_z-of_z at c.if-expo-lt-MIN_EXPO.false in
    let g2 = simp to_z-of_z at c.if-expo-gt-MAX_EXPO.false in
    let g3 = c.if-count-eq0.true in
    let e = c.args.expo in
    simp (lt_false e (negsuc 11) g1, lt_false (pos 0) e g2, eq-eqb)

pub returns-then-expo-ltminus6 : goal.returns-then-expo-ltminus6
returns-then-expo-ltminus6 c =
    let k = c.before.before in
    let a = k.args in
    let f = k.ranges.expo in
    let s = down_fits (e4 k) (l4 k) (h4 k) (b4 k) in
    let g = simp to_z-of_z at c.power.ensures.0 in
    c.ratio.ensures ∙ good (e4 k) (a.sum) a.count (l4 k) (h4 k) k.if-count-eq0.false 1 c.power.result
    (rw (up_none (e4 k) (l4 k) (h4 k) (b4 k)))
    (g ∙ ap (λ (n : ℕ). 10 ^ n) (down_is (e4 k) (l4 k) (h4 k) (b4 k)))

pub returns : goal.returns
returns c =
    let k = c.before.before in
    let a = k.args in
    let f = k.ranges.expo in
    let s = up_fits (e5 k) (l5 k) (h5 k) (b5 k) in
    let g = simp to_z-of_z at c.power-2.ensures.0 in
    c.ratio-2.ensures ∙ good (e5 k) (a.sum) a.count (l5 k) (h5 k) k.if-count-eq0.false c.power-2.result 1
    (g ∙ ap (λ (n : ℕ). 10 ^ n) (up_is (e5 k) (l5 k) (h5 k) (b5 k)))
    (rw (down_none (e5 k) (l5 k) (h5 k) (b5 k)))
