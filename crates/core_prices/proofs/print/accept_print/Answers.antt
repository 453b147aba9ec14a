use mathlib.Core.Path.{◌≡◌, refl, sym, ap, ◌∙◌}
use mathlib.Core.Bool.{Bool, true, false, ◌&&◌}
use lib.IntN.{ℤ}
use lib.Signed.{le_z}
use mir.Syntax.{w32}
use mir.Val.{SFits, to_z, of_z}
use mir.Facts.{to_z-of_z, sfits_widen}
use Rattle.rules.specs.Prints.{accept}
use Rattle.rules.proofs.Integers.{le_refl, both_le}
use Rattle.core_prices.proofs.print.accept_print.Goals as goal

unequal : (a b : ℤ) → (a ≡ b → ⊥) → le_z a b && le_z b a ≡ false
unequal a b ne = go (le_z a b && le_z b a) refl
  where
    go : (t : Bool) → le_z a b && le_z b a ≡ t → t ≡ false
    go true e = absurd (ne (both_le a b e))
    go false e = refl

equal : (a b : ℤ) → a ≡ b → le_z a b && le_z b a ≡ true
equal a b e = rw (e, le_refl b)

pub returns-then-price-le0 : goal.returns-then-price-le0
unfolding accept
returns-then-price-le0 c =
    let f = c.ranges.price in
    let g = simp to_z-of_z at c.if-price-le0.true in
    simp g

pub returns-then-exponent-e : goal.returns-then-exponent-e
unfolding accept
returns-then-exponent-e c =
    let a = c.args in
    let fp = c.ranges.price in
    let fx = c.ranges.exponent in
    let fe = c.ranges.expo in
    let fw : SFits w32 a.expo = sfits_widen tt fe in
    let g1 = simp to_z-of_z at c.if-price-le0.false in
    simp (g1, unequal a.exponent a.expo (λ q. c.if-exponent-e.true (simp to_z-of_z (ap (of_z w32) q))))

pub returns-then-too_wide : goal.returns-then-too_wide
unfolding accept
returns-then-too_wide c =
    let a = c.args in
    let fp = c.ranges.price in
    let fx = c.ranges.exponent in
    let fe = c.ranges.expo in
    let fw : SFits w32 a.expo = sfits_widen tt fe in
    let g1 = simp to_z-of_z at c.if-price-le0.false in
    let g2 = simp to_z-of_z at (ap (to_z w32) c.if-exponent-e.false) in
    let w = simp to_z-of_z at c.too_wide.ensures in
    simp (g1, equal a.exponent a.expo g2, sym w ∙ c.if-too_wide.true)

pub returns : goal.returns
unfolding accept
returns c =
    let a = c.args in
    let fp = c.ranges.price in
    let fx = c.ranges.exponent in
    let fe = c.ranges.expo in
    let ft = c.ranges.publish_time in
    let fv = c.ranges.prev_publish_time in
    let fw : SFits w32 a.expo = sfits_widen tt fe in
    let g1 = simp to_z-of_z at c.if-price-le0.false in
    let g2 = simp to_z-of_z at (ap (to_z w32) c.if-exponent-e.false) in
    let w = simp to_z-of_z at c.too_wide.ensures in
    let r = simp to_z-of_z at c.try_new.ensures in
    r ∙ simp (g1, equal a.exponent a.expo g2, sym w ∙ c.if-too_wide.false)
