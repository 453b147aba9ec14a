-- A price times basis points by the price's quotient and rest, and the basis points' quarters.
use Prim.Native.Nat.{ℕ, ◌+◌, ◌*◌, ◌-◌, ◌/◌, ◌%◌, ◌≤◌, ◌<◌, ◌^◌}
use mathlib.Core.Path.{◌≡◌, refl, sym, ap, ◌∙◌}
use mathlib.Core.Bool.{Bool, true, false}
use native.Mathlib.Omega.{arith}
use native.Mathlib.Nat.{mul-le-mul, add-mul, mul-add, mul_assoc, mul_right_comm, div-add-mod'}
use lib.Dec.{ltb}
use borrow.Author.Tests.{ltb-true, ltb-false, lt-ltb, le-ltb}

module _ (price bps : ℕ) (fp : price < 2 ^ 63) (fb : bps < 2 ^ 16) where
  abbrev q : ℕ
  q = price / 10000

  pub most_small : q * (bps / 4) ≤ 922337203685477 * 16383
  most_small = mul-le-mul {n₂ = 922337203685477} {m₂ = 16383} (omega arith) (omega arith)

  pub rest_small : q * (bps % 4) ≤ 922337203685477 * 3
  rest_small = mul-le-mul {n₂ = 922337203685477} {m₂ = 3} (omega arith) (omega arith)

  pub remainder_small : price % 10000 * bps ≤ 9999 * 65535
  remainder_small = mul-le-mul {n₂ = 9999} {m₂ = 65535} (omega arith) (omega arith)

  -- q × bps by quarters
  quarters : q * bps ≡ q * (bps / 4) * 4 + q * (bps % 4)
  quarters =
      ap (λ (n : ℕ). q * n) (sym (div-add-mod' bps 4)) ∙ mul-add q (bps / 4 * 4) (bps % 4)
      ∙ ap (λ (n : ℕ). n + q * (bps % 4)) (sym (mul_assoc q (bps / 4) 4))

  whole : price * bps ≡ q * bps * 10000 + price % 10000 * bps
  whole =
      ap (λ (n : ℕ). n * bps) (sym (div-add-mod' price 10000)) ∙ add-mul (q * 10000) (price % 10000) bps
      ∙ ap (λ (n : ℕ). n + price % 10000 * bps) (mul_right_comm q 10000 bps)

  -- the product of four times the quarters is above the confidence
  pub above : (conf : ℕ) → conf / 4 < q * (bps / 4) → ltb (price * bps) (conf * 10000) ≡ false
  above conf h = le-ltb (price * bps) (conf * 10000) (omega (arith, quarters, whole))

  pub compared : (conf : ℕ) → q * (bps / 4) ≤ conf / 4
      → ltb (q * (bps % 4) + price % 10000 * bps / 10000) (conf - 4 * (q * (bps / 4))) ≡ ltb (price * bps) (conf * 10000)
  compared conf h = go (ltb (q * (bps % 4) + price % 10000 * bps / 10000) (conf - 4 * (q * (bps / 4)))) refl
    where
      go : (b : Bool) → ltb (q * (bps % 4) + price % 10000 * bps / 10000) (conf - 4 * (q * (bps / 4))) ≡ b → b ≡ ltb (price * bps) (conf * 10000)
      go true e =
          let l = ltb-true (q * (bps % 4) + price % 10000 * bps / 10000) (conf - 4 * (q * (bps / 4))) e in
          sym (lt-ltb (price * bps) (conf * 10000) (omega (arith, quarters, whole)))
      go false e =
          let l = ltb-false (q * (bps % 4) + price % 10000 * bps / 10000) (conf - 4 * (q * (bps / 4))) e in
          sym (le-ltb (price * bps) (conf * 10000) (omega (arith, quarters, whole)))
