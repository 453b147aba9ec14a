-- Laws of division for the mean.
use Prim.Native.Nat.{ℕ, ◌+◌, ◌*◌, ◌/◌, ◌%◌, ◌≤◌, ◌<◌, ◌^◌}
use mathlib.Core.Path.{◌≡◌, sym, ap, ◌∙◌}
use native.Mathlib.Omega.{arith}
use native.Mathlib.Nat.{div-add-mod', add-mul, mul_right_comm, mul_comm, mul_assoc, mul-le-mul, add-mul-div_right, div-div-eq-div-mul, div-lt_iff_lt-mul, le-div_iff_mul-le, mul-le-mul_left, mul-le-mul_right, mul-pos}
use borrow.Author.Tests.{lt-leb, le-leb}
use Rattle.rules.specs.Answers.{ok, refused}
use Rattle.rules.specs.Mean.{rounded}
use Rattle.core_prices.specs.Prices.{priced}

-- one digit of a long division in base B
pub step : (a B b d : ℕ) → 0 < d → (a * B + b) / d ≡ a / d * B + (a % d * B + b) / d
step a B b d h =
    ap (λ (n : ℕ). n / d) split ∙ add-mul-div_right (a % d * B + b) (a / d * B) h ∙ omega arith
  where
    split : a * B + b ≡ a % d * B + b + a / d * B * d
    split = omega (arith, ap (λ (n : ℕ). n * B) (div-add-mod' a d), add-mul (a / d * d) (a % d) B, mul_right_comm (a / d) d B)

-- a quotient of two digits is below B where the first digit is below the divisor
pub digit_below : (a B b d : ℕ) → a < d → b < B → 0 < d → a * B + b < B * d
digit_below a B b d h k p = omega (arith, mul-le-mul_right B h, add-mul a 1 B, mul_comm d B, native.Mathlib.Nat.one-mul B, native.Mathlib.Numerals.add-one a)

pub quotient_below : (n B d : ℕ) → 0 < d → n < B * d → n / d < B
quotient_below n B d p h = (div-lt_iff_lt-mul p).1 h

-- rounding to nearest adds half the divisor
pub rounded_is : (n d : ℕ) → rounded n d ≡ (n + d / 2) / d
rounded_is n d = sym (div-div-eq-div-mul (2 * n + d) 2 d) ∙ ap (λ (m : ℕ). m / d) (halved n d)
  where
    halved : (n d : ℕ) → (2 * n + d) / 2 ≡ n + d / 2
    halved n d = omega arith

pub priced_yes : (a : ℕ) → a < 2 ^ 64 → priced a ≡ ok a
priced_yes a h = rw (lt-leb (2 ^ 64) a h)

pub priced_no : (a : ℕ) → 2 ^ 64 ≤ a → priced a ≡ refused 0
priced_no a h = rw (le-leb (2 ^ 64) a h)

grown : (x up : ℕ) → 0 < up → x ≤ x * up
grown x up h = omega (arith, mul-le-mul_left x h, native.Mathlib.Nat.mul-one x)

-- the sum scaled, with half the divisor added
module _ (sum n up down : ℕ) (n⁺ : 0 < n) (down⁺ : 0 < down) (up⁺ : 0 < up) where
  abbrev scaled : ℕ
  scaled = sum * up + n * down / 2

  den⁺ : 0 < n * down
  den⁺ = mul-pos n⁺ down⁺

  too_high : 2 ^ 64 * (n * down) ≤ scaled → priced (rounded (sum * up) (n * down)) ≡ refused 0
  too_high h = rw (rounded_is (sum * up) (n * down)) (priced_no _ ((le-div_iff_mul-le {x = 2 ^ 64} {y = scaled} den⁺).1 h))

  -- a sum whose upper word reaches the divisor
  pub refused_early : n * down ≤ sum / 2 ^ 64 → priced (rounded (sum * up) (n * down)) ≡ refused 0
  refused_early h = too_high (omega (arith, grown sum up up⁺))

  pub refused_late : n * down ≤ scaled / 2 ^ 64 → priced (rounded (sum * up) (n * down)) ≡ refused 0
  refused_late h = too_high (omega arith)

  -- it is far from 2^128 elsewhere
  pub scaled_small : sum / 2 ^ 64 < n * down → n ≤ 4294967295 → down ≤ 1000000 → down * up ≤ 1000000 → scaled < 4294967296 * 1000000 * 2 ^ 64
  scaled_small h k d u =
      let s : sum * up ≤ n * down * 2 ^ 64 * up = mul-le-mul_right up (omega arith) in
      let t : n * (down * up) ≤ 4294967295 * 1000000 = mul-le-mul {n₂ = 4294967295} {m₂ = 1000000} k u in
      let v : n * down ≤ 4294967295 * 1000000 = mul-le-mul {n₂ = 4294967295} {m₂ = 1000000} k d in
      omega (arith, mul_right_comm (n * down) (2 ^ 64) up, mul_assoc n down up)

  pub taken : scaled / 2 ^ 64 < n * down
      → priced (rounded (sum * up) (n * down)) ≡ ok ((scaled / 2 ^ 64 / down * 2 ^ 64 + (scaled / 2 ^ 64 % down * 2 ^ 64 + scaled % 2 ^ 64) / down) / n)
  taken h =
      rw (rounded_is (sum * up) (n * down))
      (priced_yes _ (quotient_below scaled (2 ^ 64) (n * down) den⁺ (omega arith))
      ∙ ap ok (ap (λ (m : ℕ). scaled / m) (mul_comm n down)
      ∙ sym (div-div-eq-div-mul scaled down n)
      ∙ ap (λ (m : ℕ). m / n) (ap (λ (m : ℕ). m / down) (sym (div-add-mod' scaled (2 ^ 64))) ∙ step (scaled / 2 ^ 64) (2 ^ 64) (scaled % 2 ^ 64) down down⁺)))
