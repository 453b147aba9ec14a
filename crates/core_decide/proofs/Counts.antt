-- The machine's count of set bits is the rules'.
use Prim.Native.Nat.{ℕ, zero, suc, ◌+◌, ◌/◌, ◌%◌, ◌^◌, ◌<◌}
use mathlib.Core.Path.{◌≡◌, refl, ap, ◌∙◌}
use native.Mathlib.Omega.{arith}
use native.Mathlib.Nat.{div-one, div-eq_of_lt}
use native.Mathlib.Numerals.{add-one}
use lib.Count as count
use lib.Count.{ones_step}
use lib.Pow.{shr-shr}
use Rattle.rules.specs.Log.{Σ<}
use Rattle.rules.specs.Decision.{ones}

ones_below : (n d : ℕ) → count.ones n ≡ Σ< d (λ i. n / 2 ^ i % 2) + count.ones (n / 2 ^ d)
ones_below n zero = omega (arith, ap count.ones (div-one n))
ones_below n (suc d) =
    let q : n / 2 ^ d / 2 ≡ n / 2 ^ suc d = shr-shr n d 1 ∙ ap (λ (m : ℕ). n / 2 ^ m) (add-one d) in
    omega (arith, ones_below n d, ones_step (n / 2 ^ d), ap count.ones q)

ones_none : count.ones 0 ≡ 0
unfolding count.ones count.ones_in
ones_none = refl

-- over any number of digits: omega does not take the sum of 32
ones-all : (n d : ℕ) → n / 2 ^ d ≡ 0 → count.ones n ≡ Σ< d (λ i. n / 2 ^ i % 2)
ones-all n d e = omega (arith, ones_below n d, ap count.ones e, ones_none)

pub ones-same : (n : ℕ) → n < 2 ^ 32 → count.ones n ≡ ones n
unfolding ones
ones-same n h = ones-all n 32 (div-eq_of_lt h)
