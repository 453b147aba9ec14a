-- The shift's mask.
use Prim.Native.Nat.{ℕ, ◌*◌, ◌%◌, ◌<◌, ◌^◌}
use mathlib.Core.Path.{◌≡◌}
use native.Mathlib.Nat.{one-mul, mod-eq_of_lt}
use lib.Pow.{pow-lt}

-- 2 ^ i, as the shift has it
pub mask_is : (i : ℕ) → i < 32 → 1 * 2 ^ i % 2 ^ 32 ≡ 2 ^ i
mask_is i h = rw one-mul (mod-eq_of_lt (pow-lt h))
