-- 01, "Mean (`to_atoms`)".
use Rattle.std.specs.Prelude.{ℕ, suc, ◌+◌, ◌*◌, ◌/◌, ◌^◌, not, ◌||◌, ℤ, pos, negsuc, ◌+ℤ◌, leb, eqb, if◌then◌else◌}
use Rattle.rules.specs.Answers.{Result, ok, refused}
use Rattle.rules.specs.Terms.{good_exponent}

-- 10^z is above z / below z
abbrev pub above : ℤ → ℕ
above (pos n) = 10 ^ n
above (negsuc n) = 1

abbrev pub below : ℤ → ℕ
below (pos n) = 1
below (negsuc n) = 10 ^ suc n

-- "num / den is sum × 10^(6+e) / count, the power moved below when negative."
abbrev pub numerator : ℕ → ℤ → ℕ
numerator sum e = sum * above (pos 6 +ℤ e)

abbrev pub denominator : ℕ → ℤ → ℕ
denominator count e = count * below (pos 6 +ℤ e)

-- "Answer: floor((2 × num + den) / (2 × den))."
abbrev pub rounded : ℕ → ℕ → ℕ
rounded num den = (2 * num + den) / (2 * den)

-- "0 exactly when count is 0 or the answer is 2^64 or more. For e outside −12..0 the port gives 12."
unfoldable pub mean : ℕ → ℕ → ℤ → Result ℕ
mean sum count e =
    let answer = rounded (numerator sum e) (denominator count e) in
    if not (good_exponent e) then refused 12 else
    if eqb count 0 || leb (2 ^ 64) answer then refused 0 else
    ok answer
