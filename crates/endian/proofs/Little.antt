-- The library's bytes of a number are the rules'.
use Prim.Native.Nat.{ℕ, zero, suc, ◌/◌, ◌%◌, ◌^◌}
use mathlib.Core.Path.{◌≡◌, refl, sym, ap, ◌∙◌}
use mathlib.Core.List.{List, ◌∷◌}
use native.Mathlib.Nat.{div-one, pow-suc, div-div-eq-div-mul}
use Rattle.std.specs.Int.{byte_at, bytes_low_first}
use Rattle.rules.specs.Bytes.{bytes}

byte_is : (i n : ℕ) → byte_at i n ≡ n / 256 ^ i % 256
byte_is zero n = ap (λ (m : ℕ). m % 256) (sym (div-one n))
byte_is (suc i) n = refl

low_first : (i k n : ℕ) → bytes_low_first i k n ≡ bytes k (n / 256 ^ i)
unfolding bytes
low_first i zero n = refl
low_first i (suc k) n =
    let e : n / 256 ^ i / 256 ≡ n / 256 ^ suc i = div-div-eq-div-mul n (256 ^ i) 256 ∙ ap (λ (m : ℕ). n / m) (sym (pow-suc 256 i)) in
    λ j. byte_is i n j ∷ (low_first (suc i) k n ∙ ap (bytes k) (sym e)) j

pub written_is : (k n : ℕ) {r : List ℕ} → r ≡ bytes_low_first 0 k n → r ≡ bytes k n
written_is k n e = e ∙ low_first 0 k n ∙ ap (bytes k) (div-one n)
