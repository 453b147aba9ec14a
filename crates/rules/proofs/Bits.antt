-- A bit that is put where there is none, and a number with no bit.
use Prim.Native.Nat.{ℕ, zero, suc, ◌+◌, ◌*◌, ◌-◌, ◌/◌, ◌%◌, ◌≤◌, ◌<◌, ◌^◌}
use mathlib.Core.Path.{◌≡◌, refl, sym, ap, ◌∙◌, subst}
use mathlib.Core.Bool.{Bool, true, false}
use native.Mathlib.Omega.{arith}
use native.Mathlib.Nat.{div-add-mod', mod-lt, add-div_right, add-mul-div_right, add-mul-mod_self_right, lt-mul-div-succ, one-mul, mul_comm, add-mul, mul-le-mul_right, zero-div, div-eq_of_lt, le-div_iff_mul-le, lt_of_lt_of_le}
use lib.Arith.{lt_of_le-ne}
use lib.Pow.{pow_pos, pow-add, pow_mono, shr_lt, shr-shr}
use lib.Dec.{ltb, eqb}
use borrow.Author.Tests.{ltb-true, ltb-false, eq-eqb, ne_eqb, eqb-false}
use Rattle.rules.specs.Taking.{bit}
use Rattle.rules.proofs.Bools.{not_both}
use Rattle.rules.proofs.Sums.{shift}

-- what is not odd is even
even : (q : ℕ) → (q % 2 ≡ 1 → ⊥) → q % 2 ≡ 0
even q ne = go (q % 2) refl ne
  where
    go : (r : ℕ) → q % 2 ≡ r → (r ≡ 1 → ⊥) → q % 2 ≡ 0
    go zero e ne = e
    go (suc zero) e ne = absurd (ne refl)
    go (suc (suc r)) e ne = absurd (omega arith)

-- bit i, which lies below k = i + 1 + m, is put: n is 2 * a * 2 ^ i + n % 2 ^ i
module _ (n i : ℕ) (clear : n / 2 ^ i % 2 ≡ 0) where
  put-below : (m : ℕ) → n < 2 ^ (i + (1 + m)) → n + 2 ^ i < 2 ^ (i + (1 + m))
  put-below m h =
      let a = n / 2 ^ i / 2 in
      let twice : n / 2 ^ i ≡ 2 * a = omega arith in
      let whole : n ≡ 2 * a * 2 ^ i + n % 2 ^ i = sym (div-add-mod' n (2 ^ i)) ∙ ap (λ (q : ℕ). q * 2 ^ i + n % 2 ^ i) twice in
      let power : 2 ^ (i + (1 + m)) ≡ 2 * 2 ^ m * 2 ^ i = pow-add 2 i (1 + m) ∙ ap (λ (q : ℕ). 2 ^ i * q) (pow-add 2 1 m) ∙ mul_comm (2 ^ i) (2 * 2 ^ m) in
      let swap : 2 ^ (i + (1 + m)) ≡ 2 ^ ((1 + m) + i) = ap (λ (q : ℕ). 2 ^ q) (omega arith) in
      let few : n / 2 ^ i < 2 ^ (1 + m) = shr_lt (1 + m) i (subst (λ (q : ℕ). n < q) swap h) in
      let more : 2 ^ (1 + m) ≡ 2 * 2 ^ m = pow-add 2 1 m in
      let top : (2 * a + 2) * 2 ^ i ≤ 2 * 2 ^ m * 2 ^ i = mul-le-mul_right (2 ^ i) (omega arith) in
      omega (arith, whole, power, top, add-mul (2 * a) 2 (2 ^ i), mod-lt n (pow_pos i))

pub put-fits : (n i k : ℕ) → bit i n ≡ false → i < k → n < 2 ^ k → n + 2 ^ i < 2 ^ k
unfolding bit
put-fits n i k e l h =
    let m : i + (1 + (k - i - 1)) ≡ k = omega arith in
    subst (λ (x : ℕ). n + 2 ^ i < 2 ^ x) m
    (put-below n i (even (n / 2 ^ i) (eqb-false (n / 2 ^ i % 2) 1 e)) (k - i - 1) (subst (λ (x : ℕ). n < 2 ^ x) (sym m) h))

-- the bit that was put is there, and the others are as they were
module _ (n i : ℕ) (clear : bit i n ≡ false) where
  clear_even : n / 2 ^ i % 2 ≡ 0
  unfolding bit
  clear_even = even (n / 2 ^ i) (eqb-false (n / 2 ^ i % 2) 1 clear)

  put_one : (n + 2 ^ i) / 2 ^ i % 2 ≡ 1
  put_one = rw (add-div_right n (pow_pos i)) (omega (arith, clear_even))

  pub put_same : bit i (n + 2 ^ i) ≡ true
  unfolding bit
  put_same = eq-eqb ((n + 2 ^ i) / 2 ^ i % 2) 1 put_one

  put_lower : (j : ℕ) → j < i → (n + 2 ^ i) / 2 ^ j % 2 ≡ n / 2 ^ j % 2
  put_lower j l =
      let k = 1 * 2 ^ (i - suc j) in
      let power : 2 ^ i ≡ k * 2 * 2 ^ j = sym (one-mul (2 ^ i)) ∙ shift 1 j i l in
      ap (λ (x : ℕ). (n + x) / 2 ^ j % 2) power ∙ rw (add-mul-div_right n (k * 2) (pow_pos j), add-mul-mod_self_right (n / 2 ^ j) k 2)

  put_higher : (m : ℕ) → (n + 2 ^ i) / 2 ^ (i + (1 + m)) ≡ n / 2 ^ (i + (1 + m))
  put_higher m =
      let q = n / 2 ^ i in
      let half : (q + 1) / 2 ≡ q / 2 = omega (arith, clear_even) in
      sym (shr-shr (n + 2 ^ i) i (1 + m))
      ∙ ap (λ (x : ℕ). x / 2 ^ (1 + m)) (add-div_right n (pow_pos i))
      ∙ sym (shr-shr (q + 1) 1 m) ∙ ap (λ (x : ℕ). x / 2 ^ m) half ∙ shr-shr q 1 m ∙ shr-shr n i (1 + m)

  pub put_other : (j : ℕ) → (j ≡ i → ⊥) → bit j (n + 2 ^ i) ≡ bit j n
  unfolding bit
  put_other j ne = go (ltb j i) refl
    where
      go : (b : Bool) → ltb j i ≡ b → eqb ((n + 2 ^ i) / 2 ^ j % 2) 1 ≡ eqb (n / 2 ^ j % 2) 1
      go true e = ap (λ (x : ℕ). eqb x 1) (put_lower j (ltb-true j i e))
      go false e =
          let l : i < j = lt_of_le-ne (ltb-false j i e) (λ q. ne (sym q)) in
          let m : i + (1 + (j - i - 1)) ≡ j = omega arith in
          subst (λ (x : ℕ). eqb ((n + 2 ^ i) / 2 ^ x % 2) 1 ≡ eqb (n / 2 ^ x % 2) 1) m (ap (λ (x : ℕ). eqb (x % 2) 1) (put_higher (j - i - 1)))

-- nothing is left of n above digit k
pub none_above : (n k : ℕ) → eqb (n / 2 ^ k) 0 ≡ ltb n (2 ^ k)
none_above n k = go (ltb n (2 ^ k)) refl
  where
    go : (b : Bool) → ltb n (2 ^ k) ≡ b → eqb (n / 2 ^ k) 0 ≡ b
    go true e = eq-eqb (n / 2 ^ k) 0 (div-eq_of_lt (ltb-true n (2 ^ k) e))
    go false e = ne_eqb (n / 2 ^ k) 0 (λ z. omega (arith, (le-div_iff_mul-le {x = 1} {y = n} (pow_pos k)).1 (omega (arith, ltb-false n (2 ^ k) e))))

-- so no bit is set from there on, and where one is, the number is as large
pub bit-above : (n i j : ℕ) → n < 2 ^ i → i ≤ j → bit j n ≡ false
unfolding bit
bit-above n i j h l = rw (div-eq_of_lt (lt_of_lt_of_le h (pow_mono l)))

pub bit_within : (n i : ℕ) → bit i n ≡ true → 2 ^ i ≤ n
bit_within n i e = go (ltb n (2 ^ i)) refl
  where
    go : (b : Bool) → ltb n (2 ^ i) ≡ b → 2 ^ i ≤ n
    go true q = absurd (not_both e (bit-above n i i (ltb-true n (2 ^ i) q) (omega arith)))
    go false q = ltb-false n (2 ^ i) q

-- 0 has no bit, and a number with none is 0
pub bit_of_0 : (i : ℕ) → bit i 0 ≡ false
unfolding bit
bit_of_0 i = rw (zero-div (2 ^ i))

pub no_bits : (k n : ℕ) → n < 2 ^ k → ((j : ℕ) → j < k → bit j n ≡ false) → n ≡ 0
unfolding bit
no_bits zero n h f = omega arith
no_bits (suc k) n h f =
    let few : n / 2 ^ k < 2 = shr_lt 1 k (subst (λ (x : ℕ). n < 2 ^ x) (omega arith) h) in
    let none : n / 2 ^ k % 2 ≡ 0 = even (n / 2 ^ k) (eqb-false (n / 2 ^ k % 2) 1 (f k (omega arith))) in
    let zero : n / 2 ^ k ≡ 0 = omega arith in
    let low : n < 2 ^ k * (0 + 1) = rw zero at (lt-mul-div-succ n (pow_pos k)) in
    no_bits k n (omega arith) (λ j l. f j (omega arith))
