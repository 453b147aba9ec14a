-- Sums over i < n, the first i < n, and the binary digits of a sum.
use Rattle.std.specs.Prelude.{if◌then◌else◌, Option, None, Some}
use Prim.Native.Nat.{ℕ, zero, suc, ◌+◌, ◌*◌, ◌-◌, ◌/◌, ◌%◌, ◌^◌, ◌<◌, ◌≤◌}
use mathlib.Core.Path.{◌≡◌, refl, sym, ap, ap₂, ◌∙◌}
use mathlib.Core.Bool.{Bool, true, false}
use native.Mathlib.Omega.{arith}
use native.Mathlib.Nat.{pow-suc, mul_assoc, one-mul, suc-mul, mul-le-mul_right, add-mul-div_right, add-mul-mod_self_right, div-eq_of_lt, lt_of_lt_of_le}
use lib.Pow.{pow_pos, pow-add, pow_mono}
use lib.Arith.{lt_of_le-ne}
use borrow.Author.Tests.{eqb-true, eqb-false}
use lib.Dec.{eqb}
use Rattle.rules.specs.Log.{find, Σ<, all<, ◌or_else◌}
use Rattle.rules.proofs.Bools.{both, not_both}

-- ---- sums

pub Σ<_ext : (n : ℕ) (f g : ℕ → ℕ) → ((i : ℕ) → i < n → f i ≡ g i) → Σ< n f ≡ Σ< n g
Σ<_ext zero f g h = refl
Σ<_ext (suc n) f g h = ap₂ ◌+◌ (Σ<_ext n f g (λ i l. h i (omega arith))) (h n (omega arith))

pub Σ<_zero : (n : ℕ) → Σ< n (λ i. 0) ≡ 0
Σ<_zero zero = refl
Σ<_zero (suc n) = rw (Σ<_zero n)

-- g is f, but for k
pub Σ<-one : (n k : ℕ) (f g : ℕ → ℕ) → k < n → f k ≡ 0 → ((i : ℕ) → i < n → (i ≡ k → ⊥) → g i ≡ f i) → Σ< n g ≡ Σ< n f + g k
Σ<-one zero k f g l z h = let c : ⊥ = omega arith in absurd c
Σ<-one (suc n) k f g l z h = go (eqb k n) refl (λ l'. Σ<-one n k f g l' z (λ i m. h i (omega arith)))
  where
    go : (b : Bool) → eqb k n ≡ b → (k < n → Σ< n g ≡ Σ< n f + g k) → Σ< n g + g n ≡ Σ< n f + f n + g k
    go true e r =
        let q = eqb-true k n e in
        omega (arith, Σ<_ext n g f (λ i m. h i (omega arith) (omega arith)), ap f q, ap g q)
    go false e r =
        let ne = eqb-false k n e in
        let l' : k < n = lt_of_le-ne (omega arith) ne in
        omega (arith, r l', h n (omega arith) (λ q. ne (sym q)))

pub Σ<_le : (n b : ℕ) (f : ℕ → ℕ) → ((i : ℕ) → i < n → f i ≤ b) → Σ< n f ≤ n * b
Σ<_le zero b f h = omega arith
Σ<_le (suc n) b f h = omega (arith, Σ<_le n b f (λ i l. h i (omega arith)), h n (omega arith), suc-mul n b)

-- f is 0 from n on
pub Σ<_stop : (n m : ℕ) (f : ℕ → ℕ) → n ≤ m → ((i : ℕ) → n ≤ i → f i ≡ 0) → Σ< m f ≡ Σ< n f
Σ<_stop n zero f l h = let e : n ≡ 0 = omega arith in rw e
Σ<_stop n (suc m) f l h = go (eqb n (suc m)) refl (λ l'. Σ<_stop n m f l' h)
  where
    go : (b : Bool) → eqb n (suc m) ≡ b → (n ≤ m → Σ< m f ≡ Σ< n f) → Σ< m f + f m ≡ Σ< n f
    go true e r = rw (eqb-true n (suc m) e)
    go false e r =
        let l' : n < suc m = lt_of_le-ne l (eqb-false n (suc m) e) in
        omega (arith, r (omega arith), h m (omega arith))

-- ---- every i < n

pub all<_yes : (n : ℕ) (P : ℕ → Bool) → ((i : ℕ) → i < n → P i ≡ true) → all< n P ≡ true
all<_yes zero P h = refl
all<_yes (suc n) P h = rw (all<_yes n P (λ i l. h i (omega arith)), h n (omega arith))

pub all<_at : (n : ℕ) (P : ℕ → Bool) → all< n P ≡ true → (i : ℕ) → i < n → P i ≡ true
all<_at zero P e i l = absurd (omega arith)
all<_at (suc n) P e i l = let (a, b) = both (all< n P) (P n) e in go (eqb i n) refl b (all<_at n P a i)
  where
    go : (t : Bool) → eqb i n ≡ t → P n ≡ true → (i < n → P i ≡ true) → P i ≡ true
    go true q b r = ap P (eqb-true i n q) ∙ b
    go false q b r = r (lt_of_le-ne (omega arith) (eqb-false i n q))

pub all<_no : (n : ℕ) (P : ℕ → Bool) (i : ℕ) → i < n → P i ≡ false → all< n P ≡ false
all<_no n P i l e = go (all< n P) refl
  where
    go : (b : Bool) → all< n P ≡ b → all< n P ≡ false
    go true q = absurd (not_both (all<_at n P q i l) e)
    go false q = q

-- one of them is no more than all
pub Σ<-part : (n : ℕ) (f : ℕ → ℕ) (i : ℕ) → i < n → f i ≤ Σ< n f
Σ<-part zero f i l = absurd (omega arith)
Σ<-part (suc n) f i l = go (eqb i n) refl (Σ<-part n f i)
  where
    go : (t : Bool) → eqb i n ≡ t → (i < n → f i ≤ Σ< n f) → f i ≤ Σ< n f + f n
    go true q r = omega (arith, ap f (eqb-true i n q))
    go false q r = omega (arith, r (lt_of_le-ne (omega arith) (eqb-false i n q)))

-- ---- the first i < n

pub find_ext : (n : ℕ) (P Q : ℕ → Bool) → ((i : ℕ) → i < n → P i ≡ Q i) → find n P ≡ find n Q
find_ext zero P Q h = refl
find_ext (suc n) P Q h = rw (find_ext n P Q (λ i l. h i (omega arith)), h n (omega arith))

pub find_none : (n : ℕ) (P : ℕ → Bool) → find n P ≡ None → (i : ℕ) → i < n → P i ≡ false
find_none zero P e i l = let c : ⊥ = omega arith in absurd c
find_none (suc n) P e i l = go (find n P) (P n) (eqb i n) refl refl refl e (λ q l'. find_none n P q i l')
  where
    go : (a : Option ℕ) (b t : Bool) → find n P ≡ a → P n ≡ b → eqb i n ≡ t → a or_else (if b then Some n else None) ≡ None
        → (find n P ≡ None → i < n → P i ≡ false) → P i ≡ false
    go (Some x) b t p q u e r = cc
    go None true t p q u e r = cc
    go None false true p q u e r = ap P (eqb-true i n u) ∙ q
    go None false false p q u e r = r p (lt_of_le-ne (omega arith) (eqb-false i n u))

pub find_some : (n : ℕ) (P : ℕ → Bool) (k : ℕ) → find n P ≡ Some k → (k < n) × (P k ≡ true)
find_some zero P k e = let c : ◌≡◌ {A = ℕ} 0 1 = cc in let c : ⊥ = omega arith in absurd c
find_some (suc n) P k e = go (find n P) (P n) refl refl e (λ q. find_some n P k q)
  where
    go : (a : Option ℕ) (b : Bool) → find n P ≡ a → P n ≡ b → a or_else (if b then Some n else None) ≡ Some k
        → (find n P ≡ Some k → (k < n) × (P k ≡ true)) → (k < suc n) × (P k ≡ true)
    go (Some x) b p q e r = let (l, h) = r (p ∙ e) in (omega arith, h)
    go None true p q e r = let f : n ≡ k = cc in (omega arith, ap P (sym f) ∙ q)
    go None false p q e r = let c : ◌≡◌ {A = ℕ} 0 1 = cc in let c : ⊥ = omega arith in absurd c

-- ---- digits

pub shift : (b i n : ℕ) → i < n → b * 2 ^ n ≡ b * 2 ^ (n - suc i) * 2 * 2 ^ i
shift b i n l = ap (λ x. b * 2 ^ x) e ∙ rw (pow-add 2 (suc (n - suc i)) i, pow-suc 2 (n - suc i)) (simp mul_assoc)
  where
    e : n ≡ suc (n - suc i) + i
    e = omega arith

module _ (d : ℕ → ℕ) (small : (i : ℕ) → d i < 2) where
  pub below : (n : ℕ) → Σ< n (λ i. d i * 2 ^ i) < 2 ^ n
  below zero = omega arith
  below (suc n) = omega (arith, below n, mul-le-mul_right {m = d n} {n = 1} (2 ^ n) (omega (arith, small n)), one-mul (2 ^ n), pow-suc 2 n)

  pub digit : (n i : ℕ) → i < n → Σ< n (λ j. d j * 2 ^ j) / 2 ^ i % 2 ≡ d i
  digit zero i l = let c : ⊥ = omega arith in absurd c
  digit (suc n) i l = go (eqb i n) refl (λ l'. digit n i l')
    where
      S : ℕ
      S = Σ< n (λ j. d j * 2 ^ j)

      go : (b : Bool) → eqb i n ≡ b → (i < n → S / 2 ^ i % 2 ≡ d i) → (S + d n * 2 ^ n) / 2 ^ i % 2 ≡ d i
      go true e r =
          let q = eqb-true i n e in
          rw (q, add-mul-div_right S (d n) (pow_pos n), div-eq_of_lt (below n)) (omega (arith, small n))
      go false e r =
          let l' : i < n = lt_of_le-ne (omega arith) (eqb-false i n e) in
          rw (shift (d n) i n l', add-mul-div_right S (d n * 2 ^ (n - suc i) * 2) (pow_pos i), add-mul-mod_self_right (S / 2 ^ i) (d n * 2 ^ (n - suc i)) 2) (r l')

  pub digit_above : (n i : ℕ) → n ≤ i → Σ< n (λ j. d j * 2 ^ j) / 2 ^ i % 2 ≡ 0
  digit_above n i l = rw (div-eq_of_lt (lt_of_lt_of_le (below n) (pow_mono l)))
