-- Facts about Boolean tests and choices.
use Rattle.std.specs.Prelude.{if◌then◌else◌}
use Prim.Native.Nat.{ℕ, zero, suc, ◌+◌, ◌^◌}
use mathlib.Core.Path.{◌≡◌, refl, sym, ap, ap₂, ◌∙◌}
use mathlib.Core.Bool.{Bool, true, false, not, ◌&&◌, ◌||◌, beq}
use mathlib.Core.List.{List, [], ◌∷◌, ◌++◌}
use native.Mathlib.Omega.{arith}
use lib.Dec.{ltb, eqb}
use lib.Bits.{bit_and, bit_or, or_lt, or_add_and, and_le_l, and_le_r}
use borrow.Author.Tests.{ltb-true, ltb-false, lt-ltb, le-ltb, eqb-true, eqb-false}
use Rattle.rules.specs.Log.{every}

pub both : (a b : Bool) → a && b ≡ true → (a ≡ true) × (b ≡ true)
both true b e = (refl, e)
both false b e = (e, cc)

pub not_both : {b : Bool} → b ≡ true → b ≡ false → ⊥
not_both p q = let z : ◌≡◌ {A = ℕ} 0 1 = cc in omega arith

pub and_true : (a : Bool) → a && true ≡ a
and_true true = refl
and_true false = refl

pub and_false : (a : Bool) → a && false ≡ false
and_false true = refl
and_false false = refl

pub and_assoc : (a b c : Bool) → (a && b) && c ≡ a && (b && c)
and_assoc true b c = refl
and_assoc false b c = refl

pub or_true : (a : Bool) → a || true ≡ true
or_true true = refl
or_true false = refl

pub drop-last : (a b c : Bool) → a && (b && c) ≡ true → a && b ≡ true
drop-last true true c e = refl
drop-last true false c e = e
drop-last false b c e = e

pub beq_refl : (a : Bool) → beq a a ≡ true
beq_refl true = refl
beq_refl false = refl

-- ---- a list of tests

-- the i-th test of a list
abbrev pub test : List Bool → ℕ → Bool
test [] i = true
test (b ∷ bs) zero = b
test (b ∷ bs) (suc i) = test bs i

pub every_at : (bs : List Bool) (i : ℕ) → every bs ≡ true → test bs i ≡ true
every_at [] i e = refl
every_at (true ∷ bs) zero e = refl
every_at (true ∷ bs) (suc i) e = every_at bs i e
every_at (false ∷ bs) zero e = e
every_at (false ∷ bs) (suc i) e = cc

pub every_more : (a b : List Bool) → every (a ++ b) ≡ every a && every b
every_more [] b = refl
every_more (x ∷ a) b = ap (λ (r : Bool). x && r) (every_more a b) ∙ sym (and_assoc x (every a) (every b))

-- ---- a choice, seen through a function, and by a negated or a joined test

pub push : {A B : Type 0} (f : A → B) (b : Bool) (x y : A) → f (if b then x else y) ≡ (if b then f x else f y)
push f true x y = refl
push f false x y = refl

pub flip : {A : Type 0} (b : Bool) (x y : A) → (if not b then x else y) ≡ (if b then y else x)
flip true x y = refl
flip false x y = refl

pub either : {A : Type 0} (a b : Bool) (x y : A) → (if a || b then x else y) ≡ (if a then x else (if b then x else y))
either true b x y = refl
either false b x y = refl

-- two words are below a power of 2 as their bits together are
pub either_below : (k a b : ℕ) → ltb (bit_or a b) (2 ^ k) ≡ ltb a (2 ^ k) && ltb b (2 ^ k)
either_below k a b = go (ltb a (2 ^ k)) (ltb b (2 ^ k)) refl refl
  where
    sums : bit_or a b + bit_and a b ≡ a + b
    sums = or_add_and a b

    go : (x y : Bool) → ltb a (2 ^ k) ≡ x → ltb b (2 ^ k) ≡ y → ltb (bit_or a b) (2 ^ k) ≡ x && y
    go true true p q = lt-ltb (bit_or a b) (2 ^ k) (or_lt k a b (ltb-true a (2 ^ k) p) (ltb-true b (2 ^ k) q))
    go true false p q = le-ltb (bit_or a b) (2 ^ k) (omega (arith, sums, ltb-false b (2 ^ k) q, and_le_l a b))
    go false y p q = le-ltb (bit_or a b) (2 ^ k) (omega (arith, sums, ltb-false a (2 ^ k) p, and_le_r a b))

-- and zero, which is below 1
pub either_zero : (a b : ℕ) → eqb (bit_or a b) 0 ≡ eqb a 0 && eqb b 0
either_zero a b = zero_below (bit_or a b) (eqb (bit_or a b) 0) refl ∙ either_below 0 a b ∙ sym (ap₂ ◌&&◌ (zero_below a (eqb a 0) refl) (zero_below b (eqb b 0) refl))
  where
    zero_below : (n : ℕ) (x : Bool) → eqb n 0 ≡ x → eqb n 0 ≡ ltb n (2 ^ 0)
    zero_below n true e = rw (eqb-true n 0 e)
    zero_below n false e = let d = eqb-false n 0 e in e ∙ sym (le-ltb n 1 (omega arith))
