-- ℤ for omega, which reads natural numbers alone: z is up z − dn z, and one of the two is 0. Each test, sum and difference is then a fact about naturals.
use Prim.Native.Nat.{ℕ, zero, suc, ◌+◌, ◌-◌, ◌≤◌, ◌<◌, min}
use mathlib.Core.Path.{◌≡◌, refl, sym, ap}
use mathlib.Core.Bool.{Bool, true, false, not, ◌&&◌, cond}
use native.Mathlib.Omega.{arith}
use lib.IntN.{ℤ, pos, negsuc, neg_ℤ, nat_abs, sub_ℕ, ◌+ℤ◌, ◌-ℤ◌}
use lib.Signed.{lt_z, le_z}
use lib.Dec.{ltb}
use borrow.Author.Tests.{ltb-true, ltb-false, leb-true, leb-false, lt-ltb, le-ltb, le-leb, lt-leb}

-- omega, reading and proving the tests on ℕ
pub ruleset tests = (arith, ltb-true, ltb-false, leb-true, leb-false, lt-ltb, le-ltb, le-leb, lt-leb)

abbrev pub up : ℤ → ℕ
up (pos n) = n
up (negsuc n) = 0

abbrev pub dn : ℤ → ℕ
dn (pos n) = 0
dn (negsuc n) = suc n

pub apart : (z : ℤ) → min (up z) (dn z) ≡ 0
apart (pos n) = omega arith
apart (negsuc n) = omega arith

monus_at : (a b : ℕ) (t : Bool) → ltb a b ≡ t → up (cond t (negsuc (b - suc a)) (pos (a - b))) + b ≡ dn (cond t (negsuc (b - suc a)) (pos (a - b))) + a
monus_at a b true e = omega (arith, ltb-true a b e)
monus_at a b false e = omega (arith, ltb-false a b e)

monus_law : (a b : ℕ) → up (sub_ℕ a b) + b ≡ dn (sub_ℕ a b) + a
monus_law a b = monus_at a b (ltb a b) refl

pub sum_law : (m k : ℤ) → up (m +ℤ k) + (dn m + dn k) ≡ dn (m +ℤ k) + (up m + up k)
sum_law (pos a) (pos b) = omega arith
sum_law (pos a) (negsuc b) = omega (arith, monus_law a (suc b))
sum_law (negsuc a) (pos b) = omega (arith, monus_law b (suc a))
sum_law (negsuc a) (negsuc b) = omega arith

neg_up : (z : ℤ) → up (neg_ℤ z) ≡ dn z
neg_up (pos zero) = refl
neg_up (pos (suc n)) = refl
neg_up (negsuc n) = refl

neg_dn : (z : ℤ) → dn (neg_ℤ z) ≡ up z
neg_dn (pos zero) = refl
neg_dn (pos (suc n)) = refl
neg_dn (negsuc n) = refl

pub difference_law : (m k : ℤ) → up (m -ℤ k) + (dn m + up k) ≡ dn (m -ℤ k) + (up m + dn k)
difference_law m k = omega (arith, sum_law m (neg_ℤ k), neg_up k, neg_dn k)

no_way : true ≡ false → ⊥
no_way e = let z : ◌≡◌ {A = ℕ} 0 1 = cc in omega arith

-- a test, and what it says
pub lt_yes : (a b : ℤ) → lt_z a b ≡ true → up a + dn b < up b + dn a
lt_yes (pos a) (pos b) e = omega (arith, ltb-true a b e)
lt_yes (pos a) (negsuc b) e = absurd (no_way (sym e))
lt_yes (negsuc a) (pos b) e = omega arith
lt_yes (negsuc a) (negsuc b) e = omega (arith, ltb-true b a e)

pub lt_no : (a b : ℤ) → lt_z a b ≡ false → up b + dn a ≤ up a + dn b
lt_no (pos a) (pos b) e = omega (arith, ltb-false a b e)
lt_no (pos a) (negsuc b) e = omega arith
lt_no (negsuc a) (pos b) e = absurd (no_way e)
lt_no (negsuc a) (negsuc b) e = omega (arith, ltb-false b a e)

pub le_yes : (a b : ℤ) → le_z a b ≡ true → up a + dn b ≤ up b + dn a
le_yes (pos a) (pos b) e = omega (arith, leb-true a b e)
le_yes (pos a) (negsuc b) e = absurd (no_way (sym e))
le_yes (negsuc a) (pos b) e = omega arith
le_yes (negsuc a) (negsuc b) e = omega (arith, leb-true b a e)

pub le_no : (a b : ℤ) → le_z a b ≡ false → up b + dn a < up a + dn b
le_no (pos a) (pos b) e = omega (arith, leb-false a b e)
le_no (pos a) (negsuc b) e = omega arith
le_no (negsuc a) (pos b) e = absurd (no_way e)
le_no (negsuc a) (negsuc b) e = omega (arith, leb-false b a e)

pub yes_lt : (a b : ℤ) → up a + dn b < up b + dn a → lt_z a b ≡ true
yes_lt (pos a) (pos b) h = lt-ltb a b (omega arith)
yes_lt (pos a) (negsuc b) h = absurd (omega arith)
yes_lt (negsuc a) (pos b) h = refl
yes_lt (negsuc a) (negsuc b) h = lt-ltb b a (omega arith)

pub no_lt : (a b : ℤ) → up b + dn a ≤ up a + dn b → lt_z a b ≡ false
no_lt (pos a) (pos b) h = le-ltb a b (omega arith)
no_lt (pos a) (negsuc b) h = refl
no_lt (negsuc a) (pos b) h = absurd (omega arith)
no_lt (negsuc a) (negsuc b) h = le-ltb b a (omega arith)

pub yes_le : (a b : ℤ) → up a + dn b ≤ up b + dn a → le_z a b ≡ true
yes_le (pos a) (pos b) h = le-leb a b (omega arith)
yes_le (pos a) (negsuc b) h = absurd (omega arith)
yes_le (negsuc a) (pos b) h = refl
yes_le (negsuc a) (negsuc b) h = le-leb b a (omega arith)

pub no_le : (a b : ℤ) → up b + dn a < up a + dn b → le_z a b ≡ false
no_le (pos a) (pos b) h = lt-leb a b (omega arith)
no_le (pos a) (negsuc b) h = refl
no_le (negsuc a) (pos b) h = absurd (omega arith)
no_le (negsuc a) (negsuc b) h = lt-leb b a (omega arith)

pub same : (a b : ℤ) → up a + dn b ≡ up b + dn a → a ≡ b
same (pos a) (pos b) h = ap pos (omega arith)
same (pos a) (negsuc b) h = absurd (omega arith)
same (negsuc a) (pos b) h = absurd (omega arith)
same (negsuc a) (negsuc b) h = ap negsuc (omega arith)

-- the magnitude
pub abs_is : (z : ℤ) → nat_abs z ≡ up z + dn z
abs_is (pos n) = omega arith
abs_is (negsuc n) = omega arith

-- ---- the order's laws, in the form of tests

pub lt_le_trans : (a b c : ℤ) → lt_z a b ≡ true → le_z b c ≡ true → lt_z a c ≡ true
lt_le_trans a b c h k = yes_lt a c (omega (arith, lt_yes a b h, le_yes b c k))

pub le_lt_trans : (a b c : ℤ) → le_z a b ≡ true → lt_z b c ≡ true → lt_z a c ≡ true
le_lt_trans a b c h k = yes_lt a c (omega (arith, le_yes a b h, lt_yes b c k))

pub le_trans : (a b c : ℤ) → le_z a b ≡ true → le_z b c ≡ true → le_z a c ≡ true
le_trans a b c h k = yes_le a c (omega (arith, le_yes a b h, le_yes b c k))

pub le_refl : (a : ℤ) → le_z a a ≡ true
le_refl a = yes_le a a (omega arith)

pub lt_le : (a b : ℤ) → lt_z a b ≡ true → le_z a b ≡ true
lt_le a b h = yes_le a b (omega (arith, lt_yes a b h))

-- a failed test is the other test passed
pub lt_false : (a b : ℤ) → lt_z a b ≡ false → le_z b a ≡ true
lt_false a b h = yes_le b a (lt_no a b h)

pub lt_true : (a b : ℤ) → lt_z a b ≡ true → le_z b a ≡ false
lt_true a b h = no_le b a (lt_yes a b h)

pub le_false : (a b : ℤ) → le_z a b ≡ false → lt_z b a ≡ true
le_false a b h = yes_lt b a (le_no a b h)

pub le_true : (a b : ℤ) → le_z a b ≡ true → lt_z b a ≡ false
le_true a b h = no_lt b a (le_yes a b h)

pub le_not_lt : (a b : ℤ) → le_z a b ≡ not (lt_z b a)
le_not_lt a b = go (lt_z b a) refl
  where
    go : (t : Bool) → lt_z b a ≡ t → le_z a b ≡ not t
    go true e = lt_true b a e
    go false e = lt_false b a e

-- two numbers that are at most each other
pub both_le : (a b : ℤ) → le_z a b && le_z b a ≡ true → a ≡ b
both_le a b h = go (le_z a b) (le_z b a) refl refl h
  where
    go : (x y : Bool) → le_z a b ≡ x → le_z b a ≡ y → x && y ≡ true → a ≡ b
    go true true p q h = same a b (omega (arith, le_yes a b p, le_yes b a q))
    go true false p q h = absurd (no_way (sym h))
    go false y p q h = absurd (no_way (sym h))
