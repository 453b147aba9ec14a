-- Numbers in the bytes of a list from an offset on.
use Prim.Native.Nat.{ℕ, zero, suc, ◌+◌, ◌*◌, ◌-◌, ◌^◌, ◌≤◌, ◌<◌}
use mathlib.Core.Path.{◌≡◌, refl, sym, ap, ◌∙◌}
use mathlib.Core.Bool.{Bool, true, false, ◌&&◌}
use mathlib.Core.List.{List, [], ◌∷◌, ◌++◌}
use native.Mathlib.Omega.{arith}
use native.Mathlib.Nat.{zero-add, suc-add, pow-suc, mul_left_comm}
use lib.Dec.{leb, eqb}
use lib.ListN.{length, take, drop, replicate}
use lib.Seq.{take_all, take-nil, drop-drop}
use borrow.Author.Tests.{eq-eqb, ne_eqb, eqb-true, eqb-false, le-leb, lt-leb, leb-true, leb-false}
use Rattle.rules.proofs.Bools.{and_true}
use Rattle.rules.specs.Bytes.{little, unsigned_at, all_zero}

little_none : (n : ℕ) → little (replicate n 0) ≡ 0
little_none zero = refl
little_none (suc n) = omega (arith, little_none n)

little_zeros : (k n : ℕ) → little (drop k (replicate n 0)) ≡ 0
little_zeros zero n = little_none n
little_zeros (suc k) zero = refl
little_zeros (suc k) (suc n) = little_zeros k n

-- zeros above a number add nothing
padded_is : (l : List ℕ) (k n : ℕ) → little (l ++ drop k (replicate n 0)) ≡ little l
padded_is [] k n = little_zeros k n
padded_is (x ∷ l) k n = ap (λ (m : ℕ). x + 256 * m) (padded_is l k n)

pub little_padded : {l m : List ℕ} (k n : ℕ) → l ≡ m → little (l ++ drop k (replicate n 0)) ≡ little m
little_padded {l} {m} k n e = padded_is l k n ∙ ap little e

pub whole_at : (bs all : List ℕ) (at n : ℕ) → all ≡ take n (drop at bs) → little all ≡ unsigned_at bs at n
unfolding unsigned_at
whole_at bs all at n e = ap little e

-- where bytes are missing, the number is in those that are left
pub short_at : {m : ℕ} (bs left : List ℕ) (at n : ℕ) → left ≡ drop at bs → length left < n → m ≡ little left → m ≡ unsigned_at bs at n
unfolding unsigned_at
short_at bs left at n e h f = f ∙ sym (ap little (ap (take n) (sym e) ∙ take_all n left (omega arith)))

-- a number is zero where its bytes are
little_zero : (l : List ℕ) → eqb (little l) 0 ≡ all_zero l
little_zero [] = refl
little_zero (b ∷ l) = go (eqb b 0) refl ∙ ap (λ (t : Bool). eqb b 0 && t) (little_zero l)
  where
    tail : (t : Bool) → eqb (little l) 0 ≡ t → b ≡ 0 → eqb (b + 256 * little l) 0 ≡ t
    tail true q e = let h = eqb-true (little l) 0 q in eq-eqb (b + 256 * little l) 0 (omega arith)
    tail false q e = let h = eqb-false (little l) 0 q in ne_eqb (b + 256 * little l) 0 (λ k. h (omega arith))

    go : (s : Bool) → eqb b 0 ≡ s → eqb (b + 256 * little l) 0 ≡ s && eqb (little l) 0
    go true p = tail (eqb (little l) 0) refl (eqb-true b 0 p)
    go false p = let h = eqb-false b 0 p in ne_eqb (b + 256 * little l) 0 (λ k. h (omega arith))

pub zero_at : (bs : List ℕ) (at n : ℕ) → eqb (unsigned_at bs at n) 0 ≡ all_zero (take n (drop at bs))
unfolding unsigned_at
zero_at bs at n = little_zero (take n (drop at bs))

-- a number in two parts, the low one first
joined : (m n : ℕ) (l : List ℕ) → little (take (m + n) l) ≡ little (take n (drop m l)) * 256 ^ m + little (take m l)
joined zero n l = rw zero-add (omega arith)
joined (suc m) n [] = rw (take-nil (suc m + n), take-nil n) (omega arith)
joined (suc m) n (x ∷ l) = rw (suc-add, pow-suc 256 m) (omega (arith, joined m n l, mul_left_comm 256 (little (take n (drop m l))) (256 ^ m)))

pub joined_at : (bs : List ℕ) (at m n : ℕ) → unsigned_at bs at (m + n) ≡ unsigned_at bs (at + m) n * 256 ^ m + unsigned_at bs at m
unfolding unsigned_at
joined_at bs at m n = joined m n (drop at bs) ∙ ap (λ (l : List ℕ). little (take n l) * 256 ^ m + little (take m (drop at bs))) (drop-drop m at bs)

pub there_is : (len at n : ℕ) → n ≤ len → leb at (len - n) ≡ leb (at + n) len
there_is len at n h = go (leb at (len - n)) refl
  where
    go : (b : Bool) → leb at (len - n) ≡ b → b ≡ leb (at + n) len
    go true e = sym (le-leb (at + n) len (omega (arith, leb-true at (len - n) e)))
    go false e = sym (lt-leb (at + n) len (omega (arith, leb-false at (len - n) e)))

-- the number that was read is b, or is not
pub met : {r a : ℕ} (b : ℕ) → r ≡ a → r ≡ b → eqb a b ≡ true
met {r} {a} b e h = eq-eqb a b (sym e ∙ h)

pub missed : {r a : ℕ} (b : ℕ) → r ≡ a → (r ≡ b → ⊥) → eqb a b ≡ false
missed {r} {a} b e h = ne_eqb a b (λ x. h (e ∙ x))

-- four tests, of which three passed
pub fourth : (a b d : Bool) {r e : Bool} → a ≡ true → b ≡ true → d ≡ true → r ≡ e → r ≡ a && (b && (d && (e && true)))
fourth a b d {r} {e} p q s h = rw (p, q, s, and_true e) h
