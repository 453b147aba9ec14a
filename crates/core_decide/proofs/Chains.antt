-- The sum of the first prices of a list.
use Prim.Native.Nat.{ℕ, zero, suc, min, ◌+◌, ◌-◌, ◌*◌, ◌^◌, ◌≤◌, ◌<◌}
use mathlib.Core.Path.{◌≡◌, refl, sym, ap, ◌∙◌}
use mathlib.Core.Bool.{Bool, true, false}
use mathlib.Core.List.{List, [], ◌∷◌}
use native.Mathlib.Omega.{arith}
use native.Mathlib.Nat.{zero-add, suc-add}
use native.Mathlib.Numerals.{add-one}
use borrow.Author.Tests.{leb-true, leb-false}
use lib.Dec.{leb, lit<}
use lib.ListN.{length, get_or, get_or-eq_default}
use mir.Syntax.{w64}
use mir.Val.{Val}
use denote.Shadow.{shadow}
use denote.Laws.{Is}
use denote.Plain.{UInt}
use denote.Array.{Array, each}
use Rattle.rules.specs.Log.{front, total}

pub total_next : (xs : List ℕ) (n : ℕ) → total (front 0 (n + 1) xs) ≡ total (front 0 n xs) + get_or xs n 0
unfolding front
total_next xs n = rw add-one

-- past the list's end there is nothing to add
total_past : (xs : List ℕ) (n k : ℕ) → length xs ≤ n → total (front 0 (k + n) xs) ≡ total (front 0 n xs)
unfolding front
total_past xs n zero h = rw zero-add
total_past xs n (suc k) h = rw (suc-add, total_past xs n k h, get_or-eq_default xs 0 {n = k + n} (omega arith)) (omega arith)

pub total_min : (xs : List ℕ) (n k : ℕ) → length xs ≡ k → total (front 0 (min n k) xs) ≡ total (front 0 n xs)
total_min xs n k e = go (leb n k) refl
  where
    go : (b : Bool) → leb n k ≡ b → total (front 0 (min n k) xs) ≡ total (front 0 n xs)
    go true q =
        let m : min n k ≡ n = omega (arith, leb-true n k q) in
        rw m
    go false q =
        let l = leb-false n k q in
        let m : min n k ≡ k = omega arith in
        let p : n ≡ (n - k) + k = omega arith in
        rw m (sym (ap (λ (i : ℕ). total (front 0 i xs)) p ∙ total_past xs k (n - k) (omega arith)))

-- every word of an array that a function was given fits
words_fit : (xs : List ℕ) (us : List Val) → shadow (each ℕ (UInt w64).own_val xs us) → (i : ℕ) → get_or xs i 0 < 2 ^ 64
words_fit [] us s i = lit< tt
words_fit (x ∷ xs) (u ∷ us) s zero = s.0.1
words_fit (x ∷ xs) (u ∷ us) s (suc i) = words_fit xs us s.1 i
words_fit (x ∷ xs) [] s i = absurd s

pub word_fits : (k : ℕ) (xs : List ℕ) (vs : List Val) → Is (Array (UInt w64) k) xs vs → (i : ℕ) → get_or xs i 0 < 2 ^ 64
word_fits k xs vs p i = words_fit xs p.0 p.1.1 i

-- the first i places of a chain of len prices add up to high * 2^64 + low; as each price is below 2^64, that is at most i * (2^64 - 1)
unfoldable pub Added : List ℕ → ℕ → ℕ → ℕ → ℕ → Type 0
Added xs len i high low = (high * 2 ^ 64 + low ≡ total (front 0 (min i len) xs)) × (low < 2 ^ 64) × (high * 2 ^ 64 + low + i ≤ i * 2 ^ 64)

pub added_none : (xs : List ℕ) (len : ℕ) → Added xs len 0 0 0
unfolding Added front
added_none xs len =
    let e : min 0 len ≡ 0 = omega arith in
    (rw e, lit< tt, omega arith)

-- one place more
module _ (xs : List ℕ) (len i high low high' low' : ℕ) (added : Added xs len i high low) where
  pub added_past : len ≤ i → high' ≡ high → low' ≡ low → Added xs len (i + 1) high' low'
  unfolding Added
  added_past h p q =
      let e : min (i + 1) len ≡ min i len = omega arith in
      rw (p, q, e) (added.0, added.1, omega (arith, added.2))

  -- a price, by whether low is more than it leaves room for
  module _ (h : i < len) (fits : get_or xs i 0 < 2 ^ 64) where
    next : total (front 0 (min (i + 1) len) xs) ≡ total (front 0 (min i len) xs) + get_or xs i 0
    next =
        let e : min (i + 1) len ≡ i + 1 = omega arith in
        let f : min i len ≡ i = omega arith in
        rw (e, f) (total_next xs i)

    more : low' < 2 ^ 64 → high' * 2 ^ 64 + low' ≡ high * 2 ^ 64 + low + get_or xs i 0 → Added xs len (i + 1) high' low'
    unfolding Added
    more below e = (omega (arith, next, added.0), below, omega (arith, added.2))

    pub added_kept : low ≤ 2 ^ 64 - 1 - get_or xs i 0 → high' ≡ high → low' ≡ low + get_or xs i 0 → Added xs len (i + 1) high' low'
    added_kept room same sum = more (omega arith) (omega arith)

    pub added_carried : 2 ^ 64 - 1 - get_or xs i 0 < low → high' ≡ high + 1 → low' ≡ low - (2 ^ 64 - 1 - get_or xs i 0) - 1 → Added xs len (i + 1) high' low'
    unfolding Added
    added_carried room up sum =
        let e : 2 ^ 64 + low' ≡ low + get_or xs i 0 = omega arith in
        more (omega (arith, e, added.1)) (omega (arith, e))

pub added_few : (xs : List ℕ) (len i high low : ℕ) → Added xs len i high low → i ≤ 5 → high ≤ 4
unfolding Added
added_few xs len i high low added few = omega (arith, added.2)

pub added_all : (xs : List ℕ) (len i high low : ℕ) → length xs ≡ 5 → i ≡ 5 → Added xs len i high low → (high * 2 ^ 64 + low ≡ total (front 0 len xs)) × (high ≤ 4)
unfolding Added
added_all xs len i high low five e added =
    let m : min i len ≡ min len 5 = omega arith in
    (added.0 ∙ ap (λ (k : ℕ). total (front 0 k xs)) m ∙ total_min xs len 5 five, added_few xs len i high low added (omega arith))
