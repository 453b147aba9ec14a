-- Numbers in bytes: reading and writing undo each other. One law for every width.
use Rattle.std.specs.Prelude.{if◌then◌else◌}
use Prim.Native.Nat.{ℕ, zero, suc, ◌+◌, ◌*◌, ◌-◌, ◌/◌, ◌%◌, ◌^◌, ◌<◌, ◌≤◌}
use mathlib.Core.Path.{◌≡◌, refl, sym, ap, ap₂, ◌∙◌}
use mathlib.Core.Bool.{Bool, true, false}
use mathlib.Core.List.{[], ◌∷◌, ◌++◌}
use native.Mathlib.Omega.{arith}
use native.Mathlib.Nat.{add-zero, add-suc, suc-add, sub-zero, pow-suc}
use lib.ListN.{length, get_or, take, drop, set, replicate, length-take, length-drop}
use lib.Seq.{sets, take-nil}
use lib.IntN.{ℤ, pos, negsuc}
use lib.Signed.{mag}
use lib.Dec.{ltb, eqb}
use lib.Pow.{pow_pos}
use mir.Syntax.{w8}
use mir.Val.{Fits}
use borrow.Author.Tests.{ltb-true, lt-ltb, le-ltb, eqb-true}
use Rattle.rules.proofs.Bools.{both}
use Rattle.rules.proofs.Integers.{tests}
use Rattle.rules.specs.Bytes.{Bytes, are_bytes, all_zero, little, signed, unsigned_at, signed_at, bytes, word, fits_unsigned, fits_signed, fits}

-- ---- lists of bytes

-- what a slice of bytes holds
pub are_bytes_lem : (bs : Bytes) → ((i : ℕ) → Fits w8 (get_or bs i 0)) → are_bytes bs ≡ true
are_bytes_lem [] h = refl
are_bytes_lem (b ∷ bs) h = rw (lt-ltb b 256 (h 0).fits, are_bytes_lem bs (λ i. h (suc i)))

pub drop-bytes : (n : ℕ) (bs : Bytes) → are_bytes bs ≡ true → are_bytes (drop n bs) ≡ true
drop-bytes zero bs h = h
drop-bytes (suc n) [] h = refl
drop-bytes (suc n) (b ∷ bs) h = drop-bytes n bs (both (ltb b 256) (are_bytes bs) h).1

pub take-bytes : (n : ℕ) (bs : Bytes) → are_bytes bs ≡ true → are_bytes (take n bs) ≡ true
take-bytes zero bs h = refl
take-bytes (suc n) [] h = refl
take-bytes (suc n) (b ∷ bs) h = let (x, y) = both (ltb b 256) (are_bytes bs) h in rw (x, take-bytes n bs y)

pub drop-take : (m n : ℕ) (l : Bytes) → m ≤ n → drop m (take n l) ≡ take (n - m) (drop m l)
drop-take zero n l h = rw sub-zero
drop-take (suc m) zero l h = absurd (omega arith)
drop-take (suc m) (suc n) [] h = sym (take-nil (suc n - suc m))
drop-take (suc m) (suc n) (x ∷ l) h = let e : suc n - suc m ≡ n - m = omega arith in rw e (drop-take m n l (omega arith))

pub all_zero_lem : (bs : Bytes) → all_zero bs ≡ true → replicate (length bs) 0 ≡ bs
all_zero_lem [] h = refl
all_zero_lem (b ∷ bs) h = let (x, y) = both (eqb b 0) (all_zero bs) h in ap₂ ◌∷◌ (sym (eqb-true b 0 x)) (all_zero_lem bs y)

-- ---- unsigned

pub length-bytes : (n v : ℕ) → length (bytes n v) ≡ n
unfolding bytes
length-bytes zero v = refl
length-bytes (suc n) v = ap suc (length-bytes n (v / 256))

pub bytes_are : (n v : ℕ) → are_bytes (bytes n v) ≡ true
unfolding bytes
bytes_are zero v = refl
bytes_are (suc n) v = rw (lt-ltb (v % 256) 256 (omega arith), bytes_are n (v / 256))

little-back : (n v : ℕ) → v < 256 ^ n → little (bytes n v) ≡ v
unfolding bytes
little-back zero v h = omega arith
little-back (suc n) v h = omega (arith, little-back n (v / 256) (omega (arith, pow-suc 256 n)))

pub little-bytes : (n v : ℕ) → fits_unsigned n v ≡ true → little (bytes n v) ≡ v
little-bytes n v f = little-back n v (ltb-true v (256 ^ n) f)

pub little-below : (n : ℕ) (bs : Bytes) → are_bytes bs ≡ true → little (take n bs) < 256 ^ n
little-below zero bs h = omega arith
little-below (suc n) [] h = omega (arith, little-below n [] refl, pow-suc 256 n)
little-below (suc n) (b ∷ bs) h =
    let (x, y) = both (ltb b 256) (are_bytes bs) h in
    omega (tests, little-below n bs y, pow-suc 256 n)

pub bytes-little : (bs : Bytes) → are_bytes bs ≡ true → bytes (length bs) (little bs) ≡ bs
unfolding bytes
bytes-little [] h = refl
bytes-little (b ∷ bs) h =
    let (x, y) = both (ltb b 256) (are_bytes bs) h in
    let x = ltb-true b 256 x in
    let low : (b + 256 * little bs) % 256 ≡ b = omega arith in
    let high : (b + 256 * little bs) / 256 ≡ little bs = omega arith in
    rw (low, high, bytes-little bs y)

-- the number in n bytes writes back as these bytes
pub field_back : (bs : Bytes) → are_bytes bs ≡ true → (i n : ℕ) → i + n ≤ length bs → bytes n (unsigned_at bs i n) ≡ take n (drop i bs)
unfolding unsigned_at
field_back bs are i n h =
    let size : length (take n (drop i bs)) ≡ n = simp (length-take, length-drop) (omega arith) in
    ap (λ (x : ℕ). bytes x (little (take n (drop i bs)))) (sym size) ∙ bytes-little (take n (drop i bs)) (take-bytes n (drop i bs) (drop-bytes i bs are))

-- ---- two's complement in w + 1 bits

module _ (w : ℕ) where
  less : suc w - 1 ≡ w
  less = omega arith

  pub signed_word : (z : ℤ) → ltb (mag z) (2 ^ w) ≡ true → signed (suc w) (word (suc w) z) ≡ z
  unfolding signed word
  signed_word (pos n) h = rw (less, h)
  signed_word (negsuc n) h =
      let p = pow-suc 2 w in
      rw (less, le-ltb (2 ^ suc w - 1 - n) (2 ^ w) (omega tests)) (ap negsuc (omega tests))

  pub word_below : (z : ℤ) → ltb (mag z) (2 ^ w) ≡ true → word (suc w) z < 2 ^ suc w
  unfolding word
  word_below (pos n) h = omega (tests, pow-suc 2 w)
  word_below (negsuc n) h = omega (tests, pow-suc 2 w, pow_pos w)

  pub signed-fits : (n : ℕ) → ltb (mag (signed (suc w) n)) (2 ^ w) ≡ true
  unfolding signed
  signed-fits n = rw less (go (ltb n (2 ^ w)) refl)
    where
      go : (b : Bool) → ltb n (2 ^ w) ≡ b → ltb (mag (if b then pos n else negsuc (2 ^ suc w - 1 - n))) (2 ^ w) ≡ true
      go true e = e
      go false e = lt-ltb (2 ^ suc w - 1 - n) (2 ^ w) (omega (tests, pow-suc 2 w, pow_pos w))

  pub word-signed : (n : ℕ) → n < 2 ^ suc w → word (suc w) (signed (suc w) n) ≡ n
  unfolding signed word
  word-signed n h = rw less (go (ltb n (2 ^ w)))
    where
      go : (b : Bool) → word (suc w) (if b then pos n else negsuc (2 ^ suc w - 1 - n)) ≡ n
      go true = refl
      go false = omega arith

-- ---- what is read fits

pub unsigned_fits : (bs : Bytes) (i n : ℕ) → are_bytes bs ≡ true → fits_unsigned n (unsigned_at bs i n) ≡ true
unfolding unsigned_at
unsigned_fits bs i n h = lt-ltb _ _ (little-below n (drop i bs) (drop-bytes i bs h))

-- a time in eight bytes, an exponent in one
pub signed-fits_8 : (bs : Bytes) (i : ℕ) → fits (signed_at bs i 8) ≡ true
unfolding signed_at
signed-fits_8 bs i = signed-fits 63 (unsigned_at bs i 8)

pub signed-fits_1 : (bs : Bytes) (i : ℕ) → fits_signed 1 (signed_at bs i 1) ≡ true
unfolding signed_at
signed-fits_1 bs i = signed-fits 7 (unsigned_at bs i 1)

-- ---- bytes stored one after the other

pub sets_append : (f g l : Bytes) (i : ℕ) → sets (sets l i f) (i + length f) g ≡ sets l i (f ++ g)
sets_append [] g l i = rw add-zero
sets_append (x ∷ f) g l i = rw (add-suc, ← suc-add) (sets_append f g (set l i x) (suc i))
