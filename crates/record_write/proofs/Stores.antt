-- Numbers stored one after the other, and a record over the bytes that are there.
use Prim.Native.Nat.{ℕ, zero, suc, ◌+◌, ◌-◌, ◌%◌, ◌*◌, ◌/◌, ◌^◌, ◌<◌, ◌≤◌}
use mathlib.Core.Path.{◌≡◌, refl, sym, ap, ◌∙◌}
use mathlib.Core.List.{List, map, [], ◌∷◌, ◌++◌, append_assoc}
use native.Mathlib.Numerals.{add-one}
use native.Mathlib.Omega.{arith}
use native.Mathlib.Nat.{zero-add, suc-add, mul_comm, pow-suc, div-one, div-div-eq-div-mul}
use lib.IntN.{ℤ}
use lib.Arith.{digits_div, digits_mod, mod-mul}
use lib.ListN.{length, get_or, take, drop, set, replicate, length-append, length-drop, length-replicate}
use lib.Seq.{sets, sets-eq, length-sets, drop-drop, take-suc, length-take-le}
use Rattle.std.proofs.lemmas.List.{map-append, append-nil}
use borrow.Rule.Slice.PartMut.{put_mid}
use borrow.Author.Tests.{lt-ltb, le-ltb, eq-eqb, ne_eqb}
use Rattle.rules.specs.Bytes.{Bytes, zeros, concat, bytes, word, signed_bytes}
use Rattle.rules.specs.Terms.{Terms}
use Rattle.rules.specs.State.{Parts}
use Rattle.rules.specs.Series.{Opening, slot_places}
use Rattle.rules.specs.Record.{record_size, slot_prices_at, eight, eight_signed, fields}
use Rattle.rules.proofs.Bools.{and_false}
use Rattle.rules.proofs.Bytes.{length-bytes, sets_append}
use Rattle.rules.proofs.SlotPrices.{length-eight}
use Rattle.record_write.specs.Stores.{head_fields, seconds_fields, sum_fields, last_fields, record_over, priced_over}

after : (f g l : Bytes) (i j : ℕ) → i + length f ≡ j → sets (sets l i f) j g ≡ sets l i (f ++ g)
after f g l i j e = rw (← e) (sets_append f g l i)

-- bytes stored one by one
pub byte_next : (f l : Bytes) (i k : ℕ) → k < length f → set (sets l i (take k f)) (i + k) (get_or f k 0) ≡ sets l i (take (k + 1) f)
byte_next f l i k h =
    rw (add-one k, take-suc f k 0 h)
    (after (take k f) (get_or f k 0 ∷ []) l i (i + k) (ap (λ (n : ℕ). i + n) (length-take-le k f (omega arith))))

-- numbers, each with its width, stored one after the other
abbrev pub stored : Bytes → ℕ → List (ℕ × ℕ) → Bytes
stored l i [] = l
stored l i ((w, v) ∷ ns) = stored (sets l i (bytes w v)) (i + w) ns

abbrev pub bytes_of : List (ℕ × ℕ) → Bytes
bytes_of [] = []
bytes_of ((w, v) ∷ ns) = bytes w v ++ bytes_of ns

pub numbers_stored : (ns : List (ℕ × ℕ)) (l : Bytes) (i : ℕ) → stored l i ns ≡ sets l i (bytes_of ns)
numbers_stored [] l i = refl
numbers_stored ((w, v) ∷ ns) l i =
    numbers_stored ns (sets l i (bytes w v)) (i + w)
    ∙ ap (λ (n : ℕ). sets (sets l i (bytes w v)) (i + n) (bytes_of ns)) (sym (length-bytes w v)) ∙ sets_append (bytes w v) (bytes_of ns) l i

concat-append : (fs gs : List Bytes) → concat (fs ++ gs) ≡ concat fs ++ concat gs
concat-append [] gs = refl
concat-append (f ∷ fs) gs = ap (λ (r : Bytes). f ++ r) (concat-append fs gs) ∙ sym (append_assoc f (concat fs) (concat gs))

-- numbers of eight bytes, one after the other
module _ {A : Type 0} (v : A → ℕ) where
  abbrev at8 : A → Bytes
  at8 x = bytes 8 (v x)

  length_each : (xs : List A) → length (concat (map at8 xs)) ≡ 8 * length xs
  length_each [] = refl
  length_each (x ∷ xs) = rw (length-append (at8 x) (concat (map at8 xs)), length-bytes 8 (v x), length_each xs) (omega arith)

  pub next_stored : (l : Bytes) (at i : ℕ) (xs : List A) (d : A) {p q : Bytes} → i < length xs → p ≡ sets l at (concat (map at8 (take i xs)))
      → q ≡ sets p (at + 8 * i) (at8 (get_or xs i d)) → q ≡ sets l at (concat (map at8 (take (i + 1) xs)))
  next_stored l at i xs d h e f =
      let n = length_each (take i xs) in
      let k = length-take-le i xs (omega arith) in
      rw (f, e, add-one i, take-suc xs i d h, map-append at8 (take i xs) (get_or xs i d ∷ []), concat-append (map at8 (take i xs)) (at8 (get_or xs i d) ∷ []), append-nil (at8 (get_or xs i d)))
      (after (concat (map at8 (take i xs))) (at8 (get_or xs i d)) l at (at + 8 * i) (omega arith))

above_zero : (m : ℕ) → 0 < 256 ^ m
above_zero zero = omega arith
above_zero (suc m) = rw (pow-suc 256 m) (omega (arith, above_zero m))

-- a number in two parts, the low one first
pub bytes_joined : (m n v : ℕ) → bytes (m + n) v ≡ bytes m (v % 256 ^ m) ++ bytes n (v / 256 ^ m)
unfolding bytes
bytes_joined zero n v = rw (zero-add, div-one)
bytes_joined (suc m) n v =
    let low : v % 256 < 256 = omega arith in
    let digits : v % 256 ^ suc m ≡ v / 256 % 256 ^ m * 256 + v % 256 = rw (pow-suc 256 m) (mod-mul v (above_zero m) (omega arith)) in
    let above : v / 256 ^ suc m ≡ v / 256 / 256 ^ m = rw (pow-suc 256 m, mul_comm (256 ^ m) 256) (sym (div-div-eq-div-mul v 256 (256 ^ m))) in
    rw (suc-add, digits, digits_mod (v / 256 % 256 ^ m) {m = 256} {r = v % 256} low, digits_div (v / 256 % 256 ^ m) {m = 256} {r = v % 256} low, above)
    (ap (λ (l : Bytes). v % 256 ∷ l) (bytes_joined m n (v / 256)))

-- a number written over as many bytes
pub number_put : (at n v : ℕ) (l : Bytes) {f : Bytes} → f ≡ bytes n v → at + n ≤ length l → put_mid at (at + n - at) l f ≡ sets l at (bytes n v)
number_put at n v l e r =
    let k : at + n - at ≡ n = omega arith in
    let h = length-bytes n v in
    rw (k, drop-drop n at l, e, ← append_assoc (take at l) (bytes n v) (drop (at + n) l))
    (sym (sets-eq (bytes n v) l at (omega arith) ∙ ap (λ (m : ℕ). take at l ++ bytes n v ++ drop (at + m) l) h))

-- over the first bytes that are there
first : (f l : Bytes) (n : ℕ) → length f ≡ n → n ≤ length l → sets l 0 f ≡ f ++ drop n l
first f l n e h =
    let k : 0 + length f ≡ n = omega arith in
    sets-eq f l 0 (omega arith) ∙ ap (λ (i : ℕ). f ++ drop i l) k

-- a method's number and three zeros, in four bytes
pub method-bytes : (m : ℕ) → m < 256 → bytes 4 m ++ [] ≡ bytes 1 m ++ (zeros 3 ++ [])
unfolding bytes zeros
method-bytes m h = let e : m / 256 ≡ 0 = omega arith in rw e

pub over_whole : (old new : Bytes) → length old ≡ record_size → record_over old new ≡ new
over_whole old new e = rw (eq-eqb (length old) record_size e)

pub over_other : (old new : Bytes) → (length old ≡ record_size → ⊥) → record_over old new ≡ old
over_other old new h = rw (ne_eqb (length old) record_size h)

module _ (old : Bytes) (i price : ℕ) where
  pub priced-there : length old ≡ record_size → i < slot_places → priced_over old i price ≡ sets old (slot_prices_at + 8 * i) (bytes 8 price)
  priced-there e l = rw (eq-eqb (length old) record_size e, lt-ltb i slot_places l)

  pub priced-other : (length old ≡ record_size → ⊥) → priced_over old i price ≡ old
  priced-other h = rw (ne_eqb (length old) record_size h)

  pub priced_past : slot_places ≤ i → priced_over old i price ≡ old
  priced_past l = simp (le-ltb i slot_places l, and_false)

-- ---- the groups of a record

length-signed : (l : List ℤ) → length l ≡ 5 → length (concat (eight_signed l)) ≡ 40
length-signed l h = go l ∙ ap (λ (n : ℕ). n * 8) h
  where
    go : (l : List ℤ) → length (concat (eight_signed l)) ≡ length l * 8
    go [] = refl
    go (z ∷ l) = rw (length-append (bytes 8 (word 64 z)) (concat (eight_signed l)), length-bytes 8 (word 64 z), go l) (omega arith)

mapped : (l : List ℕ) → map (bytes 8) l ≡ eight l
mapped [] = refl
mapped (v ∷ l) = ap (λ (r : List Bytes). bytes 8 v ∷ r) (mapped l)

mapped_signed : (l : List ℤ) → map (signed_bytes 8) l ≡ eight_signed l
mapped_signed [] = refl
mapped_signed (z ∷ l) = ap (λ (r : List Bytes). signed_bytes 8 z ∷ r) (mapped_signed l)

groups : (a b c d e f l : Bytes) → length a ≡ 12 → length b ≡ 28 → length c ≡ 24 → length d ≡ 40 → length e ≡ 40 → length f ≡ 56 → length l ≡ record_size
    → sets (sets (sets (sets (sets (sets l 0 a) 12 b) 40 c) 64 d) 104 e) 144 f ≡ (a ++ (b ++ (c ++ (d ++ (e ++ f))))) ++ drop slot_prices_at l
groups a b c d e f l ha hb hc hd he hf hl =
    let n1 = length-append a b in
    let n2 = length-append (a ++ b) c in
    let n3 = length-append ((a ++ b) ++ c) d in
    let n4 = length-append (((a ++ b) ++ c) ++ d) e in
    let n5 = length-append ((((a ++ b) ++ c) ++ d) ++ e) f in
    rw (
      after a b l 0 12 (omega arith),
      after (a ++ b) c l 0 40 (omega arith),
      after ((a ++ b) ++ c) d l 0 64 (omega arith),
      after (((a ++ b) ++ c) ++ d) e l 0 104 (omega arith),
      after ((((a ++ b) ++ c) ++ d) ++ e) f l 0 144 (omega arith),
      first (((((a ++ b) ++ c) ++ d) ++ e) ++ f) l slot_prices_at (omega arith) (omega arith),
    )
    (simp append_assoc)

module _ (tag bps samples number price : ℕ) (t : Terms) (E at : ℤ) (s : Parts) where
  abbrev o : Opening
  o = record { terms = t; bps = bps; expiry = E }

  -- the sum is stored as one number; the rules have its halves
  abbrev halves : List Bytes
  halves = signed_bytes 8 E ∷ bytes 8 (s.sum % 2 ^ 64) ∷ bytes 8 (s.sum / 2 ^ 64) ∷ []

  sum_halves : concat (sum_fields E s.sum) ≡ concat halves
  sum_halves =
      let e : bytes 16 s.sum ≡ bytes 8 (s.sum % 2 ^ 64) ++ bytes 8 (s.sum / 2 ^ 64) = bytes_joined 8 8 s.sum in
      rw e (ap (λ (l : Bytes). signed_bytes 8 E ++ l) (append_assoc (bytes 8 (s.sum % 2 ^ 64)) (bytes 8 (s.sum / 2 ^ 64)) []))

  halves_stored : (l : Bytes) → length l ≡ record_size → length s.times ≡ 5 → length s.prices ≡ 5
      → sets (sets (sets (sets (sets (sets l 0 (concat (head_fields tag t s.links bps samples)))
      12 (concat (seconds_fields t s.bits number))) 40 (concat halves))
      64 (concat (eight_signed s.times))) 104 (concat (eight s.prices)))
      144 (concat (last_fields s.fallback_time s.fallback_price s.window_changed s.link_changed s.fallback_changed at price))
      ≡ concat (fields tag o s samples number at price) ++ drop slot_prices_at l
  unfolding fields bytes zeros
  halves_stored l hl ht hp =
      groups
      (concat (head_fields tag t s.links bps samples)) (concat (seconds_fields t s.bits number)) (concat halves)
      (concat (eight_signed s.times)) (concat (eight s.prices))
      (concat (last_fields s.fallback_time s.fallback_price s.window_changed s.link_changed s.fallback_changed at price))
      l refl refl refl (length-signed s.times ht) (length-eight s.prices ∙ ap (λ (n : ℕ). 8 * n) hp) refl hl
      ∙ rw (concat-append (eight_signed s.times) _, concat-append (eight s.prices) _) refl

  pub record-stored : (l : Bytes) → length l ≡ record_size → length s.times ≡ 5 → length s.prices ≡ 5
      → sets (sets (sets (sets (sets (sets l 0 (concat (head_fields tag t s.links bps samples)))
      12 (concat (seconds_fields t s.bits number))) 40 (concat (sum_fields E s.sum)))
      64 (concat (map (signed_bytes 8) s.times))) 104 (concat (map (bytes 8) s.prices)))
      144 (concat (last_fields s.fallback_time s.fallback_price s.window_changed s.link_changed s.fallback_changed at price))
      ≡ concat (fields tag o s samples number at price) ++ drop slot_prices_at l
  record-stored l hl ht hp = rw (sum_halves, mapped_signed s.times, mapped s.prices) (halves_stored l hl ht hp)

  pub length_fields : length s.times ≡ 5 → length s.prices ≡ 5 → length (concat (fields tag o s samples number at price)) ≡ slot_prices_at
  unfolding zeros
  length_fields ht hp =
      let l : Bytes = replicate record_size 0 in
      let n : length l ≡ record_size = length-replicate {A = ℕ} record_size 0 in
      let e = simp (length-sets, length-append, length-drop) at (ap (λ (x : Bytes). length x) (record-stored l n ht hp)) in
      omega (arith, e, n)
