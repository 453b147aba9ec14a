-- The slot prices in a record's bytes: what was read writes back, and one price written over another.
use Prim.Native.Nat.{ℕ, zero, suc, ◌+◌, ◌*◌, ◌<◌, ◌≤◌}
use mathlib.Core.Path.{◌≡◌, refl, sym, ap, ◌∙◌}
use mathlib.Core.Bool.{true}
use mathlib.Core.List.{List, [], ◌∷◌, ◌++◌, append_assoc}
use native.Mathlib.Omega.{arith}
use lib.ListN.{length, get_or, take, drop, set, replicate, length-append, length-drop, length-set}
use lib.Seq.{sets, sets-eq, take_all, take-add, drop-drop, take-append-add, drop-append-add}
use Rattle.rules.proofs.Logs.{length_list, list_at, list_is}
use Rattle.rules.proofs.Bytes.{length-bytes, all_zero_lem, field_back}
use Rattle.rules.specs.Log.{list_from}
use Rattle.rules.specs.Bytes.{Bytes, are_bytes, all_zero, concat, unsigned_at, bytes}
use Rattle.rules.specs.Series.{slot_places}
use Rattle.rules.specs.Record.{record_size, slot_prices_at, eight, price_bytes, prices_in}

-- ---- numbers of eight bytes, one after the other

eights_back : (bs : Bytes) → are_bytes bs ≡ true → (at i n : ℕ) → at + 8 * (i + n) ≤ length bs
    → concat (eight (list_from i n (λ j. unsigned_at bs (at + 8 * j) 8))) ≡ take (8 * n) (drop (at + 8 * i) bs)
eights_back bs are at i zero h = refl
eights_back bs are at i (suc n) h =
    let more : 8 * suc n ≡ 8 + 8 * n = omega arith in
    let on : at + 8 * suc i ≡ at + 8 * i + 8 = omega arith in
    rw (field_back bs are (at + 8 * i) 8 (omega arith), eights_back bs are at (suc i) n (omega arith), more, on, ← drop-drop 8 (at + 8 * i) bs)
    (sym (take-add 8 (8 * n) (drop (at + 8 * i) bs)))

pub length-eight : (xs : List ℕ) → length (concat (eight xs)) ≡ 8 * length xs
length-eight [] = refl
length-eight (x ∷ xs) = rw (length-append (bytes 8 x) (concat (eight xs)), length-bytes 8 x, length-eight xs) (omega arith)

-- bytes stored after the first f of a list
sets_after : (f g x : Bytes) (i : ℕ) → i + length x ≤ length g → sets (f ++ g) (length f + i) x ≡ f ++ sets g i x
sets_after f g x i h =
    let n = length-append f g in
    let e : length f + i + length x ≡ length f + (i + length x) = omega arith in
    sets-eq x (f ++ g) (length f + i) (omega arith)
    ∙ rw (e, take-append-add f g i, drop-append-add f g (i + length x), sets-eq x g i h) (simp append_assoc)

-- one of them stored over another
eight-set : (xs : List ℕ) (i v : ℕ) → i < length xs → sets (concat (eight xs)) (8 * i) (bytes 8 v) ≡ concat (eight (set xs i v))
unfolding bytes
eight-set [] i v l = absurd (omega arith)
eight-set (x ∷ xs) zero v l =
    let n = length-bytes 8 v in
    let m = length-bytes 8 x in
    let k = length-append (bytes 8 x) (concat (eight xs)) in
    let e : length (bytes 8 v) ≡ length (bytes 8 x) + 0 = omega arith in
    sets-eq (bytes 8 v) (bytes 8 x ++ concat (eight xs)) 0 (omega arith)
    ∙ ap (λ (j : ℕ). bytes 8 v ++ drop j (bytes 8 x ++ concat (eight xs))) e
    ∙ ap (λ (r : Bytes). bytes 8 v ++ r) (drop-append-add (bytes 8 x) (concat (eight xs)) 0)
eight-set (x ∷ xs) (suc i) v l =
    let e : 8 * suc i ≡ length (bytes 8 x) + 8 * i = omega (arith, length-bytes 8 x) in
    rw e (sets_after (bytes 8 x) (concat (eight xs)) (bytes 8 v) (8 * i) (omega (arith, length-bytes 8 v, length-eight xs)))
    ∙ ap (λ (r : Bytes). bytes 8 x ++ r) (eight-set xs i v (omega arith))

-- ---- the prices of a record

pub prices_are : (bs : Bytes) → length (prices_in bs) ≡ slot_places
unfolding prices_in
prices_are bs = length_list 0 slot_places (λ i. unsigned_at bs (slot_prices_at + 8 * i) 8)

pub price_at_lem : (bs : Bytes) (i : ℕ) → i < slot_places → get_or (prices_in bs) i 0 ≡ unsigned_at bs (slot_prices_at + 8 * i) 8
unfolding prices_in
price_at_lem bs i l = list_at slot_places (λ j. unsigned_at bs (slot_prices_at + 8 * j) 8) i 0 l

-- 32 prices, as they are written
written_as : (prices : List ℕ) → length prices ≡ slot_places → price_bytes prices ≡ concat (eight prices)
unfolding price_bytes
written_as prices e = ap (λ (xs : List ℕ). concat (eight xs)) (list_is 0 slot_places (λ i. get_or prices i 0) prices e (λ i l. refl))

-- they are the rest of the record
pub prices-back : (bs : Bytes) → length bs ≡ record_size → are_bytes bs ≡ true → price_bytes (prices_in bs) ≡ drop slot_prices_at bs
unfolding prices_in
prices-back bs len are =
    written_as (prices_in bs) (prices_are bs)
    ∙ eights_back bs are slot_prices_at 0 slot_places (omega (arith, len)) ∙ take_all (8 * slot_places) (drop slot_prices_at bs) (omega (arith, length-drop slot_prices_at bs, len))

pub no_prices : (bs : Bytes) → length bs ≡ record_size → all_zero bs ≡ true → prices_in bs ≡ replicate slot_places 0
unfolding prices_in unsigned_at
no_prices bs len h = ap prices_in (sym (all_zero_lem bs h) ∙ ap (λ (n : ℕ). replicate n 0) len)

pub length-prices : (prices : List ℕ) → length prices ≡ slot_places → length (price_bytes prices) ≡ 8 * slot_places
length-prices prices e = ap (λ (bs : Bytes). length bs) (written_as prices e) ∙ length-eight prices ∙ ap (λ (n : ℕ). 8 * n) e

-- the price of a slot stored over the one that stands there, after the record's other fields
pub price-stored : (f : Bytes) (prices : List ℕ) (i v : ℕ) → length f ≡ slot_prices_at → length prices ≡ slot_places → i < slot_places
    → sets (f ++ price_bytes prices) (slot_prices_at + 8 * i) (bytes 8 v) ≡ f ++ price_bytes (set prices i v)
price-stored f prices i v e n l =
    let room : 8 * i + length (bytes 8 v) ≤ length (price_bytes prices) = omega (arith, length-bytes 8 v, length-prices prices n) in
    let one : sets (price_bytes prices) (8 * i) (bytes 8 v) ≡ price_bytes (set prices i v) =
    rw (written_as prices n, written_as (set prices i v) (length-set prices i v ∙ n)) (eight-set prices i v (omega arith)) in
    ap (λ (k : ℕ). sets (f ++ price_bytes prices) (k + 8 * i) (bytes 8 v)) (sym e)
    ∙ sets_after f (price_bytes prices) (bytes 8 v) (8 * i) room ∙ ap (λ (r : Bytes). f ++ r) one
