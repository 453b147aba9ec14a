-- The price of a slot written over an open record: it is the record with that price.
use Prim.Native.Nat.{ℕ}
use mathlib.Core.Path.{◌≡◌, refl, sym, ap, ◌∙◌}
use mathlib.Core.Bool.{Bool, true, false}
use mathlib.Core.List.{List, ◌++◌}
use native.Mathlib.Omega.{arith}
use lib.IntN.{pos}
use lib.Dec.{ltb, eqb}
use lib.ListN.{length, set, length-append}
use lib.Seq.{set_out}
use borrow.Author.Tests.{ltb-true, ltb-false, eqb-true, eqb-false}
use Rattle.rules.specs.Bytes.{Bytes, concat}
use Rattle.rules.specs.Series.{Opening, slot_places}
use Rattle.rules.specs.State.{Parts}
use Rattle.rules.specs.Record.{record_size, slot_prices_at, fields, price_bytes, prices_in, open_record}
use Rattle.rules.proofs.SlotPrices.{length-prices, prices_are, price-stored}
use Rattle.record_write.specs.Stores.{record_over, priced_over}
use Rattle.record_write.proofs.Stores.{over_whole, over_other, length_fields, priced-there, priced-other, priced_past}

module _ (old f : Bytes) (prices : List ℕ) (i v : ℕ) (e : length f ≡ slot_prices_at) (n : length prices ≡ slot_places) where
  length_new : length (f ++ price_bytes prices) ≡ record_size
  length_new = length-append f (price_bytes prices) ∙ omega (arith, e, length-prices prices n)

  one-priced : priced_over (f ++ price_bytes prices) i v ≡ f ++ price_bytes (set prices i v)
  one-priced = go (ltb i slot_places) refl
    where
      go : (b : Bool) → ltb i slot_places ≡ b → priced_over (f ++ price_bytes prices) i v ≡ f ++ price_bytes (set prices i v)
      go true q =
          let l = ltb-true i slot_places q in
          priced-there (f ++ price_bytes prices) i v length_new l ∙ price-stored f prices i v e n l
      go false q =
          let l = ltb-false i slot_places q in
          priced_past (f ++ price_bytes prices) i v l ∙ ap (λ (x : List ℕ). f ++ price_bytes x) (sym (set_out prices i v (omega arith)))

  pub priced_over_lem : priced_over (record_over old (f ++ price_bytes prices)) i v ≡ record_over old (f ++ price_bytes (set prices i v))
  priced_over_lem = go (eqb (length old) record_size) refl
    where
      go : (b : Bool) → eqb (length old) record_size ≡ b → priced_over (record_over old (f ++ price_bytes prices)) i v ≡ record_over old (f ++ price_bytes (set prices i v))
      go true q =
          let l = eqb-true (length old) record_size q in
          rw (over_whole old (f ++ price_bytes prices) l, over_whole old (f ++ price_bytes (set prices i v)) l) one-priced
      go false q =
          let l = eqb-false (length old) record_size q in
          rw (over_other old (f ++ price_bytes prices) l, over_other old (f ++ price_bytes (set prices i v)) l) (priced-other old i v l)

-- the same, as the two calls leave it
pub priced_open : (old : Bytes) (o : Opening) (s : Parts) (i v : ℕ) {w r : Bytes} → length s.times ≡ 5 → length s.prices ≡ 5
    → w ≡ record_over old (open_record o s (prices_in old)) → r ≡ priced_over w i v → r ≡ record_over old (open_record o s (set (prices_in old) i v))
priced_open old o s i v times prices e f =
    f ∙ ap (λ (w : Bytes). priced_over w i v) e
    ∙ priced_over_lem old (concat (fields 1 o s 0 0 (pos 0) 0)) (prices_in old) i v (length_fields 1 o.bps 0 0 0 o.terms o.expiry (pos 0) s times prices) (prices_are old)
