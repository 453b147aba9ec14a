-- The bytes of a record that do not follow arrival: they are those of the series without its arrival, and they tell it.
use Prim.Native.Nat.{ℕ, ◌+◌, ◌*◌, ◌-◌, ◌%◌, ◌^◌, ◌≤◌, ◌<◌}
use mathlib.Core.Path.{◌≡◌, refl, sym, ap, ap₂, ◌∙◌}
use mathlib.Core.List.{List, [], ◌∷◌, ◌++◌}
use native.Mathlib.Omega.{arith}
use lib.ListN.{get_or, take, drop}
use lib.Seq.{take-take, drop-drop}
use lib.IntN.{ℤ, pos}
use Rattle.rules.proofs.Bytes.{drop-take}
use Rattle.rules.proofs.Logs.{list_ext}
use Rattle.rules.specs.Log.{Log, ε, size}
use Rattle.rules.specs.Bytes.{Bytes, zeros, concat, little, signed, unsigned_at, signed_at, bytes}
use Rattle.rules.specs.State.{candidates_of, five, parts_of}
use Rattle.rules.specs.Series.{Opening, Holdings, slot_places, live}
use Rattle.rules.specs.Record.{slot_prices_at, eight, eight_signed, fields, price_bytes, bytes_of, opening_in, parts_in, prices_in, holdings_in}
use Rattle.rules.specs.Feed.{without_arrival, part, bytes_without_arrival}

pub bytes_apart : (o : Opening) (h : Holdings) → bytes_without_arrival (bytes_of (live o h)) ≡ bytes_without_arrival (bytes_of (live o (without_arrival h)))
unfolding bytes_without_arrival bytes_of fields price_bytes zeros bytes parts_of
bytes_apart o h = refl

-- ---- the chain's bytes

links_byte : (o : Opening) (h : Holdings) → part 3 1 (bytes_of (live o h)) ≡ size h.candidates.times % 256 ∷ []
unfolding bytes_of fields bytes parts_of
links_byte o h = refl

links-bytes : (o : Opening) (h : Holdings) → part 64 80 (bytes_of (live o h)) ≡ concat (eight_signed (five (pos 0) h.candidates.times) ++ eight (five 0 h.candidates.prices))
unfolding bytes_of fields zeros bytes parts_of
links-bytes o h = refl

-- records with as many links have as many in their byte, and then the chain's bytes are equal if the chains are
pub chain-bytes : (o : Opening) (h k : Holdings) → size h.candidates.times ≤ 5 → size k.candidates.times ≤ 5
    → (size h.candidates.times ≡ size k.candidates.times → (h.candidates.times ≡ k.candidates.times) × (h.candidates.prices ≡ k.candidates.prices))
    → part 3 1 (bytes_of (live o h)) ≡ part 3 1 (bytes_of (live o k)) → part 64 80 (bytes_of (live o h)) ≡ part 64 80 (bytes_of (live o k))
chain-bytes o h k lh lk same e =
    let m = size h.candidates.times in
    let n = size k.candidates.times in
    let byte : m % 256 ≡ n % 256 = ap (λ (l : Bytes). get_or l 0 0) (sym (links_byte o h) ∙ e ∙ links_byte o k) in
    let (times, prices) = same (omega arith) in
    links-bytes o h ∙ ap₂ (λ (ts : Log ℤ) (ps : Log ℕ). concat (eight_signed (five (pos 0) ts) ++ eight (five 0 ps))) times prices ∙ sym (links-bytes o k)

-- ---- what they tell

-- a field of a part is that field of the whole
within : (bs : Bytes) (a w i n : ℕ) → i + n ≤ w → unsigned_at (part a w bs) i n ≡ unsigned_at bs (a + i) n
unfolding unsigned_at
within bs a w i n h =
    let m = w - i in
    ap little (ap (take n) (drop-take i w (drop a bs) (omega arith) ∙ ap (take m) (drop-drop i a bs)) ∙ take-take n m (drop (a + i) bs) (omega arith))

module _ (bs cs : Bytes) (e : bytes_without_arrival bs ≡ bytes_without_arrival cs) where
  part_same : (k : ℕ) → get_or (bytes_without_arrival bs) k [] ≡ get_or (bytes_without_arrival cs) k []
  part_same k = ap (λ (l : List Bytes). get_or l k []) e

  in_part : (a w i n : ℕ) → part a w bs ≡ part a w cs → i + n ≤ w → unsigned_at bs (a + i) n ≡ unsigned_at cs (a + i) n
  in_part a w i n p h = sym (within bs a w i n h) ∙ ap (λ (l : Bytes). unsigned_at l i n) p ∙ within cs a w i n h

  -- by where they begin in the record's second part, from 4 to 63, and in its last, from 184 on
  u : (i n : ℕ) → i + n ≤ 60 → unsigned_at bs (4 + i) n ≡ unsigned_at cs (4 + i) n
  unfolding bytes_without_arrival
  u i n h = in_part 4 60 i n (part_same 1) h

  price : (i : ℕ) → i < slot_places → unsigned_at bs (slot_prices_at + 8 * i) 8 ≡ unsigned_at cs (slot_prices_at + 8 * i) 8
  unfolding bytes_without_arrival
  price i h =
      let at : 184 + (16 + 8 * i) ≡ slot_prices_at + 8 * i = omega arith in
      rw at at (in_part 184 272 (16 + 8 * i) 8 (part_same 3) (omega arith))

  opening_told : opening_in bs ≡ opening_in cs
  unfolding bytes_without_arrival opening_in signed_at
  opening_told =
      λ x. record {
        terms =
            record {
              window = u 8 4 (omega arith) x;
              slot = u 12 4 (omega arith) x;
              tolerance = u 0 2 (omega arith) x;
              minimum = u 2 2 (omega arith) x;
              k = in_part 0 3 1 1 (part_same 0) (omega arith) x;
              delay = u 16 4 (omega arith) x;
              lookback = u 20 4 (omega arith) x;
              hard = u 24 4 (omega arith) x;
              exponent = signed 8 (in_part 0 3 2 1 (part_same 0) (omega arith) x);
            };
        bps = u 4 2 (omega arith) x;
        expiry = signed 64 (u 36 8 (omega arith) x);
      }

  held_told : without_arrival (holdings_in bs) ≡ without_arrival (holdings_in cs)
  unfolding bytes_without_arrival parts_in candidates_of prices_in signed_at
  held_told =
      λ x. record {
        candidates =
            record {
              bits = u 28 4 (omega arith) x;
              sum = u 52 8 (omega arith) x * 2 ^ 64 + u 44 8 (omega arith) x;
              times = ε;
              prices = ε;
              fallback_time = signed 64 (in_part 144 16 0 8 (part_same 2) (omega arith) x);
              fallback_price = in_part 144 16 8 8 (part_same 2) (omega arith) x;
              window_changed = pos 0;
              link_changed = pos 0;
              fallback_changed = pos 0;
            };
        slot_prices = list_ext 0 slot_places (λ i. unsigned_at bs (slot_prices_at + 8 * i) 8) (λ i. unsigned_at cs (slot_prices_at + 8 * i) 8) price x;
      }

  pub told : (opening_in bs ≡ opening_in cs) × (without_arrival (holdings_in bs) ≡ without_arrival (holdings_in cs))
  told = (opening_told, held_told)
