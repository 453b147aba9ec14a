-- Each acceptable record has one byte form: what was read from it writes back as the same bytes.
use Rattle.std.specs.Prelude.{if◌then◌else◌}
use Prim.Native.Nat.{ℕ, ◌+◌, ◌/◌, ◌%◌, ◌^◌, ◌≤◌, ◌<◌}
use mathlib.Core.Path.{◌≡◌, refl, sym, ap, ap₂, ◌∙◌}
use mathlib.Core.Bool.{Bool, true, false, ◌&&◌}
use mathlib.Core.List.{List, [], ◌∷◌, ◌++◌}
use native.Mathlib.Omega.{arith}
use lib.ListN.{length, take, drop, replicate, take-append-drop}
use lib.Seq.{take-add, drop-drop}
use lib.IntN.{ℤ, pos}
use lib.Dec.{leb, eqb}
use borrow.Author.Tests.{eqb-true}
use Rattle.rules.proofs.Bools.{both, every_at}
use Rattle.rules.proofs.State.{parts_kept}
use Rattle.rules.proofs.Record.{outcome_stands, written_read, order_tag}
use Rattle.rules.proofs.Bytes.{drop-bytes, all_zero_lem, field_back, word-signed, little-below}
use Rattle.rules.proofs.SlotPrices.{prices-back}
use Rattle.rules.proofs.Read.{stored_is}
use Rattle.rules.specs.Log.{every}
use Rattle.rules.specs.Bytes.{Bytes, are_bytes, zeros, all_zero, concat, unsigned_at, signed_at, bytes, word, signed_bytes}
use Rattle.rules.specs.Answers.{ok, method, Answer}
use Rattle.rules.specs.State.{Parts, candidates_of, parts_of, good_state}
use Rattle.rules.specs.Series.{Opening, Series, empty, live, fixed, decided_by}
use Rattle.rules.specs.Record.{record_size, slot_prices_at, method_of, samples_of, price_of, fields, tag_of, price_bytes, bytes_of, outcome, opening_in, parts_in, prices_in, holdings_in, tag_in, samples_in, method_in, fixing_time_in, price_in, order_in, series_in, body_tests, open_tests, fixed_tests, acceptable, stored}
use Rattle.claims.specs.OneForm.{is_record, OneForm}
use Rattle.claims.proofs.Book.{ledgers-stored}

-- ---- a list cut into pieces

-- pieces of these widths, one after the other, from i on
abbrev pieces : List ℕ → ℕ → Bytes → List Bytes
pieces [] i bs = []
pieces (w ∷ ws) i bs = take w (drop i bs) ∷ pieces ws (i + w) bs

abbrev sum : List ℕ → ℕ
sum [] = 0
sum (w ∷ ws) = w + sum ws

concat_pieces : (ws : List ℕ) (i : ℕ) (bs : Bytes) → concat (pieces ws i bs) ≡ take (sum ws) (drop i bs)
concat_pieces [] i bs = refl
concat_pieces (w ∷ ws) i bs = rw (concat_pieces ws (i + w) bs, take-add w (sum ws) (drop i bs), drop-drop w i bs)

-- ---- a record of 456 bytes

module _ (bs : Bytes) (len : length bs ≡ record_size) (are : are_bytes bs ≡ true) where
  field : (i n : ℕ) → i + n ≤ record_size → bytes n (unsigned_at bs i n) ≡ take n (drop i bs)
  field i n h = field_back bs are i n (omega arith)

  below : (i n : ℕ) → unsigned_at bs i n < 256 ^ n
  unfolding unsigned_at
  below i n = little-below n (drop i bs) (drop-bytes i bs are)

  time : (i : ℕ) → i + 8 ≤ record_size → signed_bytes 8 (signed_at bs i 8) ≡ take 8 (drop i bs)
  unfolding signed_at
  time i h = ap (bytes 8) (word-signed 63 (unsigned_at bs i 8) (below i 8)) ∙ field i 8 h

  exponent : signed_bytes 1 (signed_at bs 2 1) ≡ take 1 (drop 2 bs)
  unfolding signed_at
  exponent = ap (bytes 1) (word-signed 7 (unsigned_at bs 2 1) (below 2 1)) ∙ field 2 1 (omega arith)

  abbrev o : Opening
  o = opening_in bs

  abbrev s : Parts
  s = parts_in bs

  low : s.sum % 2 ^ 64 ≡ unsigned_at bs 48 8
  unfolding parts_in
  low = omega (arith, below 48 8)

  high : s.sum / 2 ^ 64 ≡ unsigned_at bs 56 8
  unfolding parts_in
  high = omega (arith, below 48 8)

  -- the fields, of which those of the outcome are given, are pieces of the record
  rebuilt : (tag samples num : ℕ) (at : ℤ) (price : ℕ)
      → bytes 1 tag ≡ take 1 (drop 0 bs) → bytes 2 samples ≡ take 2 (drop 10 bs) → bytes 1 num ≡ take 1 (drop 36 bs) → zeros 3 ≡ take 3 (drop 37 bs)
      → signed_bytes 8 at ≡ take 8 (drop 184 bs) → bytes 8 price ≡ take 8 (drop 192 bs)
      → concat (fields tag o s samples num at price) ++ price_bytes (prices_in bs) ≡ bs
  unfolding fields opening_in parts_in
  rebuilt tag samples num at price tagged sampled numbered padded timed priced =
      ap₂ ◌++◌ (ap concat cut ∙ concat_pieces widths 0 bs) (prices-back bs len are) ∙ take-append-drop slot_prices_at bs
    where
      widths : List ℕ
      widths =
          1 ∷ 1 ∷ 1 ∷ 1 ∷ 2 ∷ 2 ∷ 2 ∷ 2 ∷ 4 ∷ 4 ∷ 4 ∷ 4 ∷ 4 ∷ 4 ∷ 1 ∷ 3 ∷ 8 ∷ 8 ∷ 8
          ∷ 8 ∷ 8 ∷ 8 ∷ 8 ∷ 8 ∷ 8 ∷ 8 ∷ 8 ∷ 8 ∷ 8 ∷ 8 ∷ 8 ∷ 8 ∷ 8 ∷ 8 ∷ 8 ∷ 8 ∷ []

      cut : fields tag o s samples num at price ≡ pieces widths 0 bs
      cut =
          λ x. tagged x ∷ field 1 1 (omega arith) x ∷ exponent x ∷ field 3 1 (omega arith) x
          ∷ field 4 2 (omega arith) x ∷ field 6 2 (omega arith) x ∷ field 8 2 (omega arith) x ∷ sampled x
          ∷ field 12 4 (omega arith) x ∷ field 16 4 (omega arith) x ∷ field 20 4 (omega arith) x ∷ field 24 4 (omega arith) x ∷ field 28 4 (omega arith) x ∷ field 32 4 (omega arith) x
          ∷ numbered x ∷ padded x
          ∷ time 40 (omega arith) x ∷ (ap (bytes 8) low ∙ field 48 8 (omega arith)) x ∷ (ap (bytes 8) high ∙ field 56 8 (omega arith)) x
          ∷ time 64 (omega arith) x ∷ time 72 (omega arith) x ∷ time 80 (omega arith) x ∷ time 88 (omega arith) x ∷ time 96 (omega arith) x
          ∷ field 104 8 (omega arith) x ∷ field 112 8 (omega arith) x ∷ field 120 8 (omega arith) x ∷ field 128 8 (omega arith) x ∷ field 136 8 (omega arith) x
          ∷ time 144 (omega arith) x ∷ field 152 8 (omega arith) x ∷ time 160 (omega arith) x ∷ time 168 (omega arith) x ∷ time 176 (omega arith) x
          ∷ timed x ∷ priced x ∷ []

  -- ---- the state goes back into the same five places

  module _ (good : good_state o.terms s ≡ true) where
    state_back : parts_of (candidates_of s) ≡ s
    unfolding parts_in
    state_back = parts_kept o.terms s good refl refl

    -- ---- an open and a fixed series

    module _ (pad : unsigned_at bs 37 3 ≡ 0) where
      padded : zeros 3 ≡ take 3 (drop 37 bs)
      unfolding zeros bytes
      padded = ap (bytes 3) (sym pad) ∙ field 37 3 (omega arith)

      live_back : tag_in bs ≡ 1 → every (open_tests bs) ≡ true → bytes_of (live o (holdings_in bs)) ≡ bs
      unfolding bytes_of word
      live_back e h =
          rw state_back
          (rebuilt 1 0 0 (pos 0) 0
          (ap (bytes 1) (sym e) ∙ field 0 1 (omega arith))
          (ap (bytes 2) (sym (eqb-true (samples_in bs) 0 (every_at (open_tests bs) 0 h))) ∙ field 10 2 (omega arith))
          (ap (bytes 1) (sym (eqb-true (method_in bs) 0 (every_at (open_tests bs) 1 h))) ∙ field 36 1 (omega arith))
          padded
          (ap (bytes 8) (sym (eqb-true (unsigned_at bs 184 8) 0 (every_at (open_tests bs) 2 h))) ∙ field 184 8 (omega arith))
          (ap (bytes 8) (sym (eqb-true (price_in bs) 0 (every_at (open_tests bs) 3 h))) ∙ field 192 8 (omega arith)))

      abbrev d : Answer
      d = decided_by (order_in bs) o (candidates_of s) (fixing_time_in bs)

      abbrev a : Answer
      a = outcome (method (method_in bs)) (price_in bs) (samples_in bs)

      fixed_back : tag_in bs ≡ tag_of (order_in bs) → every (fixed_tests bs) ≡ true → bytes_of (fixed (order_in bs) o (holdings_in bs) a (fixing_time_in bs)) ≡ bs
      unfolding bytes_of
      fixed_back e h =
          let same = outcome_stands bs h in
          rw state_back
          (rebuilt (tag_of (order_in bs)) (samples_of a) (method_of a) (fixing_time_in bs) (price_of a)
          (ap (bytes 1) (sym e) ∙ field 0 1 (omega arith))
          (ap (bytes 2) (ap samples_of same ∙ sym (eqb-true (samples_in bs) (samples_of d) (every_at (fixed_tests bs) 1 h))) ∙ field 10 2 (omega arith))
          (ap (bytes 1) (ap method_of same ∙ sym (eqb-true (method_in bs) (method_of d) (every_at (fixed_tests bs) 2 h))) ∙ field 36 1 (omega arith))
          padded
          (time 184 (omega arith))
          (ap (bytes 8) (ap price_of same ∙ sym (eqb-true (price_in bs) (price_of d) (every_at (fixed_tests bs) 3 h))) ∙ field 192 8 (omega arith)))

  body_back : (P : Series) (tests : List Bool) → every (body_tests bs) && every tests ≡ true
      → (good_state o.terms s ≡ true → unsigned_at bs 37 3 ≡ 0 → every tests ≡ true → bytes_of P ≡ bs) → bytes_of P ≡ bs
  body_back P tests h f =
      let (x, y) = both (every (body_tests bs)) (every tests) h in
      f (every_at (body_tests bs) 1 x) (eqb-true (unsigned_at bs 37 3) 0 (every_at (body_tests bs) 2 x)) y

  acceptable-back : acceptable bs ≡ true → bytes_of (series_in bs) ≡ bs
  unfolding acceptable series_in
  acceptable-back h = go (eqb (tag_in bs) 0) (eqb (tag_in bs) 1) (leb (tag_in bs) 3) refl refl refl h
    where
      go : (x y z : Bool) → eqb (tag_in bs) 0 ≡ x → eqb (tag_in bs) 1 ≡ y → leb (tag_in bs) 3 ≡ z
          → (if x then all_zero bs else if y then every (body_tests bs) && every (open_tests bs) else if z then every (body_tests bs) && every (fixed_tests bs) else false) ≡ true
          → bytes_of (if x then empty else if y then live o (holdings_in bs) else fixed (order_in bs) o (holdings_in bs) (outcome (method (method_in bs)) (price_in bs) (samples_in bs)) (fixing_time_in bs)) ≡ bs
      go true y z ex ey ez h = empty_back h
        where
          empty_back : all_zero bs ≡ true → bytes_of empty ≡ bs
          empty_back h = unfold bytes_of zeros in ap (λ (n : ℕ). replicate n 0) (sym len) ∙ all_zero_lem bs h
      go false true z ex ey ez h =
          body_back (live o (holdings_in bs)) (open_tests bs) h (λ good pad tests. live_back good pad (eqb-true (tag_in bs) 1 ey) tests)
      go false false true ex ey ez h =
          body_back (fixed (order_in bs) o (holdings_in bs) (outcome (method (method_in bs)) (price_in bs) (samples_in bs)) (fixing_time_in bs)) (fixed_tests bs) h
          (λ good pad tests. fixed_back good pad (order_tag bs ex ey ez) tests)
      go false false false ex ey ez h = cc

-- ---- the claim

read_back : (bs : Bytes) → is_record bs ≡ true → (s : Series) → stored bs ≡ ok s → bytes_of s ≡ bs
read_back bs r s e =
    let (l, are) = both (eqb (length bs) record_size) (are_bytes bs) r in
    let (h, same) = stored_is bs s e in
    ap bytes_of (sym same) ∙ acceptable-back bs (eqb-true (length bs) record_size l) are h

pub one_form : OneForm
one_form =
    record {
      written = written_read;
      left = λ l h s. ledgers-stored l s h;
      read = read_back;
      one = λ cs bs rc rb s ec eb. sym (read_back cs rc s ec) ∙ read_back bs rb s eb;
    }
