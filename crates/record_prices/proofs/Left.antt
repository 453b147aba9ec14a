-- The test of the slot prices, one slot after the other and then by pairs, from the last down.
use Rattle.std.specs.Prelude.{if◌then◌else◌}
use Rattle.std.specs.Int.{from_bool}
use Prim.Native.Nat.{ℕ, suc, ◌+◌, ◌*◌, ◌-◌, ◌/◌, ◌%◌, ◌^◌, ◌≤◌, ◌<◌}
use mathlib.Core.Path.{◌≡◌, refl, sym, ap, ◌∙◌}
use mathlib.Core.Bool.{Bool, true, false, ◌&&◌, beq}
use native.Mathlib.Omega.{arith}
use native.Mathlib.Nat.{zero-add, lt_of_lt_of_le, pow-suc, div-one, div-eq_of_lt, div-div-eq-div-mul}
use native.Mathlib.Numerals.{add-one}
use lib.ListN.{length, get_or, drop}
use lib.Bits.{bit_or}
use lib.Dec.{ltb, eqb, lit<}
use lib.Arith.{lt_of_le-ne}
use lib.Pow.{pow_mono}
use borrow.Author.Tests.{ltb-true, lt-ltb, le-ltb, eq-eqb, ne_eqb, eqb-true, eqb-false}
use Rattle.rules.proofs.Bools.{both, not_both, and_true, and_false, and_assoc, either_below, either_zero}
use Rattle.rules.proofs.Bytes.{drop-bytes, little-below}
use Rattle.rules.proofs.SlotPrices.{price_at_lem}
use Rattle.endian.proofs.Offsets.{joined_at}
use Rattle.rules.specs.Log.{Σ<, all<}
use Rattle.rules.specs.Bytes.{Bytes, are_bytes, unsigned_at}
use Rattle.rules.specs.Taking.{bit}
use Rattle.rules.specs.State.{candidates_of}
use Rattle.rules.specs.Series.{slot_places}
use Rattle.rules.specs.Brought.{low_price, low_slots}
use Rattle.rules.specs.Record.{slot_prices_at, record_size, slot_priced, good_prices, parts_in, prices_in, holdings_in}
use Rattle.record_prices.specs.Left.{Left}

-- the last digit, and the others
last_digit : (bits q : ℕ) (p : Bool) → eqb (2 * bits + (if p then 1 else 0)) q ≡ beq (eqb (q % 2) 1) p && eqb bits (q / 2)
last_digit bits q p = go p (eqb (q % 2) 1) (eqb bits (q / 2)) refl refl
  where
    go : (p a e : Bool) → eqb (q % 2) 1 ≡ a → eqb bits (q / 2) ≡ e → eqb (2 * bits + (if p then 1 else 0)) q ≡ beq a p && e
    go true true true f g = let x = eqb-true (q % 2) 1 f in let y = eqb-true bits (q / 2) g in eq-eqb _ q (omega arith)
    go true true false f g = let x = eqb-true (q % 2) 1 f in let y = eqb-false bits (q / 2) g in ne_eqb _ q (λ e. y (omega arith))
    go true false e f g = let x = eqb-false (q % 2) 1 f in ne_eqb _ q (λ e. x (omega arith))
    go false true e f g = let x = eqb-true (q % 2) 1 f in ne_eqb _ q (λ e. omega arith)
    go false false true f g =
        let x : q % 2 < 1 = lt_of_le-ne (omega arith) (eqb-false (q % 2) 1 f) in
        let y = eqb-true bits (q / 2) g in
        eq-eqb _ q (omega arith)
    go false false false f g =
        let x : q % 2 < 1 = lt_of_le-ne (omega arith) (eqb-false (q % 2) 1 f) in
        let y = eqb-false bits (q / 2) g in
        ne_eqb _ q (λ e. y (omega arith))

-- a slot's bit, as the code makes it
pub bit_is : (p : ℕ) {b : ℕ} → b ≡ from_bool (ltb 0 p) → b ≡ (if ltb 0 p then 1 else 0)
bit_is p e = e ∙ go (ltb 0 p)
  where
    go : (t : Bool) → from_bool t ≡ (if t then 1 else 0)
    go true = refl
    go false = refl

-- two low prices
pub pair_fits : (lower upper : ℕ) → bit_or lower upper < 2 ^ 63 → upper + lower < 2 ^ 64
pair_fits lower upper h =
    let (x, y) = both (ltb lower (2 ^ 63)) (ltb upper (2 ^ 63)) (sym (either_below 63 lower upper) ∙ lt-ltb (bit_or lower upper) (2 ^ 63) h) in
    omega (arith, ltb-true lower (2 ^ 63) x, ltb-true upper (2 ^ 63) y)

eqb_turned : (a b : ℕ) → eqb a b ≡ eqb b a
eqb_turned a b = go (eqb b a) refl
  where
    go : (t : Bool) → eqb b a ≡ t → eqb a b ≡ t
    go true e = eq-eqb a b (sym (eqb-true b a e))
    go false e = ne_eqb a b (λ h. eqb-false b a e (sym h))

-- the tests of the slots below i + 1, and bits for the others: one test fewer, and its bit
one_less : (test : ℕ → Bool) (all : Bool) (set i bits bits' : ℕ) (p : Bool) → test i ≡ beq (bit i set) p → bits' ≡ 2 * bits + (if p then 1 else 0)
    → all< (suc i) test && eqb bits (set / 2 ^ suc i) ≡ all → all< i test && eqb bits' (set / 2 ^ i) ≡ all
unfolding bit
one_less test all set i bits bits' p e eb h =
    let half : set / 2 ^ suc i ≡ set / 2 ^ i / 2 = ap (λ (n : ℕ). set / n) (pow-suc 2 i) ∙ sym (div-div-eq-div-mul set (2 ^ i) 2) in
    let both : eqb bits' (set / 2 ^ i) ≡ test i && eqb bits (set / 2 ^ suc i) = rw (eb, e, half) (last_digit bits (set / 2 ^ i) p) in
    ap (λ (b : Bool). all< i test && b) both ∙ sym (and_assoc (all< i test) (test i) (eqb bits (set / 2 ^ suc i))) ∙ h

wider : (n i bits bits' : ℕ) (p : Bool) → i < n → bits < 2 ^ (n - suc i) → bits' ≡ 2 * bits + (if p then 1 else 0) → bits' < 2 ^ (n - i)
wider n i bits bits' p l h e =
    let k : n - i ≡ suc (n - suc i) = omega arith in
    rw (k, e) (go p)
  where
    go : (p : Bool) → 2 * bits + (if p then 1 else 0) < 2 ^ suc (n - suc i)
    go true = omega (arith, pow-suc 2 (n - suc i))
    go false = omega (arith, pow-suc 2 (n - suc i))

module _ (bs : Bytes) where
  abbrev price : ℕ → ℕ
  price j = get_or (prices_in bs) j 0

  bits_are : (holdings_in bs).candidates.bits ≡ unsigned_at bs 32 4
  unfolding candidates_of parts_in
  bits_are = refl

  abbrev low : ℕ → Bool
  low j = low_price (price j)

  -- no slot is tested yet
  pub left_none : are_bytes bs ≡ true → Left bs slot_places 0 0
  unfolding Left unsigned_at
  left_none are =
      let none : (holdings_in bs).candidates.bits / 2 ^ slot_places ≡ 0 = rw bits_are (div-eq_of_lt (little-below 4 (drop 32 bs) (drop-bytes 32 bs are))) in
      (omega arith, lit< tt, rw none (and_true _), omega arith, refl)

  pub left_few : (i bits total : ℕ) → Left bs i bits total → i ≤ slot_places
  unfolding Left
  left_few i bits total l = l.0

  pub left_small : (i bits total : ℕ) → Left bs i bits total → bits < 2 ^ slot_places
  unfolding Left
  left_small i bits total l = lt_of_lt_of_le l.1 (pow_mono {j = slot_places} (omega arith))

  -- one slot more, whose price is low
  left_next : (n i bits total p bits' total' : ℕ) → Left bs n bits total → n ≡ i + 1 → p ≡ unsigned_at bs (slot_prices_at + 8 * i) 8 → low_price p ≡ true
      → bits' ≡ 2 * bits + (if ltb 0 p then 1 else 0) → total' ≡ total + p → Left bs i bits' total'
  unfolding Left
  left_next n i bits total p bits' total' l e q w eb et =
      let s : n ≡ suc i = e ∙ add-one i in
      let m : Left bs (suc i) bits total = rw s at l in
      let few : i < slot_places = omega (arith, m.0) in
      let same = q ∙ sym (price_at_lem bs i few) in (
        omega (arith, few),
        wider slot_places i bits bits' (ltb 0 p) few m.1 eb,
        one_less (slot_priced (holdings_in bs)) _ (holdings_in bs).candidates.bits i bits bits' (ltb 0 p) (ap (λ (x : ℕ). beq (bit i (holdings_in bs).candidates.bits) (ltb 0 x)) (sym same)) eb m.2,
        omega (arith, m.3, et, same),
        sym (and_true (all< i low)) ∙ ap (λ (b : Bool). all< i low && b) (sym w ∙ ap (λ (x : ℕ). low_price x) same) ∙ m.4,
      )

  -- one slot more, whose price is not
  left_high : (n i bits total p : ℕ) → Left bs n bits total → n ≡ i + 1 → p ≡ unsigned_at bs (slot_prices_at + 8 * i) 8 → low_price p ≡ false → low_slots (holdings_in bs) ≡ false
  unfolding Left low_slots
  left_high n i bits total p l e q w =
      let s : n ≡ suc i = e ∙ add-one i in
      let m : Left bs (suc i) bits total = rw s at l in
      let same = q ∙ sym (price_at_lem bs i (omega (arith, m.0))) in
      sym m.4 ∙ ap (λ (b : Bool). all< i low && b) (sym (ap (λ (x : ℕ). low_price x) same) ∙ w) ∙ and_false (all< i low)

  -- one pair of slots more
  module _ (n m bits total lower upper : ℕ) (l : Left bs (2 * n) bits total) (e : n ≡ m + 1)
      (lo : lower ≡ unsigned_at bs (slot_prices_at + 16 * m) 8) (hi : upper ≡ unsigned_at bs (slot_prices_at + 16 * m + 8) 8) where
    up : upper ≡ unsigned_at bs (slot_prices_at + 8 * (2 * m + 1)) 8
    up = hi ∙ ap (λ (k : ℕ). unsigned_at bs k 8) (omega arith)

    down : lower ≡ unsigned_at bs (slot_prices_at + 8 * (2 * m)) 8
    down = lo ∙ ap (λ (k : ℕ). unsigned_at bs k 8) (omega arith)

    pub pair_next : (b d bits' total' : ℕ) → low_price (bit_or lower upper) ≡ true → b ≡ (if ltb 0 upper then 1 else 0) → d ≡ (if ltb 0 lower then 1 else 0)
        → bits' ≡ 4 * bits + 2 * b + d → total' ≡ total + upper + lower → Left bs (2 * m) bits' total'
    pair_next b d bits' total' w eb ed es et =
        let (x, y) = both (low_price lower) (low_price upper) (sym (either_below 63 lower upper) ∙ w) in
        let one : Left bs (2 * m + 1) (2 * bits + b) (total + upper) =
        left_next (2 * n) (2 * m + 1) bits total upper (2 * bits + b) (total + upper) l (omega (arith, e)) up y (ap (λ (k : ℕ). 2 * bits + k) eb) refl in
        left_next (2 * m + 1) (2 * m) (2 * bits + b) (total + upper) lower bits' total' one refl down x (es ∙ twice ∙ ap (λ (k : ℕ). 2 * (2 * bits + b) + k) ed) et
      where
        twice : 4 * bits + 2 * b + d ≡ 2 * (2 * bits + b) + d
        twice = omega arith

    pub pair_high : low_price (bit_or lower upper) ≡ false → low_slots (holdings_in bs) ≡ false
    pair_high w = go (low_price upper) (low_price lower) refl refl (sym (either_below 63 lower upper) ∙ w)
      where
        go : (x y : Bool) → low_price upper ≡ x → low_price lower ≡ y → low_price lower && low_price upper ≡ false → low_slots (holdings_in bs) ≡ false
        go false y p q h = left_high (2 * n) (2 * m + 1) bits total upper l (omega (arith, e)) up p
        go true false p q h =
            let one = left_next (2 * n) (2 * m + 1) bits total upper _ (total + upper) l (omega (arith, e)) up p refl refl in
            left_high (2 * m + 1) (2 * m) _ (total + upper) lower one refl down q
        go true true p q h = absurd (not_both (rw (p, q)) h)

    pub pair_refused : 2 ^ 63 ≤ bit_or lower upper → false ≡ eqb (length bs) record_size && (good_prices (holdings_in bs) && low_slots (holdings_in bs))
    pair_refused h = sym (simp (pair_high (le-ltb (bit_or lower upper) (2 ^ 63) h), and_false))

  -- without a price
  pub pair_none : (n m lower upper : ℕ) → Left bs (2 * n) 0 0 → n ≡ m + 1 → lower ≡ unsigned_at bs (slot_prices_at + 16 * m) 8
      → upper ≡ unsigned_at bs (slot_prices_at + 16 * m + 8) 8 → bit_or lower upper ≡ 0 → Left bs (2 * m) 0 0
  pair_none n m lower upper l e lo hi z =
      let (x, y) = both (eqb lower 0) (eqb upper 0) (sym (either_zero lower upper) ∙ eq-eqb (bit_or lower upper) 0 z) in
      pair_next n m 0 0 0 0 l e (sym (eqb-true lower 0 x) ∙ lo) (sym (eqb-true upper 0 y) ∙ hi) 0 0 0 0 refl refl refl refl refl

  -- all slots are tested
  pub left_done : (i bits total : ℕ) → Left bs i bits total → i ≡ 0
      → good_prices (holdings_in bs) && low_slots (holdings_in bs) ≡ eqb (unsigned_at bs 56 8 * 2 ^ 64 + unsigned_at bs 48 8) total && eqb bits (unsigned_at bs 32 4)
  unfolding Left good_prices low_slots candidates_of parts_in
  left_done i bits total l e =
      let m : Left bs 0 bits total = rw e at l in
      let sum : Σ< slot_places price ≡ total = sym m.3 ∙ zero-add total in
      let set : all< slot_places (slot_priced (holdings_in bs)) ≡ eqb bits (unsigned_at bs 32 4) = sym m.2 ∙ ap (λ (x : ℕ). eqb bits x) (div-one (unsigned_at bs 32 4)) in
      ap (λ (b : Bool). (eqb (unsigned_at bs 56 8 * 2 ^ 64 + unsigned_at bs 48 8) (Σ< slot_places price) && all< slot_places (slot_priced (holdings_in bs))) && b) (sym m.4)
      ∙ and_true _
      ∙ ap (λ (x : ℕ). eqb (unsigned_at bs 56 8 * 2 ^ 64 + unsigned_at bs 48 8) x && all< slot_places (slot_priced (holdings_in bs))) sum
      ∙ ap (λ (x : Bool). eqb (unsigned_at bs 56 8 * 2 ^ 64 + unsigned_at bs 48 8) total && x) set

  -- the two comparisons at the end
  module _ (n bits total set sum : ℕ) (size : length bs ≡ record_size) (l : Left bs (2 * n) bits total) (e : n ≡ 0)
      (es : set ≡ unsigned_at bs 32 4) (et : sum ≡ unsigned_at bs 48 16) where
    abbrev tests : Bool
    tests = eqb (length bs) record_size && (good_prices (holdings_in bs) && low_slots (holdings_in bs))

    told : tests ≡ eqb sum total && eqb bits set
    told = rw (eq-eqb (length bs) record_size size, left_done (2 * n) bits total l (omega (arith, e)), es, et, joined_at bs 48 8 8) refl

    pub bits_met : bits ≡ set → eqb total sum ≡ tests
    bits_met h = eqb_turned total sum ∙ sym (told ∙ ap (λ (b : Bool). eqb sum total && b) (eq-eqb bits set h) ∙ and_true (eqb sum total))

    pub bits_missed : (bits ≡ set → ⊥) → false ≡ tests
    bits_missed h = sym (told ∙ ap (λ (b : Bool). eqb sum total && b) (ne_eqb bits set h) ∙ and_false (eqb sum total))
