-- `restore`'s test: the links' five places, tested one by one, and the tests in the code's order.
use Prim.Native.Nat.{ℕ, zero, suc, ◌-◌, ◌≤◌, ◌<◌, ◌^◌}
use mathlib.Core.Path.{◌≡◌, refl, sym, ap, ◌∙◌}
use mathlib.Core.Bool.{Bool, true, false, not, ◌&&◌, ◌||◌, beq}
use native.Mathlib.Omega.{arith}
use borrow.Author.Tests.{not-true, not-false, ltb-true, lt-ltb, eqb-true, eqb-false, ne_eqb}
use lib.Arith.{lt_of_le-ne}
use lib.Dec.{ltb, leb, eqb}
use lib.ListN.{get_or, length, get_or-eq_default}
use lib.IntN.{pos}
use lib.Signed.{lt_z}
use Rattle.std.specs.List.{range_with_len, list_all}
use Rattle.rules.specs.Log.{front, all}
use Rattle.rules.specs.Terms.{Terms, slots}
use Rattle.rules.specs.Prints.{eq_z}
use Rattle.rules.specs.State.{Parts, candidates_of, rising, zero_after, restore_tests, good_state}
use Rattle.rules.proofs.Bools.{both, and_true, test, every_at}
use Rattle.core_terms.specs.declared.params.OracleParams.{OracleParams}
use Rattle.core_terms.specs.Params.{terms_of}
use Rattle.core_parts.specs.States.{link_place, all_places}

-- ---- the single tests

-- what a call's answer says of the test it stands for
pub passed : {r a : Bool} → r ≡ a → not r ≡ false → a ≡ true
passed {r} e h = sym e ∙ not-false r h

pub failed : {r a : Bool} → r ≡ a → not r ≡ true → a ≡ false
failed {r} e h = sym e ∙ not-true r h

pub beq_true : (b : Bool) → beq true b ≡ b
beq_true true = refl
beq_true false = refl

-- ---- a test of every place below a number

-- the five places, as a range yields them
pub range_places : (P : ℕ → Bool) → list_all P (range_with_len 0 5) ≡ all_places P 5
unfolding all_places
range_places P = go (P 0) (P 1) (P 2) (P 3) (P 4)
  where
    go : (a b c d e : Bool) → a && (b && (c && (d && (e && true)))) ≡ (((a && b) && c) && d) && e
    go true true true true e = and_true e
    go true true true false e = refl
    go true true false d e = refl
    go true false c d e = refl
    go false b c d e = refl

all_at : (P : ℕ → Bool) (n : ℕ) → all_places P n ≡ true → (i : ℕ) → i < n → P i ≡ true
unfolding all_places
all_at P zero e i h = absurd (omega arith)
all_at P (suc n) e i h = let (f, g) = both (all_places P n) (P n) e in go (eqb i n) refl g (λ l. all_at P n f i l)
  where
    go : (t : Bool) → eqb i n ≡ t → P n ≡ true → (i < n → P i ≡ true) → P i ≡ true
    go true q g r = ap P (eqb-true i n q) ∙ g
    go false q g r = r (lt_of_le-ne (omega arith) (eqb-false i n q))

all_of : (P : ℕ → Bool) (n : ℕ) → ((i : ℕ) → i < n → P i ≡ true) → all_places P n ≡ true
unfolding all_places
all_of P zero h = refl
all_of P (suc n) h = rw (all_of P n (λ i l. h i (omega arith)), h n (omega arith))

-- a test that does not hold, where another one would say that it does
refuted : (a b : Bool) → (a ≡ true → b ≡ true) → b ≡ false → a ≡ false
refuted true b f e = sym (f refl) ∙ e
refuted false b f e = refl

-- ---- the places are the rules' tests

module _ (s : Parts) where
  abbrev priced : ℕ → Bool
  priced i = ltb 0 (get_or s.prices i 0)

  -- link i is later than the one before it
  abbrev later : ℕ → Bool
  later i = eqb i 0 || lt_z (get_or s.times (i - 1) (pos 0)) (get_or s.times i (pos 0))

  abbrev place : ℕ → Bool
  place = link_place s.times s.prices s.links

  rising_is : (n : ℕ) → rising (front (pos 0) n s.times) ≡ all_places later n
  unfolding all_places front
  rising_is zero = refl
  rising_is (suc zero) = refl
  rising_is (suc (suc n)) = let e : suc n - 1 ≡ n = omega arith in rw (rising_is (suc n), ne_eqb (suc n) 0 (omega arith), e)

  priced_is : (n : ℕ) → all (λ price. ltb 0 price) (front 0 n s.prices) ≡ all_places priced n
  unfolding all_places front
  priced_is zero = refl
  priced_is (suc n) = rw (priced_is n)

module _ (t : Terms) (s : Parts) where
  -- what a good state's tests say, place by place
  good_priced : good_state t s ≡ true → (i : ℕ) → i < s.links → priced s i ≡ true
  unfolding good_state candidates_of
  good_priced g = all_at (priced s) s.links (sym (priced_is s s.links) ∙ every_at (restore_tests t s) 4 g)

  good_later : good_state t s ≡ true → (i : ℕ) → i < s.links → later s i ≡ true
  unfolding good_state candidates_of
  good_later g = all_at (later s) s.links (sym (rising_is s s.links) ∙ every_at (restore_tests t s) 3 g)

  good_zero : good_state t s ≡ true → (j : ℕ) → j < 5 → zero_after s j ≡ true
  unfolding good_state
  good_zero g zero h = every_at (restore_tests t s) 5 g
  good_zero g (suc zero) h = every_at (restore_tests t s) 6 g
  good_zero g (suc (suc zero)) h = every_at (restore_tests t s) 7 g
  good_zero g (suc (suc (suc zero))) h = every_at (restore_tests t s) 8 g
  good_zero g (suc (suc (suc (suc zero)))) h = every_at (restore_tests t s) 9 g
  good_zero g (suc (suc (suc (suc (suc j))))) h = absurd (omega arith)

  -- its test i fails
  pub fails_at : (i : ℕ) → test (restore_tests t s) i ≡ false → good_state t s ≡ false
  unfolding good_state
  fails_at i e = refuted (good_state t s) (test (restore_tests t s) i) (every_at (restore_tests t s) i) e

  -- there is no price in a sixth place
  pub too_many : length s.prices ≡ 5 → 5 < s.links → good_state t s ≡ false
  too_many e h = refuted (good_state t s) (priced s 5) (λ g. good_priced g 5 h) (rw (get_or-eq_default s.prices 0 {n = 5} (omega arith)))

  -- a good state's places all pass
  misplaced : all_places (place s) 5 ≡ false → good_state t s ≡ false
  unfolding link_place
  misplaced e = refuted (good_state t s) (all_places (place s) 5) (λ g. all_of (place s) 5 (λ i h. go g i h (ltb i s.links) refl)) e
    where
      go : good_state t s ≡ true → (i : ℕ) → i < 5 → (b : Bool) → ltb i s.links ≡ b → place s i ≡ true
      go g i h true e = let l = ltb-true i s.links e in rw (e, good_priced g i l, good_later g i l)
      go g i h false e = rw e (rw e at (good_zero g i h))

  -- where all the others pass, the fallback's test decides
  well_placed : s.links ≤ 5 → ltb s.bits (2 ^ slots t) ≡ true → beq (eqb s.bits 0) (eqb s.sum 0) ≡ true → leb s.links t.k ≡ true
      → all_places (place s) 5 ≡ true → good_state t s ≡ beq (eq_z s.fallback_time (pos 0)) (eqb s.fallback_price 0)
  unfolding good_state candidates_of link_place
  well_placed few bits sum links e =
      rw (
        bits,
        sum,
        links,
        rising_is s s.links ∙ all_of (later s) s.links (λ i l. (used i l).1),
        priced_is s s.links ∙ all_of (priced s) s.links (λ i l. (used i l).0),
        rest 0 (omega arith),
        rest 1 (omega arith),
        rest 2 (omega arith),
        rest 3 (omega arith),
        rest 4 (omega arith),
      )
      (and_true (beq (eq_z s.fallback_time (pos 0)) (eqb s.fallback_price 0)))
    where
      used : (i : ℕ) → i < s.links → (priced s i ≡ true) × (later s i ≡ true)
      used i l = both (priced s i) (later s i) (rw (lt-ltb i s.links l) at (all_at (place s) 5 e i (omega arith)))

      rest : (j : ℕ) → j < 5 → zero_after s j ≡ true
      rest j l = go (ltb j s.links) refl
        where
          go : (b : Bool) → ltb j s.links ≡ b → zero_after s j ≡ true
          go true q = rw q
          go false q = rw q (rw q at (all_at (place s) 5 e j l))

  -- and where that passes too, the places decide
  pub by_places : s.links ≤ 5 → ltb s.bits (2 ^ slots t) ≡ true → beq (eqb s.bits 0) (eqb s.sum 0) ≡ true → leb s.links t.k ≡ true
      → beq (eq_z s.fallback_time (pos 0)) (eqb s.fallback_price 0) ≡ true → all_places (place s) 5 ≡ good_state t s
  by_places few bits sum links fallback = go (all_places (place s) 5) refl
    where
      go : (b : Bool) → all_places (place s) 5 ≡ b → b ≡ good_state t s
      go true e = sym (well_placed few bits sum links e ∙ fallback)
      go false e = sym (misplaced e)

-- asked by the slots and k of terms, it is the test on them
pub of_terms : (p : OracleParams) (s : Parts) {r : Bool} {n : ℕ} → ((t : Terms) → slots t ≡ n → t.k ≡ p.k_next_print → r ≡ good_state t s) → n ≡ slots (terms_of p) → r ≡ good_state (terms_of p) s
unfolding terms_of
of_terms p s f e = f (terms_of p) (sym e) refl
