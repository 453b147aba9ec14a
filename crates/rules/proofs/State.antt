-- Candidates and the parts that they are stored as.
use Prim.Native.Nat.{ℕ, zero, suc, ◌^◌, ◌<◌, ◌≤◌}
use mathlib.Core.Path.{◌≡◌, refl, sym, ap, ◌∙◌}
use mathlib.Core.List.{List, [], ◌∷◌}
use mathlib.Core.Bool.{Bool, true, false, ◌&&◌, ◌||◌, beq}
use native.Mathlib.Omega.{arith}
use lib.ListN.{length, get_or}
use lib.IntN.{ℤ, pos, negsuc}
use lib.Signed.{le_z}
use lib.Dec.{ltb, leb, eqb}
use borrow.Author.Tests.{ltb-true, ltb-false, leb-true, eqb-true}
use Rattle.rules.proofs.Bools.{both, test, every_at}
use Rattle.rules.proofs.Integers.{tests}
use Rattle.rules.proofs.Logs.{front-nth, size-front, nth-front, nth_after}
use Rattle.rules.specs.Log.{Log, size, all, nth, front, every}
use Rattle.rules.specs.Terms.{Terms, slots}
use Rattle.rules.specs.Prints.{eq_z}
use Rattle.rules.specs.Taking.{Candidates}
use Rattle.rules.specs.State.{Parts, candidates_of, five, parts_of, rising, zero_after, restore_tests, good_state}
use Rattle.rules.specs.Record.{candidates_fields, candidates_fit}

pub five_at : {A : Type 0} (d : A) (l : Log A) (j : ℕ) → j < 5 → get_or (five d l) j d ≡ nth d l j
five_at d l zero h = refl
five_at d l (suc zero) h = refl
five_at d l (suc (suc zero)) h = refl
five_at d l (suc (suc (suc zero))) h = refl
five_at d l (suc (suc (suc (suc zero)))) h = refl
five_at d l (suc (suc (suc (suc (suc j))))) h = let c : ⊥ = omega arith in absurd c

five-back : {A : Type 0} (d : A) (n : ℕ) (l : Log A) → n ≡ size l → size l ≤ 5 → front d n (five d l) ≡ l
five-back d n l e h = rw e (front-nth d l (five d l) (λ i m. five_at d l i (omega arith)))

module _ (c : Candidates) (f : candidates_fit c ≡ true) where
  pub fit_at : (j : ℕ) → test (candidates_fields c) j ≡ true
  unfolding candidates_fit
  fit_at j = every_at (candidates_fields c) j f

  pub few_times : size c.times ≤ 5
  few_times = leb-true (size c.times) 5 (fit_at 2)

  pub same_sizes : size c.prices ≡ size c.times
  same_sizes = eqb-true (size c.prices) (size c.times) (fit_at 3)

  pub parts-back : candidates_of (parts_of c) ≡ c
  unfolding candidates_of parts_of
  parts-back =
      rw (
        five-back (pos 0) (size c.times) c.times refl few_times,
        five-back 0 (size c.times) c.prices (sym same_sizes) (omega (arith, same_sizes, few_times)),
      )

  pub zeros-after : (j : ℕ) → j < 5 → zero_after (parts_of c) j ≡ true
  unfolding parts_of
  zeros-after j h = rw (five_at (pos 0) c.times j h, five_at 0 c.prices j h) (go (ltb j (size c.times)) refl)
    where
      go : (t : Bool) → ltb j (size c.times) ≡ t → t || (eq_z (nth (pos 0) c.times j) (pos 0) && eqb (nth 0 c.prices j) 0) ≡ true
      go true e = refl
      go false e = rw (nth_after (pos 0) c.times j (omega tests), nth_after 0 c.prices j (omega (tests, same_sizes)))

-- `restore`'s test, on the parts of candidates
abbrev pub state_tests : Terms → Candidates → List Bool
state_tests t c =
    ltb c.bits (2 ^ slots t) ∷ beq (eqb c.bits 0) (eqb c.sum 0)
    ∷ leb (size c.times) t.k ∷ rising c.times ∷ all (λ price. ltb 0 price) c.prices
    ∷ beq (eq_z c.fallback_time (pos 0)) (eqb c.fallback_price 0) ∷ []

pub state_tests_lem : (t : Terms) (c : Candidates) → candidates_fit c ≡ true → good_state t (parts_of c) ≡ every (state_tests t c)
unfolding good_state parts_of
state_tests_lem t c f =
    rw (
      parts-back c f,
      zeros-after c f 0 (omega arith),
      zeros-after c f 1 (omega arith),
      zeros-after c f 2 (omega arith),
      zeros-after c f 3 (omega arith),
      zeros-after c f 4 (omega arith),
    )

-- ---- parts that pass `restore`'s test

eq_z_zero : (z : ℤ) → eq_z z (pos 0) ≡ true → z ≡ pos 0
eq_z_zero (pos n) h = let l = leb-true n 0 (both (le_z (pos n) (pos 0)) (le_z (pos 0) (pos n)) h).0 in ap pos (omega arith)
eq_z_zero (negsuc n) h = cc

-- what was read of five places and is zero after the first n goes back into the same places
place-back : {A : Type 0} (d : A) (n : ℕ) (xs : List A) (j : ℕ) → (n ≤ j → get_or xs j d ≡ d) → nth d (front d n xs) j ≡ get_or xs j d
place-back d n xs j h = go (ltb j n) refl
  where
    go : (b : Bool) → ltb j n ≡ b → nth d (front d n xs) j ≡ get_or xs j d
    go true e = nth-front d n xs j (ltb-true j n e)
    go false e =
        let l = ltb-false j n e in
        nth_after d (front d n xs) j (omega (arith, size-front d n xs)) ∙ sym (h l)

-- a list of five, one by one
pub five_are : {A : Type 0} (d : A) (l : List A) → length l ≡ 5 → get_or l 0 d ∷ get_or l 1 d ∷ get_or l 2 d ∷ get_or l 3 d ∷ get_or l 4 d ∷ [] ≡ l
five_are d (a ∷ b ∷ c ∷ e ∷ f ∷ []) h = refl
five_are d [] h = absurd (omega arith)
five_are d (a ∷ []) h = absurd (omega arith)
five_are d (a ∷ b ∷ []) h = absurd (omega arith)
five_are d (a ∷ b ∷ c ∷ []) h = absurd (omega arith)
five_are d (a ∷ b ∷ c ∷ e ∷ []) h = absurd (omega arith)
five_are d (a ∷ b ∷ c ∷ e ∷ f ∷ g ∷ l) h = absurd (omega arith)

module _ (t : Terms) (s : Parts) (good : good_state t s ≡ true) where
  passes : (j : ℕ) → test (restore_tests t s) j ≡ true
  unfolding good_state
  passes j = every_at (restore_tests t s) j good

  after_zero : (j : ℕ) → zero_after s j ≡ true → s.links ≤ j → (get_or s.times j (pos 0) ≡ pos 0) × (get_or s.prices j 0 ≡ 0)
  after_zero j h l = go (ltb j s.links) refl h
    where
      go : (b : Bool) → ltb j s.links ≡ b → b || (eq_z (get_or s.times j (pos 0)) (pos 0) && eqb (get_or s.prices j 0) 0) ≡ true
          → (get_or s.times j (pos 0) ≡ pos 0) × (get_or s.prices j 0 ≡ 0)
      go true e h = let m = ltb-true j s.links e in let c : ⊥ = omega arith in absurd c
      go false e h =
          let (x, y) = both (eq_z (get_or s.times j (pos 0)) (pos 0)) (eqb (get_or s.prices j 0) 0) h in
          (eq_z_zero (get_or s.times j (pos 0)) x, eqb-true (get_or s.prices j 0) 0 y)

  time_place : (j : ℕ) → zero_after s j ≡ true → nth (pos 0) (front (pos 0) s.links s.times) j ≡ get_or s.times j (pos 0)
  time_place j h = place-back (pos 0) s.links s.times j (λ l. (after_zero j h l).0)

  price-place : (j : ℕ) → zero_after s j ≡ true → nth 0 (front 0 s.links s.prices) j ≡ get_or s.prices j 0
  price-place j h = place-back 0 s.links s.prices j (λ l. (after_zero j h l).1)

  -- they go back into the same five places
  pub parts_kept : length s.times ≡ 5 → length s.prices ≡ 5 → parts_of (candidates_of s) ≡ s
  unfolding parts_of candidates_of
  parts_kept ht hp =
      let times : five (pos 0) (front (pos 0) s.links s.times) ≡ s.times =
      (λ x. time_place 0 (passes 5) x ∷ time_place 1 (passes 6) x ∷ time_place 2 (passes 7) x ∷ time_place 3 (passes 8) x ∷ time_place 4 (passes 9) x ∷ [])
      ∙ five_are (pos 0) s.times ht in
      let prices : five 0 (front 0 s.links s.prices) ≡ s.prices =
      (λ x. price-place 0 (passes 5) x ∷ price-place 1 (passes 6) x ∷ price-place 2 (passes 7) x ∷ price-place 3 (passes 8) x ∷ price-place 4 (passes 9) x ∷ [])
      ∙ five_are 0 s.prices hp in
      λ x. record {
        bits = s.bits;
        sum = s.sum;
        links = size-front (pos 0) s.links s.times x;
        times = times x;
        prices = prices x;
        fallback_time = s.fallback_time;
        fallback_price = s.fallback_price;
        window_changed = s.window_changed;
        link_changed = s.link_changed;
        fallback_changed = s.fallback_changed;
      }
