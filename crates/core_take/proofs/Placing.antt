-- A print's uses put together: the answer, and the parts after it.
use Rattle.std.specs.Prelude.{if◌then◌else◌, Option, None, Some, SomeIff}
use Prim.Native.Nat.{ℕ, zero, suc, ◌+◌, ◌≤◌, ◌<◌, ◌^◌}
use mathlib.Core.Path.{◌≡◌, refl, sym, ap, ◌∙◌}
use mathlib.Core.Bool.{Bool, true, false, ◌||◌}
use mathlib.Core.List.{List}
use native.Mathlib.Omega.{arith}
use native.Mathlib.Numerals.{add-one}
use borrow.Author.Tests.{ltb-true, ltb-false, lt-ltb, le-ltb, eqb-true, eqb-false}
use lib.Dec.{ltb, eqb}
use lib.ListN.{length, get_or, set, length-set}
use lib.Seq.{get_or-set_same, get_or-set_other, ext_get_or}
use lib.IntN.{ℤ, pos, ◌-ℤ◌}
use lib.Signed.{le_z}
use Rattle.rules.specs.Log.{Log, ◌▹◌, is_some, maybe, size, nth, front}
use Rattle.rules.specs.Bytes.{fits}
use Rattle.rules.specs.Answers.{ok, refused, Answer, Used, Refused, is_used}
use Rattle.rules.specs.Terms.{Terms, good_terms}
use Rattle.rules.specs.Prints.{Print, eq_z}
use Rattle.rules.specs.Taking.{Candidates, slot_for, is_link, is_fallback, usable, times_fit, sum_fits, print_answer, place}
use Rattle.rules.specs.State.{Parts, candidates_of, five, parts_of, zero_after, restore_tests, good_state}
use Rattle.rules.proofs.Bools.{both, and_false, every_at}
use Rattle.rules.proofs.Integers.{same, le_yes}
use Rattle.rules.proofs.Logs.{size-front, nth-front, nth_after}
use Rattle.rules.proofs.State.{five_at}
use Rattle.core_take.specs.Placing.{slot_use, link_use, fallback_use, total_after, with_slot, with_link, with_fallback}
use Rattle.core_take.proofs.Links.{room}

-- ---- a sum that fits

pub sum_if : (x m : ℕ) (r : Option ℕ) → SomeIff r (x < m) x → r ≡ (if ltb x m then Some x else None)
sum_if x m None s = go (ltb x m) refl
  where
    go : (b : Bool) → ltb x m ≡ b → None ≡ (if b then Some x else None)
    go true e = absurd (s (ltb-true x m e))
    go false e = refl
sum_if x m (Some y) (l, e) = rw (lt-ltb x m l, e)

-- ---- what the calls say, by their answer

ok_if : {A : Type 0} (b : Bool) (x y : A) → ok x ≡ (if b then ok y else refused 0) → (b ≡ true) × (x ≡ y)
ok_if true x y e = (refl, cc)
ok_if false x y e = let n : ◌≡◌ {A = ℕ} 0 1 = cc in absurd (omega arith)

refused_if : {A : Type 0} (b : Bool) (n : ℕ) (y : A) → refused n ≡ (if b then ok y else refused 0) → (b ≡ false) × (n ≡ 0)
refused_if true n y e = let n : ◌≡◌ {A = ℕ} 0 1 = cc in absurd (omega arith)
refused_if false n y e = (refl, cc)

some_if : {A : Type 0} (b : Bool) (x y : A) → Some x ≡ (if b then Some y else None) → (b ≡ true) × (x ≡ y)
some_if true x y e = (refl, cc)
some_if false x y e = let n : ◌≡◌ {A = ℕ} 0 1 = cc in absurd (omega arith)

none_if : {A : Type 0} (b : Bool) (y : A) → None ≡ (if b then Some y else None) → b ≡ false
none_if true y e = let n : ◌≡◌ {A = ℕ} 0 1 = cc in absurd (omega arith)
none_if false y e = refl

module _ (t : Terms) (E : ℤ) (c : Candidates) (p : Print) where
  pub slot_told : (u : Option ℕ) → ok u ≡ slot_use t E c p → (fits (E -ℤ pos t.window) ≡ true) × (u ≡ slot_for t E c p)
  unfolding slot_use
  slot_told u e = ok_if (fits (E -ℤ pos t.window)) u (slot_for t E c p) e

  pub slot-refused : (n : ℕ) → refused n ≡ slot_use t E c p → (fits (E -ℤ pos t.window) ≡ false) × (n ≡ 0)
  unfolding slot_use
  slot-refused n e = refused_if (fits (E -ℤ pos t.window)) n (slot_for t E c p) e

  pub fallback_told : (b : Bool) → ok b ≡ fallback_use t E c p → (fits (E -ℤ pos t.lookback) ≡ true) × (b ≡ is_fallback t E c p)
  unfolding fallback_use
  fallback_told b e = ok_if (fits (E -ℤ pos t.lookback)) b (is_fallback t E c p) e

  pub fallback-refused : (n : ℕ) → refused n ≡ fallback_use t E c p → (fits (E -ℤ pos t.lookback) ≡ false) × (n ≡ 0)
  unfolding fallback_use
  fallback-refused n e = refused_if (fits (E -ℤ pos t.lookback)) n (is_fallback t E c p) e

  pub sum_told : (n : ℕ) → Some n ≡ total_after c.sum (slot_for t E c p) p.price
      → (sum_fits t E c p ≡ true) × (n ≡ maybe c.sum (λ i. c.sum + p.price) (slot_for t E c p))
  unfolding total_after
  sum_told n e = some_if (sum_fits t E c p) n (maybe c.sum (λ i. c.sum + p.price) (slot_for t E c p)) e

  pub sum_over : None ≡ total_after c.sum (slot_for t E c p) p.price → sum_fits t E c p ≡ false
  unfolding total_after
  sum_over e = none_if (sum_fits t E c p) (maybe c.sum (λ i. c.sum + p.price) (slot_for t E c p)) e

-- ---- the answer

module _ (t : Terms) (E : ℤ) (c : Candidates) (p : Print) where
  pub no_window : fits (E -ℤ pos t.window) ≡ false → print_answer t E c p ≡ Refused 0
  unfolding print_answer
  no_window e = rw e

  pub no_lookback : fits (E -ℤ pos t.lookback) ≡ false → print_answer t E c p ≡ Refused 0
  unfolding print_answer
  no_lookback e = rw (e, and_false (fits (E -ℤ pos t.window)))

  pub no_sum : sum_fits t E c p ≡ false → print_answer t E c p ≡ Refused 0
  unfolding print_answer
  no_sum e = rw (e, and_false (times_fit t E))

  module _ (w : fits (E -ℤ pos t.window) ≡ true) (l : fits (E -ℤ pos t.lookback) ≡ true) (f : sum_fits t E c p ≡ true) where
    pub no_use : usable t E c p ≡ false → print_answer t E c p ≡ Refused 14
    unfolding print_answer
    no_use e = rw (w, l, f, e)

    pub in_use : usable t E c p ≡ true → print_answer t E c p ≡ Used (slot_for t E c p) (link_use t E c p) (is_fallback t E c p)
    unfolding print_answer link_use
    in_use e = rw (w, l, f, e)

  pub use_is : is_some (slot_for t E c p) || is_some (link_use t E c p) || is_fallback t E c p ≡ usable t E c p
  unfolding link_use
  use_is = go (is_link t E c p)
    where
      go : (b : Bool) → is_some (slot_for t E c p) || is_some (if b then Some (size c.times) else None) || is_fallback t E c p ≡ is_some (slot_for t E c p) || b || is_fallback t E c p
      go true = refl
      go false = refl

-- a refused print changes nothing
pub unchanged : {A : Type 0} (a : Answer) (n : ℕ) (x y : A) → a ≡ Refused n → (Refused n ≡ a) × (y ≡ (if is_used a then x else y))
unchanged a n x y e = (sym e, rw e)

-- the uses made one after the other
pub steps_are : (u v : Option ℕ) (f : Bool) (n : ℕ) (p : Print) (now : ℤ) (s x y z : Parts) → x ≡ with_slot u n now s → y ≡ with_link v p now x → z ≡ with_fallback f p now y
    → z ≡ with_fallback f p now (with_link v p now (with_slot u n now s))
steps_are u v f n p now s x y z ex ey ez = ez ∙ ap (with_fallback f p now) (ey ∙ ap (with_link v p now) ex)

-- ---- the links' five places

module _ {A : Type 0} (d : A) where
  five_is : (xs : List A) (l : Log A) → length xs ≡ 5 → ((j : ℕ) → j < 5 → get_or xs j d ≡ nth d l j) → xs ≡ five d l
  five_is xs l e h = ext_get_or d xs (five d l) e (λ j m. h j (omega arith) ∙ sym (five_at d l j (omega arith)))

  module _ (xs : List A) (n : ℕ) (len : length xs ≡ 5) (after : (j : ℕ) → n ≤ j → j < 5 → get_or xs j d ≡ d) where
    pub five_kept : xs ≡ five d (front d n xs)
    five_kept = five_is xs (front d n xs) len (λ j m. go j m (ltb j n) refl)
      where
        go : (j : ℕ) → j < 5 → (b : Bool) → ltb j n ≡ b → get_or xs j d ≡ nth d (front d n xs) j
        go j m true e = sym (nth-front d n xs j (ltb-true j n e))
        go j m false e =
            let l = ltb-false j n e in
            after j l m ∙ sym (nth_after d (front d n xs) j (omega (arith, size-front d n xs)))

    pub five_more : (x : A) → n < 5 → set xs n x ≡ five d (front d n xs ▹ x)
    unfolding nth
    five_more x l = five_is (set xs n x) (front d n xs ▹ x) (length-set xs n x ∙ len) (λ j m. go j m (eqb j n) refl)
      where
        go : (j : ℕ) → j < 5 → (b : Bool) → eqb j n ≡ b → get_or (set xs n x) j d ≡ nth d (front d n xs ▹ x) j
        go j m true e = rw (size-front d n xs, e, eqb-true j n e) (get_or-set_same xs n x d (omega (arith, len)))
        go j m false e =
            rw (size-front d n xs, e)
            (get_or-set_other xs n j x d (eqb-false j n e) ∙ ap (λ (ys : List A). get_or ys j d) five_kept ∙ five_at d (front d n xs) j m)

-- ---- the parts after it

module _ (t : Terms) (E : ℤ) (s : Parts) (p : Print) (now : ℤ) (g : good_terms t ≡ true) (h : good_state t s ≡ true)
    (times-length : length s.times ≡ 5) (prices-length : length s.prices ≡ 5) where
  zero_after_lem : (j : ℕ) → j < 5 → zero_after s j ≡ true
  unfolding good_state
  zero_after_lem zero m = every_at (restore_tests t s) 5 h
  zero_after_lem (suc zero) m = every_at (restore_tests t s) 6 h
  zero_after_lem (suc (suc zero)) m = every_at (restore_tests t s) 7 h
  zero_after_lem (suc (suc (suc zero))) m = every_at (restore_tests t s) 8 h
  zero_after_lem (suc (suc (suc (suc zero)))) m = every_at (restore_tests t s) 9 h
  zero_after_lem (suc (suc (suc (suc (suc j))))) m = absurd (omega arith)

  zeros : (j : ℕ) → s.links ≤ j → j < 5 → (get_or s.times j (pos 0) ≡ pos 0) × (get_or s.prices j 0 ≡ 0)
  zeros j l m =
      let time = get_or s.times j (pos 0) in
      let (a, b) = both (eq_z time (pos 0)) (eqb (get_or s.prices j 0) 0) (rw (le-ltb j s.links l) at (zero_after_lem j m)) in
      let (up_to_lem, down_to) = both (le_z time (pos 0)) (le_z (pos 0) time) a in
      (same time (pos 0) (omega (arith, le_yes time (pos 0) up_to_lem, le_yes (pos 0) time down_to)), eqb-true (get_or s.prices j 0) 0 b)

  abbrev times : Log ℤ
  times = front (pos 0) s.links s.times

  abbrev prices : Log ℕ
  prices = front 0 s.links s.prices

  -- by the slot, whether it is a link, and whether it is the fallback
  abbrev after : Option ℕ → Bool → Bool → Parts
  after slot link fallback =
      record {
        bits = maybe s.bits (λ i. s.bits + 2 ^ i) slot;
        sum = maybe s.sum (λ i. s.sum + p.price) slot;
        links = size (if link then times ▹ p.published else times);
        times = five (pos 0) (if link then times ▹ p.published else times);
        prices = five 0 (if link then prices ▹ p.price else prices);
        fallback_time = if fallback then p.published else s.fallback_time;
        fallback_price = if fallback then p.price else s.fallback_price;
        window_changed = maybe s.window_changed (λ i. now) slot;
        link_changed = if link then now else s.link_changed;
        fallback_changed = if fallback then now else s.fallback_changed;
      }

  abbrev stepwise : Option ℕ → Option ℕ → Bool → ℕ → Parts
  stepwise slot link fallback sum = with_fallback fallback p now (with_link link p now (with_slot slot sum now s))

  -- the links' places are the parts that differ in form
  by_links : (u : Option ℕ) (l f : Bool) (n : ℕ) (ts : List ℤ) (ps : List ℕ) → n ≡ (after u l f).links → ts ≡ (after u l f).times → ps ≡ (after u l f).prices
      → ◌≡◌ {A = Parts} (record {
        bits = (after u l f).bits;
        sum = (after u l f).sum;
        links = n;
        times = ts;
        prices = ps;
        fallback_time = (after u l f).fallback_time;
        fallback_price = (after u l f).fallback_price;
        window_changed = (after u l f).window_changed;
        link_changed = (after u l f).link_changed;
        fallback_changed = (after u l f).fallback_changed;
      }) (after u l f)
  by_links u l f n ts ps e₁ e₂ e₃ = λ i. record {
    bits = (after u l f).bits;
    sum = (after u l f).sum;
    links = e₁ i;
    times = e₂ i;
    prices = e₃ i;
    fallback_time = (after u l f).fallback_time;
    fallback_price = (after u l f).fallback_price;
    window_changed = (after u l f).window_changed;
    link_changed = (after u l f).link_changed;
    fallback_changed = (after u l f).fallback_changed;
  }

  kept_links : s.links ≡ size times
  kept_links = sym (size-front (pos 0) s.links s.times)

  kept_times : s.times ≡ five (pos 0) times
  kept_times = five_kept (pos 0) s.times s.links times-length (λ j l m. (zeros j l m).0)

  kept_prices : s.prices ≡ five 0 prices
  kept_prices = five_kept 0 s.prices s.links prices-length (λ j l m. (zeros j l m).1)

  more_links : s.links + 1 ≡ suc (size times)
  more_links = add-one s.links ∙ ap suc kept_links

  more_times : s.links < 5 → set s.times s.links p.published ≡ five (pos 0) (times ▹ p.published)
  more_times l = five_more (pos 0) s.times s.links times-length (λ j l m. (zeros j l m).0) p.published l

  more_prices : s.links < 5 → set s.prices s.links p.price ≡ five 0 (prices ▹ p.price)
  more_prices l = five_more 0 s.prices s.links prices-length (λ j l m. (zeros j l m).1) p.price l

  steps : (u : Option ℕ) (l f : Bool) → (l ≡ true → s.links < 5)
      → stepwise u (if l then Some s.links else None) f (maybe s.sum (λ i. s.sum + p.price) u) ≡ after u l f
  steps None true true r = by_links None true true _ _ _ more_links (more_times (r refl)) (more_prices (r refl))
  steps None true false r = by_links None true false _ _ _ more_links (more_times (r refl)) (more_prices (r refl))
  steps None false true r = by_links None false true _ _ _ kept_links kept_times kept_prices
  steps None false false r = by_links None false false _ _ _ kept_links kept_times kept_prices
  steps (Some i) true true r = by_links (Some i) true true _ _ _ more_links (more_times (r refl)) (more_prices (r refl))
  steps (Some i) true false r = by_links (Some i) true false _ _ _ more_links (more_times (r refl)) (more_prices (r refl))
  steps (Some i) false true r = by_links (Some i) false true _ _ _ kept_links kept_times kept_prices
  steps (Some i) false false r = by_links (Some i) false false _ _ _ kept_links kept_times kept_prices

  abbrev c : Candidates
  c = candidates_of s

  pub placed : stepwise (slot_for t E c p) (link_use t E c p) (is_fallback t E c p) (maybe s.sum (λ i. s.sum + p.price) (slot_for t E c p)) ≡ parts_of (place t E c p now)
  unfolding link_use candidates_of parts_of place
  placed =
      rw (size-front (pos 0) s.links s.times)
      (steps (slot_for t E c p) (is_link t E c p) (is_fallback t E c p) (room t E s p g))

  -- a taken print: u, v, f are the uses, n the sum, and z the parts after them
  pub stored : (u v : Option ℕ) (f : Bool) (n : ℕ) (z : Parts)
      → u ≡ slot_for t E c p → v ≡ link_use t E c p → f ≡ is_fallback t E c p → n ≡ maybe s.sum (λ i. s.sum + p.price) (slot_for t E c p)
      → print_answer t E c p ≡ Used (slot_for t E c p) (link_use t E c p) (is_fallback t E c p)
      → z ≡ stepwise u v f n
      → (Used u v f ≡ print_answer t E c p) × (z ≡ (if is_used (print_answer t E c p) then parts_of (place t E c p now) else s))
  stored u v f n z eu ev ef en answer ez = (
    (λ i. Used (eu i) (ev i) (ef i)) ∙ sym answer,
    ez ∙ (λ i. stepwise (eu i) (ev i) (ef i) (en i))
        ∙ placed
        ∙ sym (ap (λ (a : Answer). if is_used a then parts_of (place t E c p now) else s) answer),
  )
