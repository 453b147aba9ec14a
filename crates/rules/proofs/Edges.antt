-- #111's tests at their edges, on 01's terms: holdings that just pass, and those that are one beyond, for each test but the last, which follows. Window changed is never 0 in them.
use Prim.Native.Nat.{ℕ, ◌^◌, ◌-◌}
use mathlib.Core.Path.{◌≡◌, refl}
use mathlib.Core.Bool.{Bool, true, false}
use mathlib.Core.List.{[], ◌∷◌, ◌++◌}
use lib.ListN.{replicate}
use lib.IntN.{ℤ, pos, neg_ℤ}
use Rattle.rules.specs.Log.{Log, ε, ◌▹◌}
use Rattle.rules.specs.Terms.{Terms}
use Rattle.rules.specs.Taking.{bit}
use Rattle.rules.specs.Series.{Holdings}
use Rattle.rules.specs.Brought.{low_slots, slots_after, left_by_prints}

abbrev terms : Terms
terms = record { window = 40; slot = 10; tolerance = 2; minimum = 2; k = 2; delay = 5; lookback = 60; hard = 100; exponent = neg_ℤ (pos 2) }

-- the holdings: the slots' bits and the prices of slots 0 and 3, the links' times and prices, the fallback's time and price, link changed and fallback changed
abbrev held : ℕ → ℕ → ℕ → Log ℤ → Log ℕ → ℤ → ℕ → ℤ → ℤ → Holdings
held bits price₀ price₃ times prices time price link_changed fallback_changed =
    record {
      candidates =
          record {
            bits = bits;
            sum = 0;
            times = times;
            prices = prices;
            fallback_time = time;
            fallback_price = price;
            window_changed = neg_ℤ (pos 7);
            link_changed = link_changed;
            fallback_changed = fallback_changed;
          };
      slot_prices = (price₀ ∷ 0 ∷ 0 ∷ price₃ ∷ []) ++ replicate 28 0;
    }

-- with this E, such as prints leave
abbrev left : ℤ → Holdings → Bool
left expiry h = left_by_prints (record { terms = terms; bps = 100; expiry = expiry }) h

abbrev top : ℕ
top = 2 ^ 63 - 1

abbrev nothing : Holdings
nothing = held 0 0 0 ε ε (pos 0) 0 (pos 0) (pos 0)

-- a link at this time, the slots of these bits, a fallback of this time; alone, at a low price
abbrev link : ℤ → Holdings
link time = held 0 0 0 (ε ▹ time) (ε ▹ 1) (pos 0) 0 (pos 0) (pos 0)

abbrev filled : ℕ → Holdings
filled bits = held bits 1 1 ε ε (pos 0) 0 (pos 0) (pos 0)

abbrev fallback : ℤ → Holdings
fallback time = held 0 0 0 ε ε time 1 (pos 0) (pos 0)

pub passes : left (neg_ℤ (pos (2 ^ 63))) nothing
    ∷ left (pos 1000) (held 9 top top (ε ▹ pos 1001 ▹ pos 1002) (ε ▹ top ▹ top) (pos 940) top (pos 1) (neg_ℤ (pos 1)))
    ∷ left (pos 1) (link (pos 2)) ∷ left (pos 12) (filled 8) ∷ left (pos 42) (filled 9)
    ∷ left (pos 1000) (fallback (pos 1000)) ∷ left (pos 2) (fallback (pos 2)) ∷ [] ≡ replicate 7 true
unfolding left_by_prints low_slots slots_after bit
passes = refl

-- a link at E; a second one at E; E at 0 with a link
pub links-refused : left (pos 1000) (link (pos 1000)) ∷ left (pos 1000) (held 0 0 0 (ε ▹ pos 1001 ▹ pos 1000) (ε ▹ 1 ▹ 1) (pos 0) 0 (pos 0) (pos 0))
    ∷ left (pos 0) (link (pos 1)) ∷ [] ≡ replicate 3 false
unfolding left_by_prints low_slots slots_after bit
links-refused = refl

-- a boundary of 1: of the only slot; of the first of two
pub slots-refused : left (pos 11) (filled 8) ∷ left (pos 41) (filled 9) ∷ [] ≡ replicate 2 false
unfolding left_by_prints low_slots slots_after bit
slots-refused = refl

-- a fallback before E − lookback; after E; at 1
pub fallback-refused : left (pos 1000) (fallback (pos 939)) ∷ left (pos 1000) (fallback (pos 1001)) ∷ left (pos 2) (fallback (pos 1)) ∷ [] ≡ replicate 3 false
unfolding left_by_prints low_slots slots_after bit
fallback-refused = refl

-- a price of 2^63: of the first slot; of another; of a link; of another; of the fallback
pub prices-refused : left (pos 1000) (held 9 (2 ^ 63) 1 ε ε (pos 0) 0 (pos 0) (pos 0)) ∷ left (pos 1000) (held 9 1 (2 ^ 63) ε ε (pos 0) 0 (pos 0) (pos 0))
    ∷ left (pos 1000) (held 0 0 0 (ε ▹ pos 1001 ▹ pos 1002) (ε ▹ 2 ^ 63 ▹ 1) (pos 0) 0 (pos 0) (pos 0))
    ∷ left (pos 1000) (held 0 0 0 (ε ▹ pos 1001 ▹ pos 1002) (ε ▹ 1 ▹ 2 ^ 63) (pos 0) 0 (pos 0) (pos 0))
    ∷ left (pos 1000) (held 0 0 0 ε ε (pos 1000) (2 ^ 63) (pos 0) (pos 0)) ∷ [] ≡ replicate 5 false
unfolding left_by_prints low_slots slots_after bit
prices-refused = refl

-- link changed with a slot and a fallback and no link; fallback changed with a slot and a link and no fallback
pub changed-refused : left (pos 1000) (held 9 1 1 ε ε (pos 1000) 1 (pos 1) (pos 0)) ∷ left (pos 1000) (held 9 1 1 (ε ▹ pos 1001) (ε ▹ 1) (pos 0) 0 (pos 0) (neg_ℤ (pos 1))) ∷ [] ≡ replicate 2 false
unfolding left_by_prints low_slots slots_after bit
changed-refused = refl
