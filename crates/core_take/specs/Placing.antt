-- The uses of a print one by one, and the parts after each.
use Rattle.std.specs.Prelude.{ℕ, ◌+◌, ◌^◌, Bool, true, false, not, ◌&&◌, ◌||◌, set, ℤ, pos, ◌-ℤ◌, ltb, if◌then◌else◌, Option, None, Some}
use Rattle.rules.specs.Log.{is_some, maybe, size}
use Rattle.rules.specs.Bytes.{fits}
use Rattle.rules.specs.Answers.{Result, ok, refused}
use Rattle.rules.specs.Terms.{Terms}
use Rattle.rules.specs.Prints.{Print}
use Rattle.rules.specs.Taking.{Candidates, bit, slot_for, is_link, is_fallback}
use Rattle.rules.specs.State.{Parts}

-- ---- the uses

-- the slot that a print fills, where the window's start fits
unfoldable pub slot_use : Terms → ℤ → Candidates → Print → Result (Option ℕ)
slot_use t E c p = if fits (E -ℤ pos t.window) then ok (slot_for t E c p) else refused 0

-- the link that a print is
unfoldable pub link_use : Terms → ℤ → Candidates → Print → Option ℕ
link_use t E c p = if is_link t E c p then Some (size c.times) else None

-- whether a print is the new fallback, where the lookback's start fits
unfoldable pub fallback_use : Terms → ℤ → Candidates → Print → Result Bool
fallback_use t E c p = if fits (E -ℤ pos t.lookback) then ok (is_fallback t E c p) else refused 0

-- the sum of the slots' prices after a print, where it fits 128 bits
unfoldable pub total_after : ℕ → Option ℕ → ℕ → Option ℕ
total_after sum slot price = if not (is_some slot) || ltb (sum + price) (2 ^ 128) then Some (maybe sum (λ i. sum + price) slot) else None

-- ---- what a use needs

-- the slot, if there is one, is empty and one of 32
unfoldable pub fillable : ℕ → Option ℕ → Bool
fillable bits slot = maybe true (λ i. ltb i 32 && not (bit i bits)) slot

-- the link, if there is one, has one of the five places
abbrev pub linkable : Option ℕ → Bool
linkable link = maybe true (λ i. ltb i 5) link

-- ---- the parts after a use

abbrev pub with_slot : Option ℕ → ℕ → ℤ → Parts → Parts
with_slot None sum now s = s
with_slot (Some i) sum now s =
    record {
      bits = s.bits + 2 ^ i;
      sum = sum;
      links = s.links;
      times = s.times;
      prices = s.prices;
      fallback_time = s.fallback_time;
      fallback_price = s.fallback_price;
      window_changed = now;
      link_changed = s.link_changed;
      fallback_changed = s.fallback_changed;
    }

abbrev pub with_link : Option ℕ → Print → ℤ → Parts → Parts
with_link None p now s = s
with_link (Some i) p now s =
    record {
      bits = s.bits;
      sum = s.sum;
      links = i + 1;
      times = set s.times i p.published;
      prices = set s.prices i p.price;
      fallback_time = s.fallback_time;
      fallback_price = s.fallback_price;
      window_changed = s.window_changed;
      link_changed = now;
      fallback_changed = s.fallback_changed;
    }

abbrev pub with_fallback : Bool → Print → ℤ → Parts → Parts
with_fallback false p now s = s
with_fallback true p now s =
    record {
      bits = s.bits;
      sum = s.sum;
      links = s.links;
      times = s.times;
      prices = s.prices;
      fallback_time = p.published;
      fallback_price = p.price;
      window_changed = s.window_changed;
      link_changed = s.link_changed;
      fallback_changed = now;
    }
