-- The parts of a series without the print of a slot.
use Rattle.std.specs.Prelude.{ℕ, ◌-◌, ◌^◌, ◌≤◌, ◌<◌, ℤ, get_or}
use Rattle.rules.specs.Bytes.{Bytes}
use Rattle.rules.specs.State.{Parts}
use Rattle.rules.specs.Series.{slot_places}
use Rattle.rules.specs.Record.{parts_in, prices_in}
use Rattle.rules.specs.Book.{record_at}
use Rattle.book.specs.Looks.{Allowed}

-- slot i, which has this price, is empty again
abbrev pub freed_parts : Parts → ℕ → ℕ → ℤ → Parts
freed_parts s i price now =
    record {
      bits = s.bits - 2 ^ i;
      sum = s.sum - price;
      links = s.links;
      times = s.times;
      prices = s.prices;
      fallback_time = s.fallback_time;
      fallback_price = s.fallback_price;
      window_changed = now;
      link_changed = s.link_changed;
      fallback_changed = s.fallback_changed;
    }

-- slot i of series s can be freed: it is one of 32, 2^i can be taken off the bits and its price off the sum
pub record CanFree (book : Bytes) (s i : ℕ) : Type 0 where
  pub allowed : Allowed book s
  pub one_of : i < slot_places
  pub in_bits : 2 ^ i ≤ (parts_in (record_at s book)).bits
  pub in_sum : get_or (prices_in (record_at s book)) i 0 ≤ (parts_in (record_at s book)).sum
