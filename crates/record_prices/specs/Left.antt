-- The test of a record's slot prices, from the last slot down.
use Rattle.std.specs.Prelude.{ℕ, ◌+◌, ◌-◌, ◌/◌, ◌^◌, ◌≤◌, ◌<◌, ◌≡◌, ◌&&◌, eqb, get_or}
use Rattle.rules.specs.Log.{Σ<, all<}
use Rattle.rules.specs.Bytes.{Bytes}
use Rattle.rules.specs.Series.{slot_places}
use Rattle.rules.specs.Brought.{low_price}
use Rattle.rules.specs.Record.{slot_priced, prices_in, holdings_in}

-- The slots from i on have made these bits and this total, and have low prices: what is left is the test of those before i.
unfoldable pub Left : Bytes → ℕ → ℕ → ℕ → Type 0
Left bs i bits total =
    (i ≤ slot_places) × (bits < 2 ^ (slot_places - i))
    × (all< i (slot_priced (holdings_in bs)) && eqb bits ((holdings_in bs).candidates.bits / 2 ^ i) ≡ all< slot_places (slot_priced (holdings_in bs)))
    × (Σ< i (λ j. get_or (prices_in bs) j 0) + total ≡ Σ< slot_places (λ j. get_or (prices_in bs) j 0))
    × (all< i (λ j. low_price (get_or (prices_in bs) j 0)) ≡ all< slot_places (λ j. low_price (get_or (prices_in bs) j 0)))
