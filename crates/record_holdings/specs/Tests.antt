-- #111's tests of a record in the groups that the code makes them in: the slots by how far each lies after the first, the links, the fallback.
use Rattle.std.specs.Prelude.{ℕ, ◌*◌, Bool, not, ◌&&◌, ◌||◌, List, [], ◌∷◌, pos, leb}
use Rattle.std.specs.Int.Signed.{lt_z}
use Rattle.rules.specs.Log.{all, all<, front}
use Rattle.rules.specs.Bytes.{Bytes}
use Rattle.rules.specs.Taking.{bit}
use Rattle.rules.specs.Series.{slot_places}
use Rattle.rules.specs.Brought.{low_price, low_links, low_fallback, link_unchanged, fallback_unchanged, links_after, link_expiry, fallback_within}
use Rattle.rules.specs.Record.{opening_in, parts_in, holdings_in}

-- each filled slot, with so many seconds to a slot, lies the given seconds or more after the first slot
unfoldable pub all_after : ℕ → ℕ → ℕ → Bool
all_after bits slot seconds = all< slot_places (λ i. not (bit i bits) || leb seconds (i * slot))

module _ (bs : Bytes) where
  -- the first n links are after E, and have low prices
  abbrev pub first_links : ℕ → Bool
  first_links n = all (lt_z (opening_in bs).expiry) (front (pos 0) n (parts_in bs).times) && all low_price (front 0 n (parts_in bs).prices)

  abbrev pub link_tests : List Bool
  link_tests = links_after (opening_in bs) (holdings_in bs) ∷ link_expiry (opening_in bs) (holdings_in bs) ∷ low_links (holdings_in bs) ∷ link_unchanged (holdings_in bs) ∷ []

  abbrev pub fallback_tests : List Bool
  fallback_tests = fallback_within (opening_in bs) (holdings_in bs) ∷ low_fallback (holdings_in bs) ∷ fallback_unchanged (holdings_in bs) ∷ []
