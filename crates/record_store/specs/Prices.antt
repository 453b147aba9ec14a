-- The slot prices with one of them written.
use Rattle.std.specs.Prelude.{ℕ, List, set, Option}
use Rattle.rules.specs.Log.{maybe}

abbrev pub with_price : List ℕ → Option ℕ → ℕ → List ℕ
with_price prices slot price = maybe prices (λ i. set prices i price) slot
