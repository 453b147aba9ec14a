-- Prices, read as the rules' prices.
use Rattle.std.specs.Prelude.{ℕ, ◌^◌, leb, if◌then◌else◌, Result}
use Rattle.rules.specs.Answers as R
use Rattle.core_terms.specs.Errors.{answered}
use Rattle.core_terms.specs.declared.error.CoreError.{CoreError}
use Rattle.core_terms.specs.declared.units.StrikeUsd.{StrikeUsd}

abbrev pub price_of : Result StrikeUsd CoreError → R.Result ℕ
price_of = answered (λ p. p.0)

-- a price that fits a u64, or 0
abbrev pub priced : ℕ → R.Result ℕ
priced a = if leb (2 ^ 64) a then R.refused 0 else R.ok a
