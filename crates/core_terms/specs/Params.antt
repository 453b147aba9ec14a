-- The oracle terms, read as the rules' terms.
use Rattle.std.specs.Prelude.{ℕ, ℤ, Result}
use Rattle.rules.specs.Answers as R
use Rattle.rules.specs.Terms.{Terms}
use Rattle.core_terms.specs.Errors.{answered}
use Rattle.core_terms.specs.declared.error.CoreError.{CoreError}
use Rattle.core_terms.specs.declared.params.OracleParams.{OracleParams}

abbrev pub given : ℕ → ℕ → ℕ → ℕ → ℕ → ℕ → ℕ → ℕ → ℤ → Terms
given window slot tolerance minimum k delay lookback hard exponent =
    record {
      window = window;
      slot = slot;
      tolerance = tolerance;
      minimum = minimum;
      k = k;
      delay = delay;
      lookback = lookback;
      hard = hard;
      exponent = exponent;
    }

unfoldable pub terms_of : OracleParams → Terms
terms_of p =
    given p.window_s p.slot_s p.slot_tolerance_s p.min_samples p.k_next_print
    p.challenge_delay_s p.fallback_lookback_s p.hard_deadline_s p.expo

abbrev pub params_of : Result OracleParams CoreError → R.Result Terms
params_of = answered terms_of
