-- What stands in a record.
use Rattle.std.specs.Prelude.{pos, length, eqb, if◌then◌else◌}
use Rattle.rules.specs.Bytes.{Bytes}
use Rattle.rules.specs.Answers as R
use Rattle.rules.specs.State.{Parts, parts_of}
use Rattle.rules.specs.Series as S
use Rattle.rules.specs.Series.{no_candidates}
use Rattle.rules.specs.Record.{record_size, outcome, opening_in, parts_in, method_in, samples_in, price_in}
use Rattle.core_terms.specs.Params.{terms_of}
use Rattle.core_parts.specs.States.{stored_of}
use Rattle.record_read.specs.declared.contents.Contents.{Contents}
use Rattle.record_read.specs.declared.contents.Opening.{Opening}

abbrev pub opening_of : Opening → S.Opening
opening_of o = record { terms = terms_of o.params; bps = o.max_conf_bps; expiry = o.expiry.0 }

pub record Held : Type 0 where
  pub opening : S.Opening
  pub parts : Parts

abbrev pub contents_of : Contents → Held
contents_of c = record { opening = opening_of c.opening; parts = stored_of c.state }

abbrev pub contents_in : Bytes → Held
contents_in bs = record { opening = opening_in bs; parts = parts_in bs }

-- zeros: terms that are not good
abbrev pub no_contents : Held
no_contents =
    record {
      opening = record {
        terms = record { window = 0; slot = 0; tolerance = 0; minimum = 0; k = 0; delay = 0; lookback = 0; hard = 0; exponent = pos 0 };
        bps = 0;
        expiry = pos 0;
      };
      parts = parts_of no_candidates;
    }

-- bytes of another length are no record
abbrev pub contents_from : Bytes → Held
contents_from bs = if eqb (length bs) record_size then contents_in bs else no_contents

-- the outcome that stands there
abbrev pub outcome_in : Bytes → R.Answer
outcome_in bs = outcome (R.method (method_in bs)) (price_in bs) (samples_in bs)
