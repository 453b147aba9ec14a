use mir.Syntax.{w8}
use Rattle.rules.specs.Record.{opening_in}
use Rattle.core_terms.specs.Params.{terms_of}
use Rattle.endian.proofs.TwosComplement.{came}
use Rattle.record_read.proofs.contents.read_params.Goals as goal

pub returns : goal.returns
unfolding terms_of opening_in
returns c =
    λ i. record {
      window = c.read.ensures i;
      slot = c.read-2.ensures i;
      tolerance = c.read-3.ensures i;
      minimum = c.read-4.ensures i;
      k = c.read-5.ensures i;
      delay = c.read-6.ensures i;
      lookback = c.read-7.ensures i;
      hard = c.read-8.ensures i;
      exponent = came w8 c.read-9.type_inv c.read-9.ensures i;
    }
