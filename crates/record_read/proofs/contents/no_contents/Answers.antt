use Rattle.core_terms.specs.Params.{terms_of}
use Rattle.record_read.specs.Records.{no_contents}
use Rattle.record_read.proofs.contents.no_contents.Goals as goal

pub returns : goal.returns
unfolding terms_of
returns c = λ i. record { opening = record { terms = no_contents.opening.terms; bps = 0; expiry = c.new.ensures i }; parts = c.empty.ensures i }
