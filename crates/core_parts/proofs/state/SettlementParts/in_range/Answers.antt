use Rattle.core_parts.specs.States.{stored_of}
use Rattle.core_parts.proofs.Places.{of_terms}
use Rattle.core_parts.proofs.state.SettlementParts.in_range.Goals as goal

pub returns : goal.returns
returns c = let a = c.args in of_terms a.params (stored_of a.self) c.fits.ensures c.slots.ensures
