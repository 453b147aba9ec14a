use mathlib.Core.Path.{refl}
use Rattle.rules.specs.Log.{nth}
use Rattle.rules.specs.State.{parts_of}
use Rattle.core_parts.specs.States.{stored_of}
use Rattle.core_parts.proofs.state.SettlementParts.empty.Goals as goal

pub returns : goal.returns
unfolding nth parts_of stored_of
returns c = refl
