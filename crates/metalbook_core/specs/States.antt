-- The state, read as the rules' parts.
use Rattle.rules.specs.Answers as R
use Rattle.rules.specs.State.{Parts}
use Rattle.core_parts.specs.States.{stored_of, checked_of}
use Rattle.metalbook_core.specs.declared.settlement.state.SettlementState.{SettlementState}
use Rattle.metalbook_core.specs.declared.settlement.state.Restored.{Restored}

abbrev pub state_of : SettlementState → Parts
state_of s = stored_of s.parts

abbrev pub restored_of : Restored → R.Result Parts
restored_of r = checked_of (state_of r.state) r.result
