use native.Mathlib.Omega.{arith}
use Rattle.core_decide.proofs.Counts.{ones-same}
use Rattle.metalbook_core.proofs.settlement.state.SettlementState.filled.Goals as goal

pub returns : goal.returns
returns c = ones-same c.args.self.parts.filled_slots (omega arith)
