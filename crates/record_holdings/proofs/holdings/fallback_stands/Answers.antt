use native.Mathlib.Omega.{arith}
use mir.Syntax.{w64}
use Rattle.endian.proofs.TwosComplement.{came}
use Rattle.record_holdings.proofs.Stand.{fallback_told}
use Rattle.record_holdings.proofs.holdings.fallback_stands.Goals as goal

pub returns : goal.returns
returns c = fallback_told c.args.bytes.now c.in_time.ensures (came w64 c.read-2.type_inv c.read-2.ensures) c.read-price.ensures c.if-price-eq0.false (omega arith)
