use Prim.Native.Nat.{◌^◌}
use mathlib.Core.Path.{sym}
use native.Mathlib.Omega.{arith}
use borrow.Author.Tests.{lt-ltb}
use lib.Pow.{pow_mono}
use Rattle.rules.proofs.Bits.{none_above}
use Rattle.core_parts.proofs.state.bits_ok.Goals as goal

pub returns-then-slots-ge-MAX_SLOTS : goal.returns-then-slots-ge-MAX_SLOTS
returns-then-slots-ge-MAX_SLOTS c =
    let h = pow_mono c.if-slots-ge-MAX_SLOTS.true in
    sym (lt-ltb c.args.bits (2 ^ c.args.slots) (omega arith))

pub returns : goal.returns
returns c = none_above c.args.bits c.args.slots
