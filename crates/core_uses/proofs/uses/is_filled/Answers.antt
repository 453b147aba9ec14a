use mathlib.Core.Path.{refl, sym, ◌∙◌}
use borrow.Author.Tests.{le-ltb}
use Rattle.rules.specs.Taking.{bit}
use Rattle.rules.proofs.Bits.{bit-above}
use Rattle.core_uses.proofs.uses.is_filled.Goals as goal

pub returns-then-i-lt32 : goal.returns-then-i-lt32
unfolding bit
returns-then-i-lt32 c = refl

pub returns-else-i-lt32 : goal.returns-else-i-lt32
returns-else-i-lt32 c = le-ltb c.args.i 32 c.if-i-lt32.false ∙ sym (bit-above c.args.bits 32 c.args.i c.ranges.bits.fits c.if-i-lt32.false)
