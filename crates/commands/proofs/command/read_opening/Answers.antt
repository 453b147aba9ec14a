use mathlib.Core.Path.{◌∙◌}
use mir.Syntax.{w64}
use Rattle.rules.specs.Entries.{opening_at}
use Rattle.endian.proofs.TwosComplement.{came}
use Rattle.commands.proofs.command.read_opening.Goals as goal

pub returns : goal.returns
unfolding opening_at
returns c = λ i. record { terms = c.read_params.ensures i; bps = c.read.ensures i; expiry = (c.new.ensures ∙ came w64 c.read-2.type_inv c.read-2.ensures) i }
