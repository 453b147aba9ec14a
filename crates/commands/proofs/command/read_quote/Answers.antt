use mir.Syntax.{w32, w64}
use Rattle.rules.specs.Entries.{quote_at}
use Rattle.core_prices.specs.Prints.{quote_of}
use Rattle.endian.proofs.TwosComplement.{came}
use Rattle.commands.proofs.command.read_quote.Goals as goal

pub returns : goal.returns
unfolding quote_of quote_at
returns c =
    λ i. record {
      price = came w64 c.read.type_inv c.read.ensures i;
      conf = c.read-2.ensures i;
      exponent = came w32 c.read-3.type_inv c.read-3.ensures i;
      published = came w64 c.read-4.type_inv c.read-4.ensures i;
      prev = came w64 c.read-5.type_inv c.read-5.ensures i;
    }
