use mathlib.Core.Path.{◌∙◌}
use mir.Syntax.{w64}
use Rattle.core_parts.specs.States.{stored_of}
use Rattle.rules.specs.Record.{parts_in}
use Rattle.rules.specs.Bytes.{signed_at, unsigned_at}
use Rattle.endian.proofs.Offsets.{joined_at}
use Rattle.endian.proofs.TwosComplement.{came}
use Rattle.record_read.proofs.Records.{five_mapped}
use borrow.Author.Rules.{rules}
use Rattle.record_read.proofs.contents.read_state.Goals as goal

pub returns : goal.returns
unfolding stored_of parts_in
returns c =
    let bs = c.args.bytes.now in
    let times = five_mapped _ (λ i. signed_at bs i 8) (λ x y q k. search rules) c.map.ensures.items in
    let prices = five_mapped _ (λ i. unsigned_at bs i 8) (λ x y q k. search rules) c.map-2.ensures.items in
    λ i. record {
      bits = c.read-2.ensures i;
      sum = (c.read.ensures ∙ joined_at bs 48 8 8) i;
      links = c.read-3.ensures i;
      times = times i;
      prices = prices i;
      fallback_time = came w64 c.read-4.type_inv c.read-4.ensures i;
      fallback_price = c.read-5.ensures i;
      window_changed = came w64 c.read-6.type_inv c.read-6.ensures i;
      link_changed = came w64 c.read-7.type_inv c.read-7.ensures i;
      fallback_changed = came w64 c.read-8.type_inv c.read-8.ensures i;
    }
