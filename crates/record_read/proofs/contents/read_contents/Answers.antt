use mathlib.Core.Path.{◌≡◌, sym, ◌∙◌}
use mir.Syntax.{w64}
use Rattle.record_read.specs.Records.{contents_of, contents_in}
use Rattle.endian.proofs.TwosComplement.{came}
use Rattle.record_read.proofs.Records.{opening_is, contents_whole}
use Rattle.record_read.proofs.contents.read_contents.Goals as goal

pub returns : goal.returns
returns c =
    let bs = c.args.bytes.now in
    let h : contents_of _ ≡ contents_in bs =
    λ i. record {
      opening = opening_is bs c.read_params.ensures c.read.ensures (c.new.ensures ∙ came w64 c.read-2.type_inv c.read-2.ensures) i;
      parts = c.read_state.ensures i;
    } in
    h ∙ sym (contents_whole bs c.if-bytes-ne-RECORD_SIZE.false)
