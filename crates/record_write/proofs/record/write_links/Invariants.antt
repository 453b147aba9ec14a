use mathlib.Core.Path.{◌≡◌}
use mathlib.Core.List.{map}
use lib.ListN.{take}
use lib.Seq.{sets}
use Rattle.rules.specs.Bytes.{concat, bytes}
use Rattle.record_write.proofs.record.write_links.Given as goal

abbrev pub invariant-loop-i : goal.invariant-loop-i
invariant-loop-i g l = l.part ≡ sets l.initial.part l.at (concat (map (λ x. bytes 8 (g.T.LittleEndian.bits x)) (take l.i l.fn.links)))
