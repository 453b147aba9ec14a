use mathlib.Core.List.{[], ◌∷◌}
use mir.Facts.{to_z-of_z}
use Rattle.rules.specs.Bytes.{word}
use Rattle.record_write.proofs.Stores.{numbers_stored}
use Rattle.record_write.proofs.record.write_sum.Goals as goal

pub returns : goal.returns
returns c =
    let a = c.args in
    let f = c.ranges.expiry in
    rw (c.put-2.ensures, simp to_z-of_z at c.put.ensures) (numbers_stored ((8, word 64 a.expiry) ∷ (16, a.sum) ∷ []) a.part.now 40)
