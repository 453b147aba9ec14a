use mathlib.Core.List.{[], ◌∷◌}
use mir.Syntax.{w8}
use mir.Val.{SFits}
use mir.Facts.{to_z-of_z}
use Rattle.core_terms.specs.Params.{terms_of}
use Rattle.rules.specs.Bytes.{word}
use Rattle.record_write.proofs.Stores.{numbers_stored}
use borrow.Author.Rules.{rules}
use Rattle.record_write.proofs.record.write_head.Goals as goal

pub returns : goal.returns
unfolding terms_of
returns c =
    let a = c.args in
    let p = a.p in
    let f = (let h : SFits w8 c.args.p.expo = search rules in h) in
    rw (c.put-8.ensures, c.put-7.ensures, c.put-6.ensures, c.put-5.ensures, c.put-4.ensures, simp to_z-of_z at c.put-3.ensures, c.put-2.ensures, c.put.ensures)
    (numbers_stored ((1, a.tag) ∷ (1, p.k_next_print) ∷ (1, word 8 p.expo) ∷ (1, a.links) ∷ (2, p.slot_tolerance_s) ∷ (2, p.min_samples) ∷ (2, a.bps) ∷ (2, a.samples) ∷ []) a.part.now 0)
