use mathlib.Core.List.{[], ◌∷◌}
use mir.Syntax.{w64}
use mir.Val.{SFits}
use mir.Facts.{to_z-of_z}
use Rattle.rules.specs.Bytes.{word}
use Rattle.record_write.proofs.Stores.{numbers_stored}
use borrow.Author.Rules.{rules}
use Rattle.record_write.proofs.record.write_last.Goals as goal

pub returns : goal.returns
returns c =
    let a = c.args in
    let s = a.state in
    let u = a.outcome in
    let (f1, f2, f3, f4, f5) = (let h : SFits w64 c.args.state.fallback_time × SFits w64 c.args.state.window_changed × SFits w64 c.args.state.next_print_changed × SFits w64 c.args.state.fallback_changed × SFits w64 c.args.outcome.fixing_time = search rules in h) in
    rw (
      c.put-7.ensures,
      simp to_z-of_z at c.put-6.ensures,
      simp to_z-of_z at c.put-5.ensures,
      simp to_z-of_z at c.put-4.ensures,
      simp to_z-of_z at c.put-3.ensures,
      c.put-2.ensures,
      simp to_z-of_z at c.put.ensures,
    )
    (numbers_stored
    ((8, word 64 s.fallback_time) ∷ (8, s.fallback_price) ∷ (8, word 64 s.window_changed) ∷ (8, word 64 s.next_print_changed) ∷ (8, word 64 s.fallback_changed) ∷ (8, word 64 u.fixing_time) ∷ (8, u.price) ∷ [])
    a.part.now 144)
