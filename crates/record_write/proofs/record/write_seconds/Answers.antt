use mathlib.Core.List.{[], ◌∷◌}
use Prim.Native.Nat.{◌<◌}
use Rattle.core_terms.specs.Params.{terms_of}
use Rattle.record_write.proofs.Stores.{numbers_stored, method-bytes}
use borrow.Author.Rules.{rules}
use Rattle.record_write.proofs.record.write_seconds.Goals as goal

pub returns : goal.returns
unfolding terms_of
returns c =
    let a = c.args in
    let p = a.p in
    rw (c.put-7.ensures, c.put-6.ensures, c.put-5.ensures, c.put-4.ensures, c.put-3.ensures, c.put-2.ensures, c.put.ensures, ← method-bytes a.method ((let h : c.args.method < 256 = search rules in h)))
    (numbers_stored
    ((4, p.window_s) ∷ (4, p.slot_s) ∷ (4, p.challenge_delay_s) ∷ (4, p.fallback_lookback_s) ∷ (4, p.hard_deadline_s) ∷ (4, a.bits) ∷ (4, a.method) ∷ [])
    a.part.now 12)
