use Prim.Native.Nat.{ℕ}
use mathlib.Core.Path.{◌≡◌, sym, ap, ◌∙◌}
use mathlib.Core.List.{◌++◌}
use lib.ListN.{length, get_or}
use mir.Syntax.{w8, w64}
use mir.Val.{Fits, SFits}
use mir.Facts.{to_z-of_z}
use Rattle.rules.specs.Bytes.{Bytes, concat}
use Rattle.rules.specs.Record.{record_size, fields}
use Rattle.rules.proofs.Bytes.{are_bytes_lem}
use Rattle.rules.proofs.SlotPrices.{prices-back}
use Rattle.core_terms.specs.Params.{terms_of}
use Rattle.core_parts.specs.States.{stored_of}
use Rattle.record_read.specs.Records.{opening_of}
use Rattle.record_write.proofs.Stores.{record-stored, over_whole}
use borrow.Author.Rules.{rules}
use Rattle.record_write.proofs.record.write_record.Goals as goal

pub returns : goal.returns
unfolding stored_of
returns c =
    let a = c.args in
    let u = a.outcome in
    let f : SFits w64 c.get.result = search rules in
    let e = c.in-Some.ensures.cases in
    let (long, times, prices) = (let h : (length c.args.part.now ≡ record_size) × (length c.args.state.next_times ≡ 5) × (length c.args.state.next_prices ≡ 5) = search rules in h) in
    let front = concat (fields u.tag (opening_of a.opening) (stored_of a.state) u.samples u.method u.fixing_time u.price) in
    let kept = prices-back a.part.now long (are_bytes_lem a.part.now ((let h : (i : ℕ) → Fits w8 (get_or c.args.part.now i 0) = search rules in h))) in
    rw (
      over_whole a.part.now _ long,
      c.write_last.ensures,
      c.write_links-2.ensures,
      c.write_links.ensures,
      rw c.get.ensures at (simp to_z-of_z at c.write_sum.ensures),
      c.write_seconds.ensures,
      c.write_head.ensures,
      e.same,
    )
    (record-stored u.tag a.opening.max_conf_bps u.samples u.method u.price (terms_of a.opening.params) a.opening.expiry.0 u.fixing_time (stored_of a.state) a.part.now long times prices
    ∙ ap (λ (r : Bytes). front ++ r) (sym kept))
