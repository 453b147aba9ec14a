use mir.Facts.{to_z-of_z}
use mir.Syntax.{w64}
use mir.Val.{SFits}
use Rattle.rules.specs.Taking.{qualifies}
use Rattle.rules.specs.State.{candidates_of}
use Rattle.core_terms.specs.Params.{terms_of}
use Rattle.core_prices.specs.Prints.{print_of}
use Rattle.core_parts.specs.States.{stored_of}
use Rattle.core_uses.specs.Uses.{fallback_in}
use Rattle.core_take.specs.Placing.{fallback_use}
use borrow.Author.Rules.{rules}
use Rattle.core_take.proofs.take.try_fallback.Goals as goal

pub returns : goal.returns
unfolding fallback_use fallback_in qualifies terms_of print_of stored_of candidates_of
returns c =
    let f-expiry = let x : SFits w64 c.args.x.expiry = search rules in x in
    let f-stored = let x : SFits w64 c.args.s.fallback_time = search rules in x in
    let f-publish = let x : SFits w64 c.args.x.print.publish_time = search rules in x in
    let f-prev = let x : SFits w64 c.args.x.print.prev_publish_time = search rules in x in
    simp to_z-of_z at c.fallback_in.ensures
