use mir.Syntax.{w8}
use mir.Val.{SFits}
use mir.Facts.{to_z-of_z}
use borrow.Author.Rules.{rules}
use Rattle.rules.specs.Log.{front, total}
use Rattle.rules.specs.Decision.{settle}
use Rattle.core_decide.proofs.Steps.{settled}
use Rattle.core_decide.specs.Decisions.{method_of}
use Rattle.core_decide.proofs.decide.chain_from.Goals as goal

pub returns : goal.returns
returns c =
    let a = c.args in
    let f = c.ranges.t in
    let g = c.ranges.now in
    let h : SFits w8 a.p.expo = search rules in
    simp to_z-of_z at (c.from_then.ensures (settle a.p.expo (method_of a.method) (total (front 0 a.s.next_len a.s.next_prices)) a.s.next_len) (λ r e. settled a.p.expo h _ _ _ _ (search rules)))
