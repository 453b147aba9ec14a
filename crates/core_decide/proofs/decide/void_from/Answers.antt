use mir.Facts.{to_z-of_z}
use borrow.Author.Rules.{rules}
use Rattle.rules.specs.Answers.{Answer}
use Rattle.core_decide.proofs.decide.void_from.Goals as goal

pub returns : goal.returns
returns c =
    let f = c.ranges.t in
    let g = c.ranges.now in
    simp to_z-of_z at (c.from_then.ensures Answer.Void (λ r e. search rules))
