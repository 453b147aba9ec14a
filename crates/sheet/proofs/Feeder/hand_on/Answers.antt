use mathlib.Core.Path.{◌≡◌, refl}
use mathlib.Core.Bool.{true, ◌||◌, or-true}
use lib.Dec.{eqb}
use native.Mathlib.Omega.{arith}
use Rattle.std.proofs.lemmas.Bool.{eq-eqb, ne_eqb}
use Rattle.sheet.proofs.Reading.{reads_on, reads-last, goes_with, ends_with}
use Rattle.sheet.proofs.Feeder.hand_on.Given.{Over}
use Rattle.sheet.proofs.Feeder.hand_on.Goals as goal
use Rattle.sheet.proofs.Feeder.hand_on.Goals.{then-n-eq0-via-then-n-eq0, then-n-eq0-via-else-n-eq0+then-left}

is_over : (g : Over) (c : goal.Joined-then-n-eq0 g) → eqb c.args.n 0 || c.give-left.result.ended ≡ true
is_over g c = elim c.then-n-eq0.branch [ then-n-eq0-via-then-n-eq0 w ↦ rw (eq-eqb _ _ w.if-n-eq0.true) refl | then-n-eq0-via-else-n-eq0+then-left w ↦ rw w.if-left.true (or-true _) ]

pub returns-then-n-eq0-clause-goes_on : goal.returns-then-n-eq0-clause-goes_on
returns-then-n-eq0-clause-goes_on g c = λ parts was.
    reads-last parts c.args.self.now.book c.args.self.now.part c.args.self.now.held c.args.self.now.read c.args.n was (eqb c.args.n 0) c.give-left.ensures.holds (is_over g c)

pub returns-then-n-eq0-clause-hands_on : goal.returns-then-n-eq0-clause-hands_on
returns-then-n-eq0-clause-hands_on g c = λ parts was.
    ends_with parts c.args.self.now.book c.args.self.now.part c.args.self.now.held c.args.self.now.read c.args.n was (eqb c.args.n 0) c.give-left.ensures.holds (is_over g c) c.in_ok-write.ensures

pub returns-clause-goes_on : goal.returns-clause-goes_on
returns-clause-goes_on g c = λ parts was.
    reads_on parts c.args.self.now.book c.args.self.now.part c.args.self.now.held c.args.self.now.read c.args.n was (omega arith) c.give-left.ensures.holds (ne_eqb _ _ c.if-n-eq0.false) c.if-left.false c.give-left.ensures.held_is_short (rw c.give-left.ensures.read at c.saturating_add-self.ensures)

pub returns-clause-hands_on : goal.returns-clause-hands_on
returns-clause-hands_on g c = λ parts was.
    goes_with parts c.args.self.now.book c.args.self.now.part c.args.self.now.held c.args.self.now.read c.args.n was (omega arith) c.give-left.ensures.holds (ne_eqb _ _ c.if-n-eq0.false) c.if-left.false c.give-left.ensures.held_is_short (rw c.give-left.ensures.read at c.saturating_add-self.ensures) c.in_ok-write.ensures
