use mathlib.Core.Path.{sym}
use native.Mathlib.Nat.{div-zero}
use borrow.Author.Rules.{rules}
use Rattle.core_terms.specs.Params.{terms_of}
use Rattle.core_terms.proofs.params.OracleParams.slots.Goals as goal

pub returns-then-slot-eq0 : goal.returns-then-slot-eq0
unfolding terms_of
returns-then-slot-eq0 c = sym (rw c.if-slot-eq0.true (div-zero c.args.self.window_s))

pub returns : goal.returns
unfolding terms_of
returns c = search rules
