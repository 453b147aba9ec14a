use Rattle.core_decide.proofs.Chains.{Added}
use Rattle.core_decide.proofs.decide.add_prices.Given as goal

abbrev pub invariant-loop-i : goal.invariant-loop-i
invariant-loop-i l = Added l.prices l.len l.i l.high l.low
