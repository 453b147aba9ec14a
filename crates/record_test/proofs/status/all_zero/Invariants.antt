-- The loop's invariant: what was seen is zero and the rest is all zero, exactly when the whole is.
use Prim.Native.Nat.{◌*◌}
use mathlib.Core.Path.{◌≡◌}
use mathlib.Core.Bool.{◌&&◌}
use lib.ListN.{drop}
use lib.Dec.{eqb}
use Rattle.rules.specs.Bytes.{all_zero}
use Rattle.record_test.proofs.status.all_zero.Given as goal

abbrev pub invariant-loop-i : goal.invariant-loop-i
invariant-loop-i l = eqb l.seen 0 && all_zero (drop (8 * l.i) l.bytes) ≡ all_zero l.bytes
