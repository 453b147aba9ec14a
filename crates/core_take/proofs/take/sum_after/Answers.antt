use Prim.Native.Nat.{◌+◌, ◌^◌}
use Rattle.core_parts.specs.States.{stored_of}
use Rattle.core_take.specs.Placing.{total_after}
use Rattle.core_take.proofs.Placing.{sum_if}
use Rattle.core_take.proofs.take.sum_after.Goals as goal

pub returns-in-Some : goal.returns-in-Some
unfolding total_after stored_of
returns-in-Some c = rw c.in-Some.is (sum_if (c.args.s.sample_sum + c.args.price) (2 ^ 128) c.checked_add.result c.checked_add.ensures)

pub returns-in-None : goal.returns-in-None
unfolding total_after stored_of
returns-in-None c = rw c.in-None.is
