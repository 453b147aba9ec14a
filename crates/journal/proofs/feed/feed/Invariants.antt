use Prim.Native.Nat.{◌-◌}
use mathlib.Core.Path.{◌≡◌}
use lib.ListN.{length}
use Rattle.journal.specs.Feed.{given}
use Rattle.journal.proofs.Given.{Going}
use Rattle.journal.proofs.feed.feed.Given as goal

abbrev pub invariant-loop-fed : goal.invariant-loop-fed
invariant-loop-fed l =
    Going l.last l.part (given (length l.initial.out) l.initial.book l.last l.part) l.initial.book l.initial.out l.book l.out l.fed × (length l.book ≡ length l.initial.book) × (length l.out ≡ length l.initial.out)

abbrev pub decreases-loop-fed : goal.decreases-loop-fed
decreases-loop-fed l = length l.part - l.fed.taken
