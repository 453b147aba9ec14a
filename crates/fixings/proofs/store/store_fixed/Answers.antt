use native.Mathlib.Omega.{arith}
use Rattle.core_decide.specs.Decisions.{answer_of}
use Rattle.book.proofs.Looks.{allowed-book}
use Rattle.fixings.proofs.Stored.{fixed_over}
use Rattle.fixings.proofs.store.store_fixed.Goals as goal

pub slice_bounds-write_fixed-end : goal.slice_bounds-write_fixed-end
slice_bounds-write_fixed-end c = let a = c.args in omega (arith, allowed-book a.book.now a.series c.requires)

pub returns : goal.returns
returns c =
    let a = c.args in
    fixed_over a.book.now a.series c.requires (answer_of a.outcome) a.fixing_time c.ranges.fixing_time c.look.ensures c.read_contents.ensures c.write_fixed.ensures
