use native.Mathlib.Omega.{arith}
use mir.Facts.{to_z-of_z}
use Rattle.core_parts.specs.States.{stored_of}
use Rattle.book.proofs.Looks.{allowed-book}
use Rattle.withdrawals.proofs.Withdraws.{can_take, freed_put}
use Rattle.withdrawals.proofs.store.store_freed.Goals as goal

pub freed-next-requires : goal.freed-next-requires
unfolding stored_of
freed-next-requires c = can_take c.args.book.now c.args.series c.args.slot c.requires.can_free c.look-record.ensures c.requires.contents c.read-price.ensures

pub slice_bounds-write_open-end : goal.slice_bounds-write_open-end
slice_bounds-write_open-end c = omega (arith, allowed-book c.args.book.now c.args.series c.requires.can_free.allowed)

pub returns : goal.returns
returns c =
    let f = c.ranges.now in
    freed_put c.args.book.now c.args.series c.args.slot c.requires.can_free c.look-record.ensures c.requires.contents c.read-price.ensures c.args.now (simp to_z-of_z at c.freed-next.ensures) c.write_open.ensures
