use mathlib.Core.Path.{sym}
use mir.Facts.{to_z-of_z}
use Rattle.core_prices.specs.Prints.{print_of}
use Rattle.entries.proofs.lanternfold_accept_print.Goals as goal

pub returns : goal.returns
unfolding print_of
returns c =
    let fp = c.ranges.price in
    let fx = c.ranges.exponent in
    let fe = c.ranges.expo in
    let ft = c.ranges.publish_time in
    let fv = c.ranges.prev_publish_time in
    let q = simp to_z-of_z at (sym c.in-Ok.ensures) in
    (rw q, rw q c.price.ensures)
