-- Twenty bytes are room for any number.
use mathlib.Core.Path.{ap}
use native.Mathlib.Omega.{arith}
use lib.ListN.{length, length-drop, length-append}
use Rattle.lines.proofs.Decimals.{digits_most}
use Rattle.lines.proofs.text.Text.digits.Goals as goal

pub write_digits-self-inside-requires : goal.write_digits-self-inside-requires
write_digits-self-inside-requires c = let e = simp length-drop at (ap length c.self.view_is) in (omega (arith, digits_most), omega arith)

pub returns-clause-upper_bound : goal.returns-clause-upper_bound
returns-clause-upper_bound c =
    let e = simp length-drop at (ap length c.self.view_is) in
    let d = simp length-append at (ap length c.write_digits-self-inside.ensures.written) in
    omega (arith, digits_most, length-drop c.self.inside.start c.self.inside.bytes)
