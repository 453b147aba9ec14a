use Prim.Native.Nat.{◌<◌}
use mathlib.Core.Path.{◌≡◌}
use native.Mathlib.Omega.{arith}
use lib.ListN.{length, drop, length-drop}
use borrow.Author.Rules.{rules}
use Rattle.std.specs.Prelude.{Ok}
use Rattle.sheet.proofs.Reading.{turned}
use Rattle.sheet.proofs.Feeder.turn.Goals as goal

pub hand_on-requires : goal.hand_on-requires
hand_on-requires g c =
    let e : c.read_behind.result ≡ Ok c.in_ok-n.n = search rules in
    let b = rw e at c.read_behind.ensures.bound in
    omega (arith, b.0, c.read_behind.auto.part, length-drop c.args.self.now.held c.read_behind.new.part)

pub returns-clause-turns : goal.returns-clause-turns
returns-clause-turns g c =
    let e : c.read_behind.result ≡ Ok c.in_ok-n.n = search rules in
    let b = rw e at c.read_behind.ensures.bytes in
    let some : 0 < length (drop c.args.self.now.held c.read_behind.new.part) = omega (arith, c.read_behind.auto.part, length-drop c.args.self.now.held c.read_behind.new.part) in
    turned c.args.self.now c.read_behind.new.part c.read_behind.ensures.kept c.hand_on.result c.in_ok-n.n c.hand_on.new.self _ _ _ _ b.0 b.1 some c.hand_on.ensures.hands_on
