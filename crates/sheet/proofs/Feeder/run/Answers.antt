use mathlib.Core.Path.{◌≡◌}
use mathlib.Core.Bool.{true, false}
use native.Mathlib.Omega.{arith}
use Rattle.std.specs.Prelude.{Ok}
use Rattle.sheet.proofs.Reading.{turns_as, started_on, all_written, all_booked}
use Rattle.sheet.proofs.Feeder.run.Goals as goal

pub turn-requires : goal.turn-requires
turn-requires g c = c.loop.invariant.reading.short

pub returns-then-branch-clause-written : goal.returns-then-branch-clause-written
returns-then-branch-clause-written g c = all_written _ _ _ _ _ _ c.loop.invariant (turns_as (let e : c.turn.result ≡ Ok true = grind arith in e) c.turn.ensures.turns)

pub returns-then-branch-clause-booked : goal.returns-then-branch-clause-booked
returns-then-branch-clause-booked g c = all_booked _ _ _ _ _ _ c.loop.invariant (turns_as (let e : c.turn.result ≡ Ok true = grind arith in e) c.turn.ensures.turns)

pub loop-preserved : goal.loop-preserved
loop-preserved g c = started_on _ _ _ _ _ _ c.loop.invariant (turns_as (let e : c.turn.result ≡ Ok false = grind arith in e) c.turn.ensures.turns)
