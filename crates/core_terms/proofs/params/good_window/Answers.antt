use Prim.Native.Nat.{◌/◌, ◌%◌}
use native.Mathlib.Omega.{arith}
use borrow.Author.Tests.{lt-ltb, le-ltb, le-leb, lt-leb, eq-eqb, ne_eqb}
use Rattle.core_terms.specs.Params.{terms_of}
use Rattle.rules.proofs.Bools.{and_true}
use Rattle.core_terms.proofs.params.good_window.Goals as goal

pub returns-then-slot-eq0 : goal.returns-then-slot-eq0
unfolding terms_of
returns-then-slot-eq0 c =
    let p = c.args.p in
    simp (le-ltb 0 p.slot_s (omega (arith, c.if-slot-eq0.true)))

pub returns-then-window-slot-ne0 : goal.returns-then-window-slot-ne0
unfolding terms_of
returns-then-window-slot-ne0 c =
    let p = c.args.p in
    simp (lt-ltb 0 p.slot_s (omega (arith, c.if-slot-eq0.false)), ne_eqb (p.window_s % p.slot_s) 0 c.if-window-slot-ne0.true)

pub returns-then-slots-lt1 : goal.returns-then-slots-lt1
unfolding terms_of
returns-then-slots-lt1 c =
    let p = c.args.p in
    simp (lt-ltb 0 p.slot_s (omega (arith, c.if-slot-eq0.false)), eq-eqb (p.window_s % p.slot_s) 0 (omega (arith, c.if-window-slot-ne0.false)), lt-leb 1 (p.window_s / p.slot_s) c.if-slots-lt1.true)

pub returns-then-slots-gt-MAX_SLOTS : goal.returns-then-slots-gt-MAX_SLOTS
unfolding terms_of
returns-then-slots-gt-MAX_SLOTS c =
    let p = c.args.p in
    simp (lt-ltb 0 p.slot_s (omega (arith, c.if-slot-eq0.false)), eq-eqb (p.window_s % p.slot_s) 0 (omega (arith, c.if-window-slot-ne0.false)), le-leb 1 (p.window_s / p.slot_s) c.if-slots-lt1.false, lt-leb (p.window_s / p.slot_s) 32 c.if-slots-gt-MAX_SLOTS.true)

pub returns : goal.returns
unfolding terms_of
returns c =
    let p = c.args.p in
    simp (lt-ltb 0 p.slot_s (omega (arith, c.if-slot-eq0.false)), eq-eqb (p.window_s % p.slot_s) 0 (omega (arith, c.if-window-slot-ne0.false)), le-leb 1 (p.window_s / p.slot_s) c.if-slots-lt1.false, le-leb (p.window_s / p.slot_s) 32 c.if-slots-gt-MAX_SLOTS.false, and_true)
