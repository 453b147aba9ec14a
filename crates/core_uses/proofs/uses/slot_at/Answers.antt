use Prim.Native.Nat.{◌/◌, ◌%◌}
use mathlib.Core.Path.{sym, ◌∙◌}
use native.Mathlib.Omega.{arith}
use borrow.Author.Tests.{lt-ltb, le-ltb, le-leb, lt-leb}
use Rattle.core_uses.specs.Uses.{slot_at}
use Rattle.core_uses.proofs.uses.slot_at.Goals as goal

pub returns-then-slot-eq0 : goal.returns-then-slot-eq0
unfolding slot_at
returns-then-slot-eq0 c =
    let a = c.args in
    simp (le-ltb 0 a.slot (omega (arith, c.if-slot-eq0.true)))

pub returns-then-index-ge32 : goal.returns-then-index-ge32
unfolding slot_at
returns-then-index-ge32 c =
    let a = c.args in
    simp (lt-ltb 0 a.slot (omega (arith, c.if-slot-eq0.false)), le-ltb (a.offset / a.slot) 32 c.if-index-ge32.true)

pub returns-then-tolerance-late : goal.returns-then-tolerance-late
unfolding slot_at
returns-then-tolerance-late c =
    let a = c.args in
    simp (
      lt-ltb 0 a.slot (omega (arith, c.if-slot-eq0.false)),
      lt-ltb (a.offset / a.slot) 32 c.if-index-ge32.false,
      lt-leb (a.offset % a.slot) a.tolerance c.if-tolerance-late.true,
    )

pub returns-then-back-late : goal.returns-then-back-late
unfolding slot_at
returns-then-back-late c =
    let a = c.args in
    simp (
      lt-ltb 0 a.slot (omega (arith, c.if-slot-eq0.false)),
      lt-ltb (a.offset / a.slot) 32 c.if-index-ge32.false,
      le-leb (a.offset % a.slot) a.tolerance c.if-tolerance-late.false,
      le-ltb (a.offset % a.slot) a.back c.if-back-late.true,
    )

pub returns-then-is_filled : goal.returns-then-is_filled
unfolding slot_at
returns-then-is_filled c =
    let a = c.args in
    let e = sym c.is_filled.ensures ∙ c.if-is_filled.true in
    simp (
      lt-ltb 0 a.slot (omega (arith, c.if-slot-eq0.false)),
      lt-ltb (a.offset / a.slot) 32 c.if-index-ge32.false,
      le-leb (a.offset % a.slot) a.tolerance c.if-tolerance-late.false,
      lt-ltb (a.offset % a.slot) a.back c.if-back-late.false,
      e,
    )

pub returns : goal.returns
unfolding slot_at
returns c =
    let a = c.args in
    let e = sym c.is_filled.ensures ∙ c.if-is_filled.false in
    simp (
      lt-ltb 0 a.slot (omega (arith, c.if-slot-eq0.false)),
      lt-ltb (a.offset / a.slot) 32 c.if-index-ge32.false,
      le-leb (a.offset % a.slot) a.tolerance c.if-tolerance-late.false,
      lt-ltb (a.offset % a.slot) a.back c.if-back-late.false,
      e,
    )
