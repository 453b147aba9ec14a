use Rattle.std.specs.Prelude.{Option, Some}
use Prim.Native.Nat.{ℕ, ◌<◌, ◌^◌}
use mathlib.Core.Path.{◌≡◌}
use mathlib.Core.Bool.{true, false, not}
use native.Mathlib.Omega.{arith}
use borrow.Author.Tests.{ltb-true, not-true}
use lib.Dec.{ltb}
use lib.IntN.{ℤ}
use mir.Syntax.{w64}
use mir.Val.{SFits}
use mir.Facts.{to_z-of_z}
use Rattle.rules.specs.Taking.{bit}
use Rattle.rules.specs.State.{Parts}
use Rattle.rules.proofs.Bools.{both}
use Rattle.core_parts.specs.States.{stored_of}
use Rattle.core_take.specs.Placing.{fillable, with_slot}
use Rattle.rules.proofs.Bits.{put-fits}
use Rattle.core_take.proofs.Bits.{mask_is}
use borrow.Author.Rules.{rules}
use Rattle.core_take.proofs.take.with_slot.Goals as goal

-- the slot of a fillable index
slot_is : (bits i : ℕ) (x : Option ℕ) → x ≡ Some i → fillable bits x ≡ true → (i < 32) × (bit i bits ≡ false)
unfolding fillable
slot_is bits i x e f =
    let (a, b) = both (ltb i 32) (not (bit i bits)) (rw e at f) in
    (ltb-true i 32 a, not-true (bit i bits) b)

-- the parts by another form of the sum
same_sum : (i n sum : ℕ) (now : ℤ) (s : Parts) → n ≡ sum → with_slot (Some i) n now s ≡ with_slot (Some i) sum now s
same_sum i n sum now s e = rw e

pub overflow_shl-result : goal.overflow_shl-result
overflow_shl-result c = (slot_is c.args.s.filled_slots c.in-Some.i _ c.in-Some.is c.requires).0

pub overflow_add-result : goal.overflow_add-result
overflow_add-result c =
    let bits = c.args.s.filled_slots in
    let small : bits < 2 ^ 32 = search rules in
    let (l, b) = slot_is bits c.in-Some.i _ c.in-Some.is c.requires in
    rw (mask_is c.in-Some.i l) (record { fits = put-fits bits c.in-Some.i 32 b l small })

pub returns : goal.returns
unfolding stored_of
returns c =
    let f-now = c.ranges.now in
    let e = mask_is c.in-Some.i (slot_is c.args.s.filled_slots c.in-Some.i _ c.in-Some.is c.requires).0 in
    let f1 : SFits w64 c.args.s.fallback_time = search rules in
    let f2 : SFits w64 c.args.s.next_print_changed = search rules in
    let f3 : SFits w64 c.args.s.fallback_changed = search rules in
    rw c.in-Some.is (simp (to_z-of_z, e) (same_sum c.in-Some.i _ c.args.sum c.args.now (stored_of c.args.s) (omega arith)))
