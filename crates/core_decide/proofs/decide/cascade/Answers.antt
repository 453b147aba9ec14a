use Rattle.std.specs.Prelude.{Some}
use Prim.Native.Nat.{◌<◌, ◌^◌}
use mathlib.Core.Path.{◌≡◌, sym}
use mathlib.Core.Bool.{true, false}
use native.Mathlib.Omega.{arith}
use lib.Count as count
use lib.IntN.{pos, ◌+ℤ◌}
use lib.Signed.{lt_z}
use mir.Syntax.{w8, w64}
use mir.Val.{SFits}
use mir.Facts.{to_z-of_z}
use borrow.Author.Rules.{rules}
use Rattle.rules.specs.Log.{size}
use Rattle.rules.specs.Bytes.{fits}
use Rattle.rules.specs.Decision.{ones}
use Rattle.rules.specs.State.{candidates_of}
use Rattle.rules.proofs.Logs.{size-front}
use Rattle.numbers.specs.Times.{time_of}
use Rattle.numbers.proofs.Times.{at_is, at_fits}
use Rattle.core_terms.specs.Params.{terms_of}
use Rattle.core_parts.specs.States.{stored_of}
use Rattle.core_decide.specs.Decisions.{order_of}
use Rattle.core_decide.proofs.Counts.{ones-same}
use Rattle.core_decide.proofs.Steps.{test, sum_is, sum_over, expiry-ahead, no_deadline, full, window, next_print, partials}
use Rattle.core_decide.proofs.decide.cascade.Goals as goal

pub returns-then-now-expiry : goal.returns-then-now-expiry
returns-then-now-expiry c =
    let a = c.args in
    rw (to_z-of_z c.ranges.expiry) (expiry-ahead ((terms_of c.args.p)) a.expiry ((candidates_of (stored_of c.args.s))) a.now (order_of a.order) (test true a.now a.expiry c.ranges.now c.ranges.expiry c.if-now-expiry.true))

pub returns-in_default : goal.returns-in_default
unfolding terms_of
returns-in_default c =
    let i1 = c.before.before in
    let s = i1.before in
    let a = s.args in
    no_deadline ((terms_of s.args.p)) a.expiry ((candidates_of (stored_of s.args.s))) a.now (order_of a.order) ((let h : lt_z i1.args.now i1.args.expiry ≡ false = let s = i1.before in test false s.args.now s.args.expiry s.ranges.now s.ranges.expiry i1.if-now-expiry.false in h))
    (sum_over a.expiry a.p.hard_deadline_s s.ranges.expiry c.after.result c.after.ensures c.in_default.is)

pub returns-then-slots-n : goal.returns-then-slots-n
unfolding terms_of stored_of candidates_of
returns-then-slots-n c =
    let i2 = c.before in
    let b = i2.before in
    let h = b.before in
    let i1 = h.before.before in
    let s = i1.before in
    let a = s.args in
    full ((terms_of s.args.p)) a.expiry ((candidates_of (stored_of s.args.s))) a.now (order_of a.order) ((let h : lt_z i1.args.now i1.args.expiry ≡ false = let s = i1.before in test false s.args.now s.args.expiry s.ranges.now s.ranges.expiry i1.if-now-expiry.false in h)) (let h : (fits ((h.args.expiry +ℤ pos h.args.p.hard_deadline_s)) ≡ true) × (h.in-Some.hard ≡ (h.args.expiry +ℤ pos h.args.p.hard_deadline_s)) = at_is h.in-Some.hard ((h.args.expiry +ℤ pos h.args.p.hard_deadline_s)) ((let h : Some h.in-Some.hard ≡ time_of ((h.args.expiry +ℤ pos h.args.p.hard_deadline_s)) = let s = h.before.before.before in sum_is s.args.expiry s.args.p.hard_deadline_s s.ranges.expiry h.after.result h.after.ensures h.in-Some.hard h.in-Some.is in h)) in h).0 ((count.ones s.args.s.filled_slots)) ((let h : (count.ones b.args.s.filled_slots) ≡ ones b.args.s.filled_slots = ones-same _ (let x : b.args.s.filled_slots < 2 ^ 32 = search rules in x) in h)) i2.slots.result i2.slots.ensures
    (let x : SFits w8 c.args.p.expo = search rules in x) i2.if-slots-n.true c.settle.ensures

pub returns-then-p-n : goal.returns-then-p-n
unfolding terms_of stored_of candidates_of
returns-then-p-n c =
    let l = c.before in
    let i3 = l.before in
    let i2 = i3.before in
    let b = i2.before in
    let h = b.before in
    let i1 = h.before.before in
    let s = i1.before in
    let a = s.args in
    window ((terms_of s.args.p)) a.expiry ((candidates_of (stored_of s.args.s))) a.now (order_of a.order) ((let h : lt_z i1.args.now i1.args.expiry ≡ false = let s = i1.before in test false s.args.now s.args.expiry s.ranges.now s.ranges.expiry i1.if-now-expiry.false in h)) (let h : (fits ((h.args.expiry +ℤ pos h.args.p.hard_deadline_s)) ≡ true) × (h.in-Some.hard ≡ (h.args.expiry +ℤ pos h.args.p.hard_deadline_s)) = at_is h.in-Some.hard ((h.args.expiry +ℤ pos h.args.p.hard_deadline_s)) ((let h : Some h.in-Some.hard ≡ time_of ((h.args.expiry +ℤ pos h.args.p.hard_deadline_s)) = let s = h.before.before.before in sum_is s.args.expiry s.args.p.hard_deadline_s s.ranges.expiry h.after.result h.after.ensures h.in-Some.hard h.in-Some.is in h)) in h).0 ((count.ones s.args.s.filled_slots)) ((let h : (count.ones b.args.s.filled_slots) ≡ ones b.args.s.filled_slots = ones-same _ (let x : b.args.s.filled_slots < 2 ^ 32 = search rules in x) in h)) i2.slots.result i2.slots.ensures
    i2.if-slots-n.false s.ranges.expiry s.ranges.now
    l.later-t.result (let x : SFits w64 l.args.s.window_changed = search rules in x) l.later-t.ensures (omega (arith, i3.if-p-n.true)) c.settle_from.ensures

pub returns-then-p-s : goal.returns-then-p-s
unfolding terms_of stored_of candidates_of
returns-then-p-s c =
    let i4 = c.before in
    let i3 = i4.before in
    let i2 = i3.before in
    let b = i2.before in
    let h = b.before in
    let i1 = h.before.before in
    let s = i1.before in
    let a = s.args in
    next_print ((terms_of s.args.p)) a.expiry ((candidates_of (stored_of s.args.s))) a.now (order_of a.order) ((let h : lt_z i1.args.now i1.args.expiry ≡ false = let s = i1.before in test false s.args.now s.args.expiry s.ranges.now s.ranges.expiry i1.if-now-expiry.false in h)) (let h : (fits ((h.args.expiry +ℤ pos h.args.p.hard_deadline_s)) ≡ true) × (h.in-Some.hard ≡ (h.args.expiry +ℤ pos h.args.p.hard_deadline_s)) = at_is h.in-Some.hard ((h.args.expiry +ℤ pos h.args.p.hard_deadline_s)) ((let h : Some h.in-Some.hard ≡ time_of ((h.args.expiry +ℤ pos h.args.p.hard_deadline_s)) = let s = h.before.before.before in sum_is s.args.expiry s.args.p.hard_deadline_s s.ranges.expiry h.after.result h.after.ensures h.in-Some.hard h.in-Some.is in h)) in h).0 ((count.ones s.args.s.filled_slots)) ((let h : (count.ones b.args.s.filled_slots) ≡ ones b.args.s.filled_slots = ones-same _ (let x : b.args.s.filled_slots < 2 ^ 32 = search rules in x) in h)) i2.slots.result i2.slots.ensures
    i2.if-slots-n.false s.ranges.expiry s.ranges.now i3.if-p-n.false a.s.next_len ((let h : s.args.s.next_len ≡ size (candidates_of (stored_of s.args.s)).times = sym (size-front (pos 0) s.args.s.next_len s.args.s.next_times) in h)) i4.if-p-s.true c.chain_from.ensures

pub returns : goal.returns
unfolding terms_of stored_of candidates_of
returns c =
    let i4 = c.before in
    let i3 = i4.before in
    let i2 = i3.before in
    let b = i2.before in
    let h = b.before in
    let i1 = h.before.before in
    let s = i1.before in
    let a = s.args in
    let fh = at_fits h.in-Some.hard ((s.args.expiry +ℤ pos s.args.p.hard_deadline_s)) ((let h : Some h.in-Some.hard ≡ time_of ((h.args.expiry +ℤ pos h.args.p.hard_deadline_s)) = let s = h.before.before.before in let call = h.before in sum_is s.args.expiry s.args.p.hard_deadline_s s.ranges.expiry call.after.result call.after.ensures h.in-Some.hard h.in-Some.is in h)) in
    partials ((terms_of s.args.p)) a.expiry ((candidates_of (stored_of s.args.s))) a.now (order_of a.order) ((let h : lt_z i1.args.now i1.args.expiry ≡ false = let s = i1.before in test false s.args.now s.args.expiry s.ranges.now s.ranges.expiry i1.if-now-expiry.false in h)) (let h : (fits ((h.args.expiry +ℤ pos h.args.p.hard_deadline_s)) ≡ true) × (h.in-Some.hard ≡ (h.args.expiry +ℤ pos h.args.p.hard_deadline_s)) = at_is h.in-Some.hard ((h.args.expiry +ℤ pos h.args.p.hard_deadline_s)) ((let h : Some h.in-Some.hard ≡ time_of ((h.args.expiry +ℤ pos h.args.p.hard_deadline_s)) = let s = h.before.before.before in let call = h.before in sum_is s.args.expiry s.args.p.hard_deadline_s s.ranges.expiry call.after.result call.after.ensures h.in-Some.hard h.in-Some.is in h)) in h).0 ((count.ones s.args.s.filled_slots)) ((let h : (count.ones b.args.s.filled_slots) ≡ ones b.args.s.filled_slots = ones-same _ (let x : b.args.s.filled_slots < 2 ^ 32 = search rules in x) in h)) i2.slots.result i2.slots.ensures
    i2.if-slots-n.false s.ranges.expiry s.ranges.now i3.if-p-n.false a.s.next_len ((let h : s.args.s.next_len ≡ size (candidates_of (stored_of s.args.s)).times = sym (size-front (pos 0) s.args.s.next_len s.args.s.next_times) in h)) i4.if-p-s.false
    (c.partial.ensures a.expiry (rw to_z-of_z (let h : (fits ((h.args.expiry +ℤ pos h.args.p.hard_deadline_s)) ≡ true) × (h.in-Some.hard ≡ (h.args.expiry +ℤ pos h.args.p.hard_deadline_s)) = at_is h.in-Some.hard ((h.args.expiry +ℤ pos h.args.p.hard_deadline_s)) ((let h : Some h.in-Some.hard ≡ time_of ((h.args.expiry +ℤ pos h.args.p.hard_deadline_s)) = let s = h.before.before.before in let call = h.before in sum_is s.args.expiry s.args.p.hard_deadline_s s.ranges.expiry call.after.result call.after.ensures h.in-Some.hard h.in-Some.is in h)) in h).1) ((let h : (count.ones b.args.s.filled_slots) ≡ ones b.args.s.filled_slots = ones-same _ (let x : b.args.s.filled_slots < 2 ^ 32 = search rules in x) in h)))
