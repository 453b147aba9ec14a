use mathlib.Core.Path.{◌≡◌, sym, ◌∙◌}
use mathlib.Core.Bool.{true, false}
use native.Mathlib.Omega.{arith}
use lib.IntN.{pos}
use lib.Signed.{lt_z}
use mir.Syntax.{w64}
use mir.Val.{SFits}
use mir.Facts.{to_z-of_z}
use borrow.Author.Rules.{rules}
use Rattle.rules.specs.Log.{size}
use Rattle.rules.specs.State.{candidates_of}
use Rattle.rules.proofs.Logs.{size-front}
use Rattle.core_terms.specs.Params.{terms_of}
use Rattle.core_parts.specs.States.{stored_of}
use Rattle.core_decide.specs.Decisions.{order_of, chain_first}
use Rattle.core_decide.proofs.Steps.{test, deadline_ahead, partial_print, partial_window_lem, fallback, void}
use Rattle.core_decide.proofs.decide.partial.Goals as goal

pub returns-then-now-hard : goal.returns-then-now-hard
unfolding terms_of
returns-then-now-hard c E deadline count =
    let a = c.args in
    rw (to_z-of_z c.ranges.hard) (deadline_ahead ((terms_of c.args.p)) E ((candidates_of (stored_of c.args.s))) a.now a.hard (order_of a.order) deadline (test true a.now a.hard c.ranges.now c.ranges.hard c.if-now-hard.true))

pub returns-then-chain_first : goal.returns-then-chain_first
unfolding terms_of stored_of candidates_of
returns-then-chain_first c E deadline count =
    let l = c.before in
    let i2 = l.before in
    let i1 = i2.before.before in
    let s = i1.before in
    let a = s.args in
    partial_print ((terms_of s.args.p)) E ((candidates_of (stored_of s.args.s))) a.now a.hard (order_of a.order) deadline ((let h : lt_z i1.args.now i1.args.hard ≡ false = let s = i1.before in test false s.args.now s.args.hard s.ranges.now s.ranges.hard i1.if-now-hard.false in h)) s.ranges.hard s.ranges.now a.s.next_len ((let h : s.args.s.next_len ≡ size (candidates_of (stored_of s.args.s)).times = sym (size-front (pos 0) s.args.s.next_len s.args.s.next_times) in h)) a.n count
    l.later-t.result (let x : SFits w64 l.args.s.next_print_changed = search rules in x) l.later-t.ensures (sym i2.chain_first.ensures ∙ i2.if-chain_first.true) c.chain_from.ensures

pub returns-then-n-gt0 : goal.returns-then-n-gt0
unfolding terms_of stored_of candidates_of
returns-then-n-gt0 c E deadline count =
    let l = c.before in
    let i3 = l.before in
    let i2 = i3.before in
    let i1 = i2.before.before in
    let s = i1.before in
    let a = s.args in
    partial_window_lem ((terms_of s.args.p)) E ((candidates_of (stored_of s.args.s))) a.now a.hard (order_of a.order) deadline ((let h : lt_z i1.args.now i1.args.hard ≡ false = let s = i1.before in test false s.args.now s.args.hard s.ranges.now s.ranges.hard i1.if-now-hard.false in h)) s.ranges.hard s.ranges.now a.s.next_len ((let h : s.args.s.next_len ≡ size (candidates_of (stored_of s.args.s)).times = sym (size-front (pos 0) s.args.s.next_len s.args.s.next_times) in h)) a.n count ((let h : chain_first (order_of i2.args.order) i2.args.n i2.args.s.next_len ≡ false = sym i2.chain_first.ensures ∙ i2.if-chain_first.false in h))
    l.later-t-then-n-gt0.result (let x : SFits w64 l.args.s.window_changed = search rules in x) l.later-t-then-n-gt0.ensures (omega (arith, i3.if-n-gt0.true)) c.settle_from.ensures

pub returns-then-s-gt0 : goal.returns-then-s-gt0
unfolding terms_of stored_of candidates_of
returns-then-s-gt0 c E deadline count =
    let l = c.before in
    let i4 = l.before in
    let i3 = i4.before in
    let i2 = i3.before in
    let i1 = i2.before.before in
    let s = i1.before in
    let a = s.args in
    fallback ((terms_of s.args.p)) E ((candidates_of (stored_of s.args.s))) a.now a.hard (order_of a.order) deadline ((let h : lt_z i1.args.now i1.args.hard ≡ false = let s = i1.before in test false s.args.now s.args.hard s.ranges.now s.ranges.hard i1.if-now-hard.false in h)) s.ranges.hard s.ranges.now a.s.next_len ((let h : s.args.s.next_len ≡ size (candidates_of (stored_of s.args.s)).times = sym (size-front (pos 0) s.args.s.next_len s.args.s.next_times) in h)) a.n count ((let h : chain_first (order_of i2.args.order) i2.args.n i2.args.s.next_len ≡ false = sym i2.chain_first.ensures ∙ i2.if-chain_first.false in h)) i3.if-n-gt0.false
    l.later-t-then-s-gt0.result (let x : SFits w64 l.args.s.fallback_changed = search rules in x) l.later-t-then-s-gt0.ensures i4.if-s-gt0.true c.settle_from-then-s-gt0.ensures

pub returns : goal.returns
unfolding terms_of stored_of candidates_of
returns c E deadline count =
    let i4 = c.before in
    let i3 = i4.before in
    let i2 = i3.before in
    let i1 = i2.before.before in
    let s = i1.before in
    let a = s.args in
    void ((terms_of s.args.p)) E ((candidates_of (stored_of s.args.s))) a.now a.hard (order_of a.order) deadline ((let h : lt_z i1.args.now i1.args.hard ≡ false = let s = i1.before in test false s.args.now s.args.hard s.ranges.now s.ranges.hard i1.if-now-hard.false in h)) s.ranges.hard s.ranges.now a.s.next_len ((let h : s.args.s.next_len ≡ size (candidates_of (stored_of s.args.s)).times = sym (size-front (pos 0) s.args.s.next_len s.args.s.next_times) in h)) a.n count ((let h : chain_first (order_of i2.args.order) i2.args.n i2.args.s.next_len ≡ false = sym i2.chain_first.ensures ∙ i2.if-chain_first.false in h)) i3.if-n-gt0.false
    i4.if-s-gt0.false c.void_from.ensures
