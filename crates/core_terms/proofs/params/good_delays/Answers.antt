use borrow.Author.Rules.{rules}
use mathlib.Core.Path.{sym}
use native.Mathlib.Omega.{arith}
use borrow.Author.Tests.{lt-ltb, le-ltb}
use lib.Signed.{le_z}
use lib.IntN.{pos, negsuc}
use mir.Syntax.{w8}
use mir.Val.{SFits}
use mir.Facts.{to_z-of_z}
use Rattle.core_terms.specs.Params.{terms_of}
use Rattle.rules.proofs.Bools.{and_true}
use Rattle.rules.proofs.Integers.{lt_true, lt_false}
use Rattle.core_terms.proofs.params.good_delays.Goals as goal

pub returns-then-p-eq0 : goal.returns-then-p-eq0
unfolding terms_of
returns-then-p-eq0 c =
    let p = c.args.p in
    simp (le-ltb 0 p.challenge_delay_s (omega (arith, c.if-p-eq0.true)))

pub returns-then-p-eq0-2 : goal.returns-then-p-eq0-2
unfolding terms_of
returns-then-p-eq0-2 c =
    let p = c.args.p in
    simp (lt-ltb 0 p.challenge_delay_s (omega (arith, c.if-p-eq0.false)), le-ltb 0 p.fallback_lookback_s (omega (arith, c.if-p-eq0-2.true)))

pub returns-then-p : goal.returns-then-p
unfolding terms_of
returns-then-p c =
    let p = c.args.p in
    simp (lt-ltb 0 p.challenge_delay_s (omega (arith, c.if-p-eq0.false)), lt-ltb 0 p.fallback_lookback_s (omega (arith, c.if-p-eq0-2.false)), le-ltb p.window_s p.hard_deadline_s c.if-p.true)

pub returns-then-e-lt-MIN_EXPO : goal.returns-then-e-lt-MIN_EXPO
unfolding terms_of
returns-then-e-lt-MIN_EXPO c =
    let p = c.args.p in
    let fe : SFits w8 p.expo = search rules in
    let g4 = simp to_z-of_z at c.if-e-lt-MIN_EXPO.true in
    simp (lt-ltb 0 p.challenge_delay_s (omega (arith, c.if-p-eq0.false)), lt-ltb 0 p.fallback_lookback_s (omega (arith, c.if-p-eq0-2.false)), lt-ltb p.window_s p.hard_deadline_s c.if-p.false, lt_true p.expo (negsuc 11) g4)

pub returns : goal.returns
unfolding terms_of
returns c =
    let p = c.args.p in
    let fe : SFits w8 p.expo = search rules in
    let g4 = simp to_z-of_z at c.if-e-lt-MIN_EXPO.false in
    simp (lt-ltb 0 p.challenge_delay_s (omega (arith, c.if-p-eq0.false)), lt-ltb 0 p.fallback_lookback_s (omega (arith, c.if-p-eq0-2.false)), lt-ltb p.window_s p.hard_deadline_s c.if-p.false, lt_false p.expo (negsuc 11) g4, to_z-of_z) (sym (and_true (le_z p.expo (pos 0))))
