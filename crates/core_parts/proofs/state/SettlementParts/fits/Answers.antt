use mathlib.Core.Path.{◌≡◌, sym, ◌∙◌}
use mathlib.Core.Bool.{beq}
use lib.IntN.{pos}
use lib.Dec.{eqb}
use Rattle.rules.specs.Prints.{eq_z}
use borrow.Author.Rules.{rules}
use borrow.Author.Tests.{le-leb, lt-leb}
use lib.ListN.{length}
use mir.Syntax.{w64}
use mir.Val.{SFits}
use mir.Facts.{to_z-of_z}
use Rattle.core_parts.specs.States.{stored_of}
use Rattle.core_parts.proofs.Places.{fails_at, too_many, by_places, passed, failed}
use Rattle.core_parts.proofs.state.SettlementParts.fits.Goals as goal

pub returns-then-not-bits_ok : goal.returns-then-not-bits_ok
unfolding stored_of
returns-then-not-bits_ok c = λ t e k. sym (fails_at t (stored_of c.args.self) 0 (rw e (failed c.bits_ok.ensures c.if-not-bits_ok.true-raw)))

pub returns-then-not-sum_ok : goal.returns-then-not-sum_ok
unfolding stored_of
returns-then-not-sum_ok c = λ t e k. sym (fails_at t (stored_of c.args.self) 1 (failed c.sum_ok.ensures c.if-not-sum_ok.true-raw))

pub returns-then-k_next_print-len : goal.returns-then-k_next_print-len
unfolding stored_of
returns-then-k_next_print-len c = let a = c.args in λ t e k. sym (fails_at t (stored_of a.self) 2 (rw k (lt-leb a.self.next_len a.k_next_print c.if-k_next_print-len.true)))

pub returns-then-len-gt-MAX_NEXT_PRINTS : goal.returns-then-len-gt-MAX_NEXT_PRINTS
unfolding stored_of
returns-then-len-gt-MAX_NEXT_PRINTS c = λ t e k. sym (too_many t (stored_of c.args.self) ((let h : length c.args.self.next_prices ≡ 5 = search rules in h)) c.if-len-gt-MAX_NEXT_PRINTS.true)

pub returns-then-not-fallback_ok : goal.returns-then-not-fallback_ok
unfolding stored_of
returns-then-not-fallback_ok c = λ t e k. sym (fails_at t (stored_of c.args.self) 10 (failed ((let h : c.fallback_ok.result ≡ beq (eq_z c.args.self.fallback_time (pos 0)) (eqb c.args.self.fallback_price 0) = let f : SFits w64 c.args.self.fallback_time = search rules in simp to_z-of_z at c.fallback_ok.ensures in h)) c.if-not-fallback_ok.true-raw))

pub returns : goal.returns
unfolding stored_of
returns c =
    let a = c.args in
    let small : SFits w64 a.self.fallback_time = search rules in
    let fallback_is : c.fallback_ok.result ≡ beq (eq_z a.self.fallback_time (pos 0)) (eqb a.self.fallback_price 0) = simp to_z-of_z at c.fallback_ok.ensures in
    λ t e k. c.places_ok.ensures
    ∙ by_places t (stored_of a.self)
    c.if-len-gt-MAX_NEXT_PRINTS.false
    (rw e (passed c.bits_ok.ensures c.if-not-bits_ok.false-raw))
    (passed c.sum_ok.ensures c.if-not-sum_ok.false-raw)
    (rw k (le-leb a.self.next_len a.k_next_print c.if-k_next_print-len.false))
    (passed fallback_is c.if-not-fallback_ok.false-raw)
