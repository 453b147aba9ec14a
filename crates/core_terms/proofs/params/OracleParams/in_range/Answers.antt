use borrow.Author.Tests.{not-false, ltb-true}
use lib.ListN.{take, drop}
use Rattle.rules.specs.Log.{every}
use Rattle.rules.proofs.Bools.{every_at}
use Rattle.rules.specs.Terms.{terms_tests, good_terms}
use Rattle.core_terms.proofs.Tests.{terms_split, part_fails, part_passes}
use mathlib.Core.Path.{sym, ◌∙◌}
use mathlib.Core.Bool.{◌&&◌}
use Rattle.core_terms.specs.Params.{terms_of}
use Rattle.core_terms.proofs.params.OracleParams.in_range.Goals as goal

pub returns-then-not-good_window : goal.returns-then-not-good_window
returns-then-not-good_window c =
    let t = terms_of c.args.self in
    part_fails (good_terms t) (every (take 5 (terms_tests t))) ((every (take 4 (drop 5 (terms_tests t)))) && (every (drop 9 (terms_tests t)))) c.good_window.result (terms_split t) c.good_window.ensures c.if-not-good_window.true-raw

pub good_counts-requires : goal.good_counts-requires
unfolding terms_of
good_counts-requires c =
    let t = terms_of c.args.self in
    ltb-true 0 t.slot (every_at (take 5 (terms_tests t)) 0 (sym c.good_window.ensures ∙ not-false c.good_window.result c.if-not-good_window.false-raw))

pub returns-then-not-good_counts : goal.returns-then-not-good_counts
returns-then-not-good_counts c =
    let t = terms_of c.args.self in
    let s1 = part_passes (good_terms t) (every (take 5 (terms_tests t))) ((every (take 4 (drop 5 (terms_tests t)))) && (every (drop 9 (terms_tests t)))) c.good_window.result (terms_split t) c.good_window.ensures c.if-not-good_window.false-raw in
    part_fails (good_terms t) (every (take 4 (drop 5 (terms_tests t)))) (every (drop 9 (terms_tests t))) c.good_counts.result s1 c.good_counts.ensures c.if-not-good_counts.true-raw

pub returns : goal.returns
returns c =
    let t = terms_of c.args.self in
    let s1 = part_passes (good_terms t) (every (take 5 (terms_tests t))) ((every (take 4 (drop 5 (terms_tests t)))) && (every (drop 9 (terms_tests t)))) c.good_window.result (terms_split t) c.good_window.ensures c.if-not-good_window.false-raw in
    c.good_delays.ensures ∙ sym (part_passes (good_terms t) (every (take 4 (drop 5 (terms_tests t)))) (every (drop 9 (terms_tests t))) c.good_counts.result s1 c.good_counts.ensures c.if-not-good_counts.false-raw)
