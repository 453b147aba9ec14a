use Prim.Native.Nat.{◌/◌}
use borrow.Author.Tests.{le-leb, lt-leb}
use Rattle.core_terms.specs.Params.{terms_of}
use Rattle.rules.proofs.Bools.{and_true}
use Rattle.core_terms.proofs.params.good_counts.Goals as goal

pub returns-then-minimum-lt1 : goal.returns-then-minimum-lt1
unfolding terms_of
returns-then-minimum-lt1 c =
    let p = c.args.p in
    simp (lt-leb 1 p.min_samples c.if-minimum-lt1.true)

pub returns-then-p-minimum : goal.returns-then-p-minimum
unfolding terms_of
returns-then-p-minimum c =
    let p = c.args.p in
    simp (le-leb 1 p.min_samples c.if-minimum-lt1.false, lt-leb p.min_samples (p.window_s / p.slot_s) c.if-p-minimum.true)

pub returns-then-k-lt1 : goal.returns-then-k-lt1
unfolding terms_of
returns-then-k-lt1 c =
    let p = c.args.p in
    simp (le-leb 1 p.min_samples c.if-minimum-lt1.false, le-leb p.min_samples (p.window_s / p.slot_s) c.if-p-minimum.false, lt-leb 1 p.k_next_print c.if-k-lt1.true)

pub returns : goal.returns
unfolding terms_of
returns c =
    let p = c.args.p in
    simp (le-leb 1 p.min_samples c.if-minimum-lt1.false, le-leb p.min_samples (p.window_s / p.slot_s) c.if-p-minimum.false, le-leb 1 p.k_next_print c.if-k-lt1.false, and_true)
