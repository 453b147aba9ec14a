use Rattle.std.specs.Option.{IsSome, MatchOption}
use Rattle.std.specs.Prelude.{Option, None, Some}
use mathlib.Core.Path.{◌∙◌, refl, sym, ap}
use Rattle.book.proofs.Looks.{looked, part_looked}
use Rattle.record_test.specs.Statuses.{status_of, status_in}
use Rattle.record_test.proofs.status.status_at.Goals as goal

some_if : {A : Type 0} (r : Option A) {P : Type 0} (Q : A → Type 0) → MatchOption r P Q → (P → ⊥) → IsSome r
some_if None Q m h = absurd (h m)
some_if (Some x) Q m h = refl

pub unwrap-requires : goal.unwrap-requires
unwrap-requires c = some_if c.as_array.result _ c.as_array.ensures.cases (λ n. n (part_looked c.args.book.now c.args.series c.in_ok-look_result.ensures c.look.ensures).1)

pub returns : goal.returns
returns c =
    let book = c.args.book.now in
    let e = c.in_ok-look_result.ensures in
    let same = rw c.unwrap.ensures at c.as_array.ensures.cases in
    c.status_of.ensures ∙ ap status_of (same.same ∙ (part_looked book c.args.series e c.look.ensures).0) ∙ sym (ap status_in (looked book c.args.series e))
