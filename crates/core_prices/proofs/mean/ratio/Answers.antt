use Prim.Native.Nat.{ℕ, ◌+◌, ◌*◌, ◌/◌, ◌<◌, ◌^◌}
use mathlib.Core.Path.{sym, ap, ◌∙◌}
use native.Mathlib.Omega.{arith}
use Rattle.rules.specs.Answers.{ok}
use Rattle.core_prices.proofs.Division.{refused_early, refused_late, scaled_small, taken}
use Rattle.core_prices.proofs.mean.ratio.Goals as goal
use Rattle.core_prices.proofs.mean.ratio.Goals.{Else-den-hi}

small : (c : Else-den-hi) → c.args.sum * c.args.up + c.args.count * c.args.down / 2 < 4294967296 * 1000000 * 2 ^ 64
small c =
    let a = c.args in
    let p = c.requires in
    scaled_small a.sum a.count a.up a.down p.0 p.1 p.2 c.if-den-hi.false (omega arith) p.4 p.5

pub returns-then-den-hi : goal.returns-then-den-hi
returns-then-den-hi c =
    let a = c.args in
    let p = c.requires in
    sym (refused_early a.sum a.count a.up a.down p.0 p.1 p.2 c.if-den-hi.true)

pub overflow_mul-scaled : goal.overflow_mul-scaled
overflow_mul-scaled c = omega (arith, small c)

pub overflow_add-scaled : goal.overflow_add-scaled
overflow_add-scaled c = omega (arith, small c)

pub overflow_cast-high : goal.overflow_cast-high
overflow_cast-high c = omega (arith, small c)

pub returns-then-den-high : goal.returns-then-den-high
returns-then-den-high c =
    let a = c.args in
    let p = c.requires in
    sym (refused_late a.sum a.count a.up a.down p.0 p.1 p.2 c.if-den-high.true)

pub returns : goal.returns
returns c =
    let a = c.args in
    let p = c.requires in
    let high = (a.sum * a.up + a.count * a.down / 2) / 2 ^ 64 in
    ap ok (c.new.ensures ∙ c.narrow.ensures ∙ ap (λ (n : ℕ). (high / a.down * 2 ^ 64 + n) / a.count) c.narrow-inner.ensures)
    ∙ sym (taken a.sum a.count a.up a.down p.0 p.1 p.2 c.if-den-high.false)
