use Prim.Native.Nat.{ℕ, ◌+◌, ◌*◌, ◌/◌, ◌%◌, ◌<◌, ◌^◌}
use mathlib.Core.Path.{◌≡◌, sym, ap, ◌∙◌}
use native.Mathlib.Omega.{arith}
use Rattle.core_prices.proofs.Division.{step}
use Rattle.core_prices.proofs.mean.narrow.Goals as goal
use Rattle.core_prices.proofs.mean.narrow.Goals.{Start}

abbrev top : Start → ℕ
top c = c.args.h * 2 ^ 32 + c.args.l / 2 ^ 32

pub returns : goal.returns
returns c =
    let d : 0 < c.args.d = omega arith in
    let e : c.args.h * 2 ^ 64 + c.args.l ≡ top c * 2 ^ 32 + c.args.l % 2 ^ 32 = omega arith in
    sym (ap (λ (n : ℕ). n / c.args.d) e ∙ step (top c) (2 ^ 32) (c.args.l % 2 ^ 32) c.args.d d)
