-- 01, "Prints (`Print::try_new`; `accept_print` above it refuses more)".
use Rattle.std.specs.Prelude.{ℕ, ◌*◌, Bool, not, ◌&&◌, ◌||◌, ℤ, pos, nat_abs, ltb, eqb, if◌then◌else◌}
use Rattle.std.specs.Int.Signed.{lt_z, le_z}
use Rattle.rules.specs.Answers.{Result, ok, refused}

-- "A print has a u64 price and i64 times pub and prev." (`published` is 01's pub.)
pub record Print : Type 0 where
  pub price : ℕ
  pub published : ℤ
  pub prev : ℤ

-- "13 if price is 0, prev ≤ 0 or prev > pub."
abbrev pub good_print : Print → Bool
good_print p = not (eqb p.price 0 || le_z p.prev (pos 0) || lt_z p.published p.prev)

unfoldable pub new_print : Print → Result Print
new_print p = if good_print p then ok p else refused 13

-- what acceptance is given: the price is an i64, conf a u64, the exponent an i32
pub record Quote : Type 0 where
  pub price : ℤ
  pub conf : ℕ
  pub exponent : ℤ
  pub published : ℤ
  pub prev : ℤ

abbrev pub eq_z : ℤ → ℤ → Bool
eq_z a b = le_z a b && le_z b a

-- "Acceptance, first that applies: price (i64) ≤ 0, 13; exponent (i32) not e, 16; conf × 10,000 > price × max bps, 17; times, 13."
unfoldable pub accept : ℤ → ℕ → Quote → Result Print
accept e bps q =
    if le_z q.price (pos 0) then refused 13 else
    if not (eq_z q.exponent e) then refused 16 else
    if ltb (nat_abs q.price * bps) (q.conf * 10_000) then refused 17 else
    new_print (record { price = nat_abs q.price; published = q.published; prev = q.prev })
