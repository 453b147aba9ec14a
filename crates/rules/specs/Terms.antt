-- 01, "Terms (`OracleParams::try_new`)".
use Rattle.std.specs.Prelude.{ℕ, ◌/◌, ◌%◌, Bool, ◌&&◌, List, [], ◌∷◌, ℤ, pos, neg_ℤ, ltb, leb, eqb, if◌then◌else◌}
use Rattle.std.specs.Int.Signed.{le_z}
use Rattle.rules.specs.Log.{every}
use Rattle.rules.specs.Answers.{Result, ok, refused}

-- "Seconds, u32: window, slot, delay D, lookback, hard deadline. u16: tolerance, minimum. u8: k. i8: exponent e."
pub record Terms : Type 0 where
  pub window : ℕ
  pub slot : ℕ
  pub tolerance : ℕ
  pub minimum : ℕ
  pub k : ℕ
  pub delay : ℕ
  pub lookback : ℕ
  pub hard : ℕ
  pub exponent : ℤ

-- "slots = window / slot"
abbrev pub slots : Terms → ℕ
slots t = t.window / t.slot

-- "−12 ≤ e ≤ 0"
abbrev pub good_exponent : ℤ → Bool
good_exponent e = le_z (neg_ℤ (pos 12)) e && le_z e (pos 0)

-- "Accepted exactly when: slot > 0 divides window; slots is 1 to 32; tolerance < slot; 1 ≤ minimum ≤ slots; 1 ≤ k ≤ 5; D > 0; lookback > 0; hard > window; −12 ≤ e ≤ 0."
abbrev pub terms_tests : Terms → List Bool
terms_tests t =
    ltb 0 t.slot ∷ eqb (t.window % t.slot) 0
    ∷ leb 1 (slots t) ∷ leb (slots t) 32
    ∷ ltb t.tolerance t.slot
    ∷ leb 1 t.minimum ∷ leb t.minimum (slots t)
    ∷ leb 1 t.k ∷ leb t.k 5
    ∷ ltb 0 t.delay
    ∷ ltb 0 t.lookback
    ∷ ltb t.window t.hard
    ∷ good_exponent t.exponent ∷ []

unfoldable pub good_terms : Terms → Bool
good_terms t = every (terms_tests t)

unfoldable pub new_terms : Terms → Result Terms
new_terms t = if good_terms t then ok t else refused 12
