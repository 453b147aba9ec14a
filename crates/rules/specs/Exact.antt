-- #102: how long the answer to an ask holds, to the second, while nothing but the time changes.
use Rattle.std.specs.Prelude.{◌≡◌, true, ℤ}
use Rattle.std.specs.Int.Signed.{lt_z, le_z}
use Rattle.rules.specs.Bytes.{fits}
use Rattle.rules.specs.Answers.{Answer, Wait}

-- answers has the answer at each time. The one at now is Wait until, and that time is exact:
pub record Exact (answers : ℤ → Answer) (now until : ℤ) : Type 0 where
  -- it is still to come, and a command can name it
  pub later : lt_z now until ≡ true
  pub in_range : fits until ≡ true
  -- from now on, each time before it has the same Wait, so that nobody need wake there
  pub same : (at : ℤ) → fits at ≡ true → le_z now at ≡ true → lt_z at until ≡ true → answers at ≡ Wait until
  -- it has another answer itself, be it the next Wait or refusal 0, so that whoever wakes after it is late
  pub other : answers until ≡ Wait until → ⊥

-- answers has at every later time what it has at now, so that there is nothing to wait for.
abbrev pub ForGood : (ℤ → Answer) → ℤ → Type 0
ForGood answers now = (later : ℤ) → fits later ≡ true → le_z now later ≡ true → answers later ≡ answers now
