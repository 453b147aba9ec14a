-- 01, "Fixings to hold by hand": P1 to P12, computed over the definitions.
use Rattle.std.specs.Prelude.{None, Some}
use Prim.Native.Nat.{ℕ, ◌-◌, ◌^◌}
use mathlib.Core.Path.{◌≡◌, refl}
use mathlib.Core.Bool.{true, false}
use mathlib.Core.List.{List, [], ◌∷◌}
use lib.IntN.{pos, neg_ℤ}
use Rattle.rules.specs.Log.{Log, ε, ◌▹◌}
use Rattle.rules.specs.Answers.{Result, ok, refused, Answer, Opened, Used, Wait, Refused}
use Rattle.rules.specs.Terms.{good_terms}
use Rattle.rules.specs.Prints.{new_print, accept}
use Rattle.rules.specs.Mean.{mean}
use Rattle.rules.specs.Taking.{bit, canonical, links, qualifies, slot_for, print_answer, place}
use Rattle.rules.specs.Decision.{ones, decide_by}
use Rattle.rules.specs.Series.{Command, Open, Offer, Ask, Series, empty, step, answer, after}

-- 01's journal's terms, with another tolerance, hard deadline and expiry
abbrev like : ℕ → ℕ → ℕ → Command
like tolerance hard expiry =
    Open (record {
      terms =
          record {
            window = 40;
            slot = 10;
            tolerance = tolerance;
            minimum = 2;
            k = 2;
            delay = 5;
            lookback = 60;
            hard = hard;
            exponent = neg_ℤ (pos 2);
          };
      bps = 100;
      expiry = pos expiry;
    })

abbrev those : Command
those = like 2 100 1000

-- an offer of 200000 at the time 1001
abbrev print : ℕ → ℕ → ℕ → Command
print conf published prev =
    Offer (record { price = pos 200000; conf = conf; exponent = neg_ℤ (pos 2); published = pos published; prev = pos prev }) (pos 1001)

-- the series that the commands leave, and the answer to the last of them
abbrev given : Log Command → Series
given ε = empty
given (j ▹ c) = after (given j) c

abbrev lastly : Log Command → Answer
lastly ε = Opened
lastly (j ▹ c) = answer (given j) c

-- P9: its expiry, and the series with one print for each slot in turn
abbrev late : ℕ
late = 2 ^ 63 - 51

abbrev slot0 : Log Command
slot0 = ε ▹ like 2 100 late ▹ print 0 (late - 40) (late - 41)

abbrev slot1 : Log Command
slot1 = slot0 ▹ print 0 (late - 30) (late - 31)

abbrev slot2 : Log Command
slot2 = slot1 ▹ print 0 (late - 20) (late - 21)

abbrev slot3 : Log Command
slot3 = slot2 ▹ print 0 (late - 10) (late - 11)

-- what one of them shows: answers to commands, or means
data Fixing : Type 0 where
  answers : List Answer → Fixing
  means : List (Result ℕ) → Fixing

computed : List Fixing
computed =
    answers (lastly (ε ▹ like 10 100 1000) ∷ lastly (ε ▹ like 9 100 1000) ∷ [])
    ∷ answers (lastly (ε ▹ like 2 40 1000) ∷ lastly (ε ▹ like 2 41 1000) ∷ [])
    ∷ answers (lastly (ε ▹ those ▹ print 0 963 959) ∷ [])
    ∷ answers (lastly (ε ▹ those ▹ print 0 962 960) ∷ [])
    ∷ answers (lastly (ε ▹ those ▹ print 0 1000 999) ∷ [])
    ∷ answers (lastly (ε ▹ those ▹ print 0 1001 1000) ∷ [])
    ∷ answers (lastly (ε ▹ those ▹ print 2000 962 959) ∷ lastly (ε ▹ those ▹ print 2001 962 959) ∷ [])
    ∷ answers (lastly (ε ▹ those ▹ Ask (pos 999)) ∷ lastly (ε ▹ those ▹ Ask (pos 1000)) ∷ lastly (ε ▹ those ▹ Ask (pos 1100)) ∷ lastly (ε ▹ those ▹ Ask (pos 1105)) ∷ [])
    ∷ answers (lastly slot0 ∷ lastly slot1 ∷ lastly slot2 ∷ lastly slot3 ∷ lastly (slot3 ▹ Ask (pos late)) ∷ [])
    ∷ means (mean 3 2 (neg_ℤ (pos 6)) ∷ mean 5 4 (neg_ℤ (pos 6)) ∷ [])
    ∷ means (mean 499999 1 (neg_ℤ (pos 12)) ∷ mean 500000 1 (neg_ℤ (pos 12)) ∷ [])
    ∷ means (mean (2 ^ 65 - 2) 2 (neg_ℤ (pos 6)) ∷ mean (2 ^ 65 - 1) 2 (neg_ℤ (pos 6)) ∷ []) ∷ []

-- P1 to P12, a line each
said : List Fixing
said =
    answers (Refused 12 ∷ Opened ∷ [])
    ∷ answers (Refused 12 ∷ Opened ∷ [])
    ∷ answers (Used None None true ∷ [])
    ∷ answers (Used None None true ∷ [])
    ∷ answers (Used None None true ∷ [])
    ∷ answers (Used None (Some 0) false ∷ [])
    ∷ answers (Used (Some 0) None true ∷ Refused 17 ∷ [])
    ∷ answers (Wait (pos 1000) ∷ Wait (pos 1100) ∷ Wait (pos 1105) ∷ Answer.Void ∷ [])
    ∷ answers (Used (Some 0) None true ∷ Used (Some 1) None true ∷ Used (Some 2) None true ∷ Used (Some 3) None true ∷ Refused 0 ∷ [])
    ∷ means (ok 2 ∷ ok 1 ∷ [])
    ∷ means (ok 0 ∷ ok 1 ∷ [])
    ∷ means (ok (2 ^ 64 - 1) ∷ refused 0 ∷ []) ∷ []

fixings : computed ≡ said
unfolding computed said step good_terms accept new_print print_answer place slot_for canonical links qualifies bit decide_by ones mean
fixings = refl
