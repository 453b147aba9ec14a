-- A list of entries, as bytes one after the other and where each of them ends.
use Rattle.std.specs.Prelude.{ℕ, zero, suc, ◌-◌, List, length, get_or, take, drop, Option, Some, None}
use Rattle.rules.specs.Log.{Log, ε, ◌▹◌}
use Rattle.rules.specs.Bytes.{Bytes}
use Rattle.rules.specs.Answers.{Answer}
use Rattle.claims.specs.Demand3.{answered}

-- the bytes from one end to the next, none where the next is not behind, and no more than there are
abbrev pub cut : ℕ → ℕ → Bytes → Bytes
cut from to bs = take (to - from) (drop from bs)

-- where entry i starts: at the end of the one before it
abbrev pub start_of : List ℕ → ℕ → ℕ
start_of ends zero = 0
start_of ends (suc i) = get_or ends i 0

-- the first n entries
abbrev pub entries_to : Bytes → List ℕ → ℕ → Log Bytes
entries_to bs ends zero = ε
entries_to bs ends (suc n) = entries_to bs ends n ▹ cut (start_of ends n) (get_or ends n 0) bs

abbrev pub entries_of : Bytes → List ℕ → Log Bytes
entries_of bs ends = entries_to bs ends (length ends)

-- what the last entry is answered
abbrev pub last_answer : Log Bytes → Option Answer
last_answer ε = None
last_answer (l ▹ e) = Some (answered l e)
