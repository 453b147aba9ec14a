-- A journal. 01: "The `sheet` program reads a journal from standard input over a zeroed book and prints a line per command,
-- ending after a 32 or a short tail's 33."
use Rattle.std.specs.Prelude.{ℕ, zero, suc, Bool, true, false, ◌&&◌, List, [], ◌∷◌, ◌++◌, length, take, drop, ltb, eqb, if◌then◌else◌}
use Rattle.rules.specs.Log.{Log, ε, ◌▹◌, puts}
use Rattle.rules.specs.Bytes.{Bytes, unsigned_at}
use Rattle.rules.specs.Entries.{width}
use Rattle.rules.specs.Book.{answer_to, run}
use Rattle.rules.specs.Lines.{line}

-- ---- its commands

abbrev pub is_known : ℕ → Bool
is_known b = ltb 1 (width b)

-- The commands of a journal of at most n bytes. An unknown byte is one by itself, and the last ("a 32"). So is what is left
-- where it is shorter than its command ("a short tail's 33"): take and drop go no further than the end.
unfoldable pub commands_in : ℕ → Bytes → List Bytes
commands_in zero j = []
commands_in (suc n) [] = []
commands_in (suc n) (b ∷ bs) =
    let j = b ∷ bs in
    take (width b) j ∷ (if is_known b then commands_in n (drop (width b) j) else [])

-- the list that a journal gives in turn to one zeroed book
unfoldable pub journal_entries : Bytes → Log Bytes
journal_entries journal = puts ε (commands_in (length journal) journal)

-- each of them has the byte of a command, and its width
abbrev pub are_commands : List Bytes → Bool
are_commands [] = true
are_commands ([] ∷ es) = false
are_commands ((b ∷ bs) ∷ es) = is_known b && (eqb (length (b ∷ bs)) (width b) && are_commands es)

-- ---- the sheet: "prints a line per command"

-- the line of the answer to a command; its series is its second byte
unfoldable pub line_to : Bytes → Bytes → Bytes
line_to book e = line (unsigned_at e 1 1) (answer_to book e)

abbrev pub sheet : Log Bytes → Bytes
sheet ε = []
sheet (l ▹ e) = sheet l ++ line_to (run l) e
