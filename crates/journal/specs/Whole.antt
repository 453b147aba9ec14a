-- A whole journal: its entries are the list that demand 3 speaks of.
use Rattle.std.specs.Prelude.{ℕ, ◌+◌, ◌/◌, ◌<◌, ◌≡◌, Bool, true, List, [], ◌∷◌, ◌++◌, length, leb}
use Rattle.rules.specs.Log.{ε, ◌▹◌, puts}
use Rattle.rules.specs.Bytes.{Bytes, are_bytes, concat}
use Rattle.rules.specs.Entries.{width}
use Rattle.rules.specs.Journal.{journal_entries, are_commands}
use Rattle.claims.specs.Demand3.{Demand3}
use Rattle.lines.specs.Lines.{line_max}

-- there is room for a line of each of its commands, and some more
abbrev pub has_room : Bytes → ℕ → Bool
has_room journal room = leb (length journal / 10 + 2) (room / line_max)

pub record WholeJournal : Type 0 where
  -- commands one after the other are read back as the same list
  pub back : (es : List Bytes) → are_commands es ≡ true → journal_entries (concat es) ≡ puts ε es
  -- "ending after a 32": an unknown byte is the last entry, whatever follows it
  pub unknown : (es : List Bytes) → are_commands es ≡ true → (b : ℕ) (more : Bytes) → width b ≡ 1 → journal_entries (concat es ++ (b ∷ more)) ≡ puts ε es ▹ (b ∷ [])
  -- "or a short tail's 33": so is a command of which not all bytes are there
  pub tail : (es : List Bytes) → are_commands es ≡ true → (b : ℕ) (bs : Bytes) → length (b ∷ bs) < width b → journal_entries (concat es ++ (b ∷ bs)) ≡ puts ε es ▹ (b ∷ bs)
  -- demand 3 holds of the entries of any journal
  pub demand : (journal : Bytes) → are_bytes journal ≡ true → Demand3 (journal_entries journal)
