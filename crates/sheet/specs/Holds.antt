-- What the program has after a part of a journal, as the reader of journal/specs/Parts has it.
use Rattle.std.specs.Prelude.{ℕ, ◌<◌, min, ◌≡◌, Bool, true, false, ◌||◌, length, take}
use Rattle.rules.specs.Log.{Log, ◌▹◌}
use Rattle.rules.specs.Bytes.{Bytes}
use Rattle.journal.specs.Parts.{Reader, reads, read_all, joined}
use Rattle.sheet.specs.declared.Left.{Left}

-- the reader's bytes stand at the front of part, its lines at the front of out
pub record Holds (left : Left) (book part out : Bytes) (r : Reader) : Type 0 where
  pub booked : book ≡ r.book
  pub held : take left.held part ≡ r.held
  pub lines : take left.written out ≡ r.lines
  pub ended : left.ended ≡ r.ended

-- a count in a u64, which stops at the greatest one
abbrev pub at_most64 : ℕ → ℕ
at_most64 n = min n 18_446_744_073_709_551_615

-- the book and the bytes held at the front of part are those of the reader of these parts, which has not ended; read counts their bytes
pub record Reading (parts : Log Bytes) (book part : Bytes) (held read : ℕ) : Type 0 where
  pub booked : book ≡ (read_all parts).book
  pub keeps : take held part ≡ (read_all parts).held
  pub goes : (read_all parts).ended ≡ false
  pub counted : read ≡ at_most64 (length (joined parts))
  pub short : held < 46

-- the same with one part more
pub record OneMore (parts : Log Bytes) (book part : Bytes) (held read : ℕ) : Type 0 where
  pub bytes : Bytes
  pub reading : Reading (parts ▹ bytes) book part held read

-- the book of the reader of the parts and some bytes more, with which the journal ends: no others follow, or an unknown byte is among them
pub record Over (parts : Log Bytes) (book : Bytes) : Type 0 where
  pub last : Bool
  pub bytes : Bytes
  pub booked : book ≡ (reads last (read_all parts) bytes).book
  pub ends : last || (reads last (read_all parts) bytes).ended ≡ true
