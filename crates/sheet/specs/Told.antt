-- What a turn of the loop has done: what came from a reader and what a writer was told, where their bytes are known.
use Rattle.std.specs.Prelude.{ℕ, ◌≡◌, Bool, true, false, ◌||◌, [], Option, Result, Ok, Err}
use Rattle.std.specs.Io.KnownBytes.{Consumes, Appends, IsAtEnd}
use Rattle.rules.specs.Log.{Log, ◌▹◌}
use Rattle.rules.specs.Bytes.{Bytes}
use Rattle.journal.specs.Parts.{Reader, reads, read_all}
use Rattle.sheet.specs.Holds.{Reading, OneMore, Over}
use Rattle.sheet.specs.declared.Feeder.{Feeder}
use Rattle.sheet.specs.declared.Failure.{Failure}

-- the feeder has what the reader of these parts has, which has not ended
abbrev pub At : Log Bytes → Feeder → Type 0
At parts f = Reading parts f.book f.part f.held f.read

-- what a turn of the loop has done, whatever parts were read ahead of it; nothing is said of one that failed
abbrev pub GoesOn : Result Bool Failure → (before after : Feeder) → Type 0
GoesOn (Ok false) before after = (parts : Log Bytes) → At parts before → OneMore parts after.book after.part after.held after.read
GoesOn (Ok true) before after = (parts : Log Bytes) → At parts before → Over parts after.book
GoesOn (Err e) before after = Unit {0}

-- a writer that was told the lines of r is then told those that r₁ has more
abbrev pub Tells : Reader → Reader → Option Bytes → Option Bytes → Type 0
Tells r r₁ to₁ to = (to₀ : Option Bytes) → Appends to₀ to₁ r.lines → Appends to₀ to r₁.lines

-- the reader of these parts and some bytes more, with which the journal ends
pub record Ends (parts : Log Bytes) (last : Bool) (bytes book : Bytes) (to₁ to : Option Bytes) : Type 0 where
  pub booked : book ≡ (reads last (read_all parts) bytes).book
  pub ends : last || (reads last (read_all parts) bytes).ended ≡ true
  pub tells : Tells (read_all parts) (reads last (read_all parts) bytes) to₁ to

-- the reader of these parts and one part more
pub record Goes (parts : Log Bytes) (bytes book part : Bytes) (held read : ℕ) (to₁ to : Option Bytes) : Type 0 where
  pub reading : Reading (parts ▹ bytes) book part held read
  pub tells : Tells (read_all parts) (read_all (parts ▹ bytes)) to₁ to

-- what was done with the bytes that came, the last ones or not, whatever parts were read ahead of them
abbrev pub HandsOn : Result Bool Failure → (last : Bool) (bytes : Bytes) (before after : Feeder) → Option Bytes → Option Bytes → Type 0
HandsOn (Ok false) last bytes before after to₁ to = (parts : Log Bytes) → At parts before → Goes parts bytes after.book after.part after.held after.read to₁ to
HandsOn (Ok true) last bytes before after to₁ to = (parts : Log Bytes) → At parts before → Ends parts last bytes after.book to₁ to
HandsOn (Err e) last bytes before after to₁ to = Unit {0}

-- the bytes that a turn has read, the last ones if no byte came, and what was done with them
pub record Turns (r : Result Bool Failure) (before after : Feeder) (from₁ from to₁ to : Option Bytes) : Type 0 where
  pub last : Bool
  pub bytes : Bytes
  pub came : Consumes from₁ from bytes
  pub over : last ≡ true → (bytes ≡ []) × IsAtEnd from
  pub done : HandsOn r last bytes before after to₁ to
