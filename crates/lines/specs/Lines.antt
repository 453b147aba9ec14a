-- The longest line of an answer, and what a line says, read as one of the rules' answers.
use Rattle.std.specs.Prelude.{ℕ}
use Rattle.rules.specs.Answers as R
use Rattle.answers.specs.Answers.{answer_of}
use Rattle.lines.specs.declared.line.Line.{Line}
use Rattle.lines.specs.declared.line.Line.TheVariants as L

-- no line is longer
abbrev pub line_max : ℕ
line_max = 96

abbrev pub said_by : Line → R.Answer
said_by (L.Answer a) = answer_of a
said_by (L.Refused n) = R.Refused n
