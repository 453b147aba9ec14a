-- The line of text of an answer. 01: "Fields: word, series, then slot, link ("-" for none) and 0/1; or until; or method, price, samples.
-- A refusal prints `refused` and its number, no series." "Void prints `void 3`." #103: Done is the word alone.
use Rattle.std.specs.Prelude.{ℕ, zero, suc, ◌+◌, ◌/◌, ◌%◌, Bool, true, false, List, [], ◌∷◌, ◌++◌, ℤ, pos, negsuc, ltb, if◌then◌else◌, Option, None, Some}
use Prim.Native.Char.{code}
use Prim.Native.String.{String, [] as no_text, ◌∷◌ as ◌then◌}
use Rattle.rules.specs.Bytes.{Bytes}
use Rattle.rules.specs.Answers.{number, Answer, Opened, Used, Wait, Settle, Refused}

-- the bytes of a text, in ASCII
abbrev pub ascii : String → Bytes
ascii no_text = []
ascii (c then s) = code c ∷ ascii s

-- ---- numbers in decimal

-- the digits of n, with no zero ahead; f bounds how many, and n < f is enough
unfoldable pub digits : ℕ → ℕ → Bytes
digits zero n = []
digits (suc f) n = if ltb n 10 then (48 + n) ∷ [] else digits f (n / 10) ++ ((48 + n % 10) ∷ [])

-- a number that is not negative
unfoldable pub decimal : ℕ → Bytes
decimal n = digits (suc n) n

-- a time, with a minus where it is negative
unfoldable pub signed_decimal : ℤ → Bytes
signed_decimal (pos n) = decimal n
signed_decimal (negsuc n) = ascii "-" ++ decimal (suc n)

-- ---- lines

-- "slot, link ("-" for none)"
abbrev pub index : Option ℕ → Bytes
index None = ascii "-"
index (Some i) = decimal i

-- "and 0/1": whether it is the fallback
abbrev pub flag : Bool → Bytes
flag false = ascii "0"
flag true = ascii "1"

-- what follows the word: each field after a space, and the end of the line
abbrev pub after_word : List Bytes → Bytes
after_word [] = ascii "\n"
after_word (f ∷ fs) = ascii " " ++ (f ++ after_word fs)

-- the line of an answer to a command of series s
unfoldable pub line : ℕ → Answer → Bytes
line s Opened = ascii "opened" ++ after_word (decimal s ∷ [])
line s (Used slot link fallback) = ascii "used" ++ after_word (decimal s ∷ index slot ∷ index link ∷ flag fallback ∷ [])
line s (Wait until) = ascii "wait" ++ after_word (decimal s ∷ signed_decimal until ∷ [])
line s (Settle m price samples) = ascii "settle" ++ after_word (decimal s ∷ decimal (number m) ∷ decimal price ∷ decimal samples ∷ [])
line s Answer.Void = ascii "void" ++ after_word (decimal s ∷ [])
line s Answer.Done = ascii "done" ++ after_word []
line s (Refused r) = ascii "refused" ++ after_word (decimal r ∷ [])
