-- Answers as numbers.
use Rattle.std.specs.Prelude.{ℕ, if◌then◌else◌, Option}
use Rattle.rules.specs.Log.{maybe}
use Rattle.rules.specs.Bytes.{word}
use Rattle.rules.specs.Answers.{Result, ok, refused, number, Answer, Opened, Used, Wait, Settle, Done, Refused}
use Rattle.rules.specs.Prints.{Print}

-- a refusal's number, or 255 where there is none
abbrev pub code_of : {A : Type 0} → Result A → ℕ
code_of (ok a) = 255
code_of (refused r) = r

-- what stands in the caller's number after the call: it is changed only where there is no refusal
abbrev pub stored_price : ℕ → Result ℕ → ℕ
stored_price before (ok price) = price
stored_price before (refused r) = before

abbrev pub stored_amount : ℕ → Result Print → ℕ
stored_amount before (ok p) = p.price
stored_amount before (refused r) = before

-- ---- a command's answer

-- a place, or 255 for none
abbrev pub place_code : Option ℕ → ℕ
place_code i = maybe 255 (λ n. n) i

abbrev pub answer_code : Answer → ℕ
answer_code Opened = 255
answer_code (Used s l f) = 254
answer_code (Wait t) = 253
answer_code (Settle m p n) = 252
answer_code Answer.Void = 251
answer_code Done = 250
answer_code (Refused r) = r

-- what stands in the caller's three numbers after the call
abbrev pub first_after : ℕ → Answer → ℕ
first_after before Opened = before
first_after before (Used s l f) = place_code s
first_after before (Wait t) = word 64 t
first_after before (Settle m p n) = number m
first_after before Answer.Void = before
first_after before Done = before
first_after before (Refused r) = before

abbrev pub second_after : ℕ → Answer → ℕ
second_after before Opened = before
second_after before (Used s l f) = place_code l
second_after before (Wait t) = before
second_after before (Settle m p n) = p
second_after before Answer.Void = before
second_after before Done = before
second_after before (Refused r) = before

abbrev pub third_after : ℕ → Answer → ℕ
third_after before Opened = before
third_after before (Used s l f) = if f then 1 else 0
third_after before (Wait t) = before
third_after before (Settle m p n) = n
third_after before Answer.Void = before
third_after before Done = before
third_after before (Refused r) = before
