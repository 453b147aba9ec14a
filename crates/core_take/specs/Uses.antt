-- What a print is used for, read as the rules' answer.
use Rattle.std.specs.Prelude.{ℕ, ◌+◌, ◌≡◌, ℤ, Result, Ok, Err}
use Rattle.rules.specs.Log.{maybe}
use Rattle.rules.specs.Answers as R
use Rattle.rules.specs.Terms.{Terms}
use Rattle.rules.specs.Prints.{Print}
use Rattle.rules.specs.Taking.{slot_for, is_fallback, print_answer}
use Rattle.rules.specs.State.{Parts, candidates_of}
use Rattle.core_terms.specs.Errors.{number_of}
use Rattle.core_terms.specs.declared.error.CoreError.{CoreError}
use Rattle.core_uses.specs.declared.uses.PrintUse.{PrintUse}
use Rattle.core_take.specs.Placing.{link_use}

abbrev pub used_of : Result PrintUse CoreError → R.Answer
used_of (Ok u) = R.Used u.slot u.next_print u.fallback
used_of (Err e) = R.Refused (number_of e)

-- what a print is used for, and the sum of the slots' prices with it; or the refusal
abbrev pub IsUse : Terms → ℤ → Parts → Print → Result (PrintUse × ℕ) CoreError → Type 0
IsUse t E s p (Ok (u, sum)) =
    (u.slot ≡ slot_for t E (candidates_of s) p) × (u.next_print ≡ link_use t E (candidates_of s) p) × (u.fallback ≡ is_fallback t E (candidates_of s) p)
    × (sum ≡ maybe s.sum (λ i. s.sum + p.price) (slot_for t E (candidates_of s) p))
    × (print_answer t E (candidates_of s) p ≡ R.Used (slot_for t E (candidates_of s) p) (link_use t E (candidates_of s) p) (is_fallback t E (candidates_of s) p))
IsUse t E s p (Err e) = print_answer t E (candidates_of s) p ≡ R.Refused (number_of e)
