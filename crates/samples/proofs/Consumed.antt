-- What reads consumed, one after the other.
use Rattle.std.proofs.Common.{◌≡◌, ℕ, ◌<◌, List, ◌++◌, length, get_or, Option, None, Some, ap, sym, ◌∙◌, append_assoc}
use Rattle.std.proofs.lemmas.Nat.{le_bytes_4}
use Rattle.std.specs.Int.{w32, to_le_bytes, from_le_bytes}
use Rattle.std.specs.Io.KnownBytes.{Consumes}

pub consumes_both : (a b c : Option (List ℕ)) (bs cs : List ℕ) → Consumes a b bs → Consumes b c cs → Consumes a c (bs ++ cs)
consumes_both None b c bs cs p q = tt
consumes_both (Some x) None c bs cs p q = absurd p
consumes_both (Some x) (Some y) None bs cs p q = absurd q
consumes_both (Some x) (Some y) (Some z) bs cs p q = p ∙ ap (λ l. bs ++ l) q ∙ sym (append_assoc bs cs z)

-- a mark, and then a number in four bytes
pub consumes_header : (a b c : Option (List ℕ)) (first mark bs : List ℕ) (n : ℕ) → first ≡ mark → length bs ≡ 4
    → ((i : ℕ) → get_or bs i 0 < 256) → n ≡ from_le_bytes w32 bs → Consumes a b first → Consumes b c bs
    → Consumes a c (mark ++ to_le_bytes w32 n)
consumes_header a b c first mark bs n same four small e p q =
    rw (← same, le_bytes_4 bs n four small e) (consumes_both a b c first bs p q)
