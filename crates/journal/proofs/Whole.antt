-- A whole journal.
use Rattle.std.specs.Prelude.{if◌then◌else◌, Some, None}
use Prim.Native.Nat.{ℕ, zero, suc, ◌≤◌}
use mathlib.Core.Path.{◌≡◌, refl, ap}
use mathlib.Core.Bool.{Bool, true, false}
use mathlib.Core.List.{List, [], ◌∷◌}
use native.Mathlib.Omega.{arith}
use lib.Dec.{leb, eqb}
use lib.ListN.{length, take, drop, drop_of_length-le}
use lib.Seq.{take_all}
use borrow.Author.Tests.{lt-ltb, le-ltb, leb-false, eqb-true, eqb-false}
use Rattle.rules.specs.Log.{Log, ε, ◌▹◌, puts, all}
use Rattle.rules.specs.Bytes.{Bytes, are_bytes}
use Rattle.rules.specs.Entries.{width}
use Rattle.rules.specs.Journal.{is_known, commands_in, journal_entries}
use Rattle.rules.proofs.Journal.{wide, none_in, commands_back, unknown-last, tail-last}
use Rattle.rules.proofs.Bytes.{drop-bytes, take-bytes}
use Rattle.claims.proofs.Demand3.{demand3}
use Rattle.journal.specs.Split.{first_width, ends, entries_in}
use Rattle.journal.specs.Whole.{WholeJournal}

-- ---- the last part, which is a whole journal

no_entries : (last : Bool) (n : ℕ) → entries_in last n [] ≡ []
unfolding entries_in first_width
no_entries last zero = refl
no_entries last (suc n) = refl

nothing : (t u : Bool) → ◌≡◌ {A = List Bytes} (if t then [] else []) (if u then [] else [])
nothing true true = refl
nothing true false = refl
nothing false true = refl
nothing false false = refl

pub whole_in : (n : ℕ) (j : Bytes) → entries_in true n j ≡ commands_in n j
unfolding entries_in first_width commands_in
whole_in zero j = refl
whole_in (suc n) [] = refl
whole_in (suc n) (b ∷ bs) = go (leb (width b) (length (b ∷ bs))) refl (whole_in n (drop (width b) (b ∷ bs)))
  where
    j : Bytes
    j = b ∷ bs

    ending : (t : Bool) → eqb (width b) 1 ≡ t → entries_in true n (drop (width b) j) ≡ commands_in n (drop (width b) j)
        → (if t then [] else entries_in true n (drop (width b) j)) ≡ (if is_known b then commands_in n (drop (width b) j) else [])
    ending true p on = rw (le-ltb 1 (width b) (omega (arith, eqb-true (width b) 1 p)))
    ending false p on = rw (lt-ltb 1 (width b) (omega (arith, (wide b).some, eqb-false (width b) 1 p))) on

    go : (t : Bool) → leb (width b) (length j) ≡ t → entries_in true n (drop (width b) j) ≡ commands_in n (drop (width b) j)
        → (elim (if t then Some (width b) else Some (length j)) [ None ↦ [] | Some w ↦ take w j ∷ (if ends w then [] else entries_in true n (drop w j)) ])
        ≡ take (width b) j ∷ (if is_known b then commands_in n (drop (width b) j) else [])
    go true e on = ap (take (width b) j ∷◌) (ending (eqb (width b) 1) refl on)
    go false e on =
        let h = leb-false (width b) (length j) e in
        let short : length j ≤ width b = omega arith in
        let same : length j ≤ length j = omega arith in
        rw (
          take_all (width b) j short,
          take_all (length j) j same,
          drop_of_length-le j {i = width b} short,
          drop_of_length-le j {i = length j} same,
          no_entries true n,
          none_in n,
        )
        (ap (j ∷◌) (nothing (ends (length j)) (is_known b)))

-- ---- the entries of bytes are bytes

bytes_in : (n : ℕ) (l : Log Bytes) (j : Bytes) → all are_bytes l ≡ true → are_bytes j ≡ true → all are_bytes (puts l (commands_in n j)) ≡ true
unfolding commands_in
bytes_in zero l j a h = a
bytes_in (suc n) l [] a h = a
bytes_in (suc n) l (b ∷ bs) a h =
    let j = b ∷ bs in
    let w = width b in
    let more : all are_bytes (l ▹ take w j) ≡ true = rw (a, take-bytes w j h) in
    go (is_known b) (take w j) (commands_in n (drop w j)) more (bytes_in n (l ▹ take w j) (drop w j) more (drop-bytes w j h))
  where
    go : (t : Bool) (e : Bytes) (es : List Bytes) → all are_bytes (l ▹ e) ≡ true → all are_bytes (puts (l ▹ e) es) ≡ true
        → all are_bytes (puts l (e ∷ (if t then es else []))) ≡ true
    go true e es m on = on
    go false e es m on = m

pub whole_journal : WholeJournal
unfolding journal_entries
whole_journal =
    record {
      back = commands_back;
      unknown = unknown-last;
      tail = tail-last;
      demand = λ j h. demand3 (journal_entries j) (bytes_in (length j) ε j refl h);
    }
