-- A journal may come in parts. A command may be cut by the end of a part, and only the last part has a short tail.
use Rattle.std.specs.Prelude.{ℕ, zero, suc, Bool, Option, Some, None, List, [], ◌∷◌, length, take, drop, leb, eqb, if◌then◌else◌}
use Rattle.rules.specs.Bytes.{Bytes}
use Rattle.rules.specs.Entries.{width}

-- the bytes of the first entry of a part, if it has one
unfoldable pub first_width : Bool → Bytes → Option ℕ
first_width last [] = None
first_width last (b ∷ bs) =
    let j = b ∷ bs in
    if leb (width b) (length j) then Some (width b) else if last then Some (length j) else None

-- no command has one byte: it is an unknown one, or a short tail, and no entry follows it
abbrev pub ends : ℕ → Bool
ends w = eqb w 1

-- the entries of a part of at most n bytes
unfoldable pub entries_in : Bool → ℕ → Bytes → List Bytes
entries_in last zero j = []
entries_in last (suc n) j =
    elim (first_width last j) [ None ↦ [] | Some w ↦ take w j ∷ (if ends w then [] else entries_in last n (drop w j)) ]

abbrev pub entries_at : Bool → Bytes → List Bytes
entries_at last j = entries_in last (length j) j
