-- An entry by its first byte, and the series of its command.
use Rattle.std.specs.Prelude.{if◌then◌else◌}
use Prim.Native.Nat.{ℕ, ◌≤◌, ◌<◌}
use mathlib.Core.Path.{◌≡◌, refl, sym, ap}
use mathlib.Core.Bool.{Bool, true, false}
use mathlib.Core.List.{[], ◌∷◌}
use native.Mathlib.Omega.{arith}
use lib.ListN.{length, get_or}
use lib.Dec.{ltb, eqb}
use borrow.Author.Tests.{ltb-true, ne_eqb}
use Rattle.rules.specs.Bytes.{Bytes, unsigned_at}
use Rattle.rules.specs.Series.{Command, Open, Offer, Ask, Fix, Withdraw}
use Rattle.rules.specs.Record.{series_count}
use Rattle.rules.specs.Entries.{Entry, no_command, command, opening_at, quote_at, now_at, slot_at, width, of_width, entry}
use Rattle.commands.specs.Kinds.{byte_of, command_at}
use Rattle.commands.specs.declared.kind.Kind.{Kind}
use Rattle.commands.specs.declared.kind.Kind.TheVariants as K

-- the entry by the tests of its first byte
abbrev tested : Bytes → Bool → Bool → Bool → Bool → Bool → Entry
tested bs one two three four six =
    if one then of_width 38 bs (Open (opening_at bs)) else
    if two then of_width 46 bs (Offer (quote_at bs) (now_at bs)) else
    if three then of_width 10 bs (Ask (now_at bs)) else
    if four then of_width 10 bs (Fix (now_at bs)) else
    if six then of_width 11 bs (Withdraw (now_at bs) (slot_at bs)) else
    no_command 32

-- by the byte itself
abbrev pub from : Bytes → ℕ → Entry
from bs b = tested bs (eqb b 0x01) (eqb b 0x02) (eqb b 0x03) (eqb b 0x04) (eqb b 0x06)

pub entry_none : (bs : Bytes) → length bs ≡ 0 → no_command 33 ≡ entry bs
unfolding entry
entry_none [] h = refl
entry_none (b ∷ bs) h = absurd (omega arith)

pub entry-from : (bs : Bytes) {b : ℕ} → 0 < length bs → get_or bs 0 0 ≡ b → from bs b ≡ entry bs
unfolding entry
entry-from [] h e = absurd (omega arith)
entry-from (a ∷ bs) h e = sym (ap (from (a ∷ bs)) e)

-- by the kind that its first byte says
pub entry_of_kind : (k : Kind) (bs : Bytes) → 1 ≤ length bs → byte_of k ≡ get_or bs 0 0 → of_width (width (byte_of k)) bs (command_at k bs) ≡ entry bs
entry_of_kind K.Open bs h e = entry-from bs (omega arith) (sym e)
entry_of_kind K.Offer bs h e = entry-from bs (omega arith) (sym e)
entry_of_kind K.Ask bs h e = entry-from bs (omega arith) (sym e)
entry_of_kind K.Fix bs h e = entry-from bs (omega arith) (sym e)
entry_of_kind K.Withdraw bs h e = entry-from bs (omega arith) (sym e)

-- or where it says none
pub entry_unknown : (bs : Bytes) → 1 ≤ length bs → ((k : Kind) → byte_of k ≡ get_or bs 0 0 → ⊥) → no_command 32 ≡ entry bs
entry_unknown bs h none =
    let b = get_or bs 0 0 in
    simp (
      ne_eqb b 1 (λ e. none K.Open (sym e)),
      ne_eqb b 2 (λ e. none K.Offer (sym e)),
      ne_eqb b 3 (λ e. none K.Ask (sym e)),
      ne_eqb b 4 (λ e. none K.Fix (sym e)),
      ne_eqb b 6 (λ e. none K.Withdraw (sym e)),
    )
    at (entry-from bs (omega arith) refl)

-- no command, no width of its own
pub unknown_width : (b : ℕ) → ((k : Kind) → byte_of k ≡ b → ⊥) → width b ≡ 1
unknown_width b none =
    simp (
      ne_eqb b 1 (λ e. none K.Open (sym e)),
      ne_eqb b 2 (λ e. none K.Offer (sym e)),
      ne_eqb b 3 (λ e. none K.Ask (sym e)),
      ne_eqb b 4 (λ e. none K.Fix (sym e)),
      ne_eqb b 6 (λ e. none K.Withdraw (sym e)),
    )

-- ---- the series of a command

not_a_command : {n s : ℕ} {c : Command} → no_command n ≡ command s c → s < series_count
not_a_command e = let z : ◌≡◌ {A = ℕ} 0 1 = cc in omega arith

wide_below : (width : ℕ) (bs : Bytes) (d : Command) {s : ℕ} {c : Command} → of_width width bs d ≡ command s c → s < series_count
wide_below width bs d {s} {c} e = go (eqb (length bs) width) (ltb (unsigned_at bs 1 1) series_count) refl e
  where
    go : (w b : Bool) → ltb (unsigned_at bs 1 1) series_count ≡ b
        → (if w then if b then command (unsigned_at bs 1 1) d else no_command 34 else no_command 33) ≡ command s c → s < series_count
    go true true h e = let same : unsigned_at bs 1 1 ≡ s = cc in omega (arith, ltb-true (unsigned_at bs 1 1) series_count h)
    go true false h e = not_a_command e
    go false b h e = not_a_command e

pub entry-below : (bs : Bytes) (s : ℕ) (c : Command) → entry bs ≡ command s c → s < series_count
unfolding entry
entry-below [] s c e = not_a_command e
entry-below (b ∷ bs) s c e = go (b ∷ bs) (eqb b 0x01) (eqb b 0x02) (eqb b 0x03) (eqb b 0x04) (eqb b 0x06) e
  where
    go : (l : Bytes) (one two three four six : Bool) → tested l one two three four six ≡ command s c → s < series_count
    go l true two three four six e = wide_below 38 l (Open (opening_at l)) e
    go l false true three four six e = wide_below 46 l (Offer (quote_at l) (now_at l)) e
    go l false false true four six e = wide_below 10 l (Ask (now_at l)) e
    go l false false false true six e = wide_below 10 l (Fix (now_at l)) e
    go l false false false false true e = wide_below 11 l (Withdraw (now_at l) (slot_at l)) e
    go l false false false false false e = not_a_command e
