-- An entry of bytes is a command that fits its fields, for one of the 64 series; and the ledgers after one more entry.
use Rattle.std.specs.Prelude.{if◌then◌else◌, None, Some}
use Prim.Native.Nat.{ℕ}
use mathlib.Core.Path.{◌≡◌, refl, fun_ext}
use mathlib.Core.Bool.{Bool, true, false, ◌&&◌}
use mathlib.Core.List.{[], ◌∷◌}
use lib.ListN.{length}
use lib.Dec.{ltb, eqb}
use Rattle.rules.proofs.Bools.{both, every_at}
use Rattle.rules.proofs.Logs.{all_mono, all-put}
use Rattle.rules.proofs.Bytes.{unsigned_fits, signed-fits_8, signed-fits_1}
use Rattle.rules.proofs.Series.{in_range, after-ledger}
use Rattle.rules.proofs.Fields.{command_fits}
use Rattle.rules.specs.Log.{Log, ε, ◌▹◌, maybe, put, all}
use Rattle.rules.specs.Bytes.{Bytes, are_bytes, unsigned_at, fits_unsigned, fits}
use Rattle.rules.specs.Series.{Command, Open, Offer, Ask, Fix, Withdraw, Series, after}
use Rattle.rules.specs.Record.{series_count, opening_fits}
use Rattle.rules.specs.Entries.{Entry, no_command, command, opening_at, quote_at, now_at, slot_at, of_width, entry}
use Rattle.rules.specs.Ledger.{ledger, command_to, commands_to, ledgers}

-- ---- commands

opening_at_fits : (bs : Bytes) → are_bytes bs ≡ true → opening_fits (opening_at bs) ≡ true
unfolding opening_fits opening_at
opening_at_fits bs h =
    rw (
      u 2 4,
      u 6 4,
      u 10 2,
      u 12 2,
      u 14 1,
      u 15 4,
      u 19 4,
      u 23 4,
      signed-fits_1 bs 27,
      u 28 2,
      signed-fits_8 bs 30,
    )
  where
    u : (i n : ℕ) → fits_unsigned n (unsigned_at bs i n) ≡ true
    u i n = unsigned_fits bs i n h

offer_at_fits : (bs : Bytes) → command_fits (Offer (quote_at bs) (now_at bs)) ≡ true
unfolding quote_at
offer_at_fits bs = rw (signed-fits_8 bs 10, signed-fits_8 bs 30, signed-fits_8 bs 2)

-- ---- entries

-- an entry that is no command, or a command of one of the 64 series that passes the test
abbrev pub holds_of : (Command → Bool) → Entry → Bool
holds_of P (no_command r) = true
holds_of P (command s c) = ltb s series_count && P c

module _ (P : Command → Bool) where
  width_holds : (w : ℕ) (bs : Bytes) (c : Command) → P c ≡ true → holds_of P (of_width w bs c) ≡ true
  width_holds w bs c h = go (eqb (length bs) w) (ltb (unsigned_at bs 1 1) series_count) refl
    where
      go : (a b : Bool) → ltb (unsigned_at bs 1 1) series_count ≡ b
          → holds_of P (if a then if b then command (unsigned_at bs 1 1) c else no_command 34 else no_command 33) ≡ true
      go true true e = rw (e, h)
      go true false e = refl
      go false b e = refl

  -- what holds of each command that the bytes could be holds of the entry
  entry_holds : (e : Bytes) → P (Open (opening_at e)) ≡ true → P (Offer (quote_at e) (now_at e)) ≡ true → P (Ask (now_at e)) ≡ true → P (Fix (now_at e)) ≡ true
      → P (Withdraw (now_at e) (slot_at e)) ≡ true
      → holds_of P (entry e) ≡ true
  unfolding entry
  entry_holds [] o f a x w = refl
  entry_holds (b ∷ bs) o f a x w = go (eqb b 1) (eqb b 2) (eqb b 3) (eqb b 4) (eqb b 6)
    where
      e : Bytes
      e = b ∷ bs

      go : (b₁ b₂ b₃ b₄ b₆ : Bool)
          → holds_of P (if b₁ then of_width 38 e (Open (opening_at e)) else if b₂ then of_width 46 e (Offer (quote_at e) (now_at e)) else
          if b₃ then of_width 10 e (Ask (now_at e)) else if b₄ then of_width 10 e (Fix (now_at e)) else if b₆ then of_width 11 e (Withdraw (now_at e) (slot_at e)) else no_command 32) ≡ true
      go true b₂ b₃ b₄ b₆ = width_holds 38 e (Open (opening_at e)) o
      go false true b₃ b₄ b₆ = width_holds 46 e (Offer (quote_at e) (now_at e)) f
      go false false true b₄ b₆ = width_holds 10 e (Ask (now_at e)) a
      go false false false true b₆ = width_holds 10 e (Fix (now_at e)) x
      go false false false false true = width_holds 11 e (Withdraw (now_at e) (slot_at e)) w
      go false false false false false = refl

abbrev pub entry_fits : Entry → Bool
entry_fits n = holds_of command_fits n

pub entry-fits : (e : Bytes) → are_bytes e ≡ true → entry_fits (entry e) ≡ true
entry-fits e h = entry_holds command_fits e (opening_at_fits e h) (offer_at_fits e) (signed-fits_8 e 2) (signed-fits_8 e 2) (signed-fits_8 e 2)

-- a command is one of the 64 series
pub entry-series : (e : Bytes) → holds_of (λ c. true) (entry e) ≡ true
entry-series e = entry_holds (λ c. true) e refl refl refl refl refl

command_to_fits : (s : ℕ) (n : Entry) → entry_fits n ≡ true → maybe true command_fits (command_to s n) ≡ true
command_to_fits s (no_command r) h = refl
command_to_fits s (command i c) h = go (eqb s i)
  where
    go : (b : Bool) → maybe true command_fits (if b then Some c else None) ≡ true
    go true = (both (ltb i series_count) (command_fits c) h).1
    go false = refl

pub commands_fit : (s : ℕ) (l : Log Bytes) → all are_bytes l ≡ true → all command_fits (commands_to s l) ≡ true
unfolding commands_to
commands_fit s ε h = refl
commands_fit s (l ▹ e) h =
    let (a, b) = both (all are_bytes l) (are_bytes e) h in
    all-put command_fits (commands_to s l) (command_to s (entry e)) (commands_fit s l a) (command_to_fits s (entry e) (entry-fits e b))

-- ---- one more entry

pub fits_in_range : (c : Command) → command_fits c ≡ true → in_range c ≡ true
fits_in_range (Open o) h = refl
fits_in_range (Offer q now) h = every_at (fits q.price ∷ fits q.published ∷ fits now ∷ []) 0 h
fits_in_range (Ask now) h = refl
fits_in_range (Fix now) h = refl
fits_in_range (Withdraw now i) h = refl

-- the series after an entry
abbrev pub series_after : (ℕ → Series) → Entry → ℕ → Series
series_after b (no_command r) s = b s
series_after b (command i c) s = if eqb s i then after (b s) c else b s

pub ledgers_more : (l : Log Bytes) (e : Bytes) → all are_bytes l ≡ true → are_bytes e ≡ true → series_after (ledgers l) (entry e) ≡ ledgers (l ▹ e)
unfolding ledgers commands_to
ledgers_more l e h k = fun_ext (λ s. go s (entry e) (entry-fits e k))
  where
    go : (s : ℕ) (n : Entry) → entry_fits n ≡ true → series_after (ledgers l) n s ≡ ledger (put (commands_to s l) (command_to s n))
    go s (no_command r) f = refl
    go s (command i c) f = at (eqb s i)
      where
        at : (b : Bool) → (if b then after (ledger (commands_to s l)) c else ledger (commands_to s l)) ≡ ledger (put (commands_to s l) (if b then Some c else None))
        at true =
            after-ledger (commands_to s l) (all_mono command_fits in_range fits_in_range (commands_to s l) (commands_fit s l h)) c
            (fits_in_range c (both (ltb i series_count) (command_fits c) f).1)
        at false = refl
