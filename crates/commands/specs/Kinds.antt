-- The kinds of commands, by the byte that an entry begins with.
use Rattle.std.specs.Prelude.{ℕ, ◌≡◌, Result, Ok, Err}
use Rattle.rules.specs.Bytes.{Bytes}
use Rattle.rules.specs.Series as S
use Rattle.rules.specs.Entries.{opening_at, quote_at, now_at, slot_at}
use Rattle.book.specs.Refusals.{refusal_number}
use Rattle.book.specs.declared.refusal.Refusal.{Refusal}
use Rattle.commands.specs.declared.kind.Kind.{Kind}
use Rattle.commands.specs.declared.kind.Kind.TheVariants as K

-- the byte of a kind
abbrev pub byte_of : Kind → ℕ
byte_of K.Open = 0x01
byte_of K.Offer = 0x02
byte_of K.Ask = 0x03
byte_of K.Fix = 0x04
byte_of K.Withdraw = 0x06

-- what a byte is read as: the kind that this is the byte of, or 32 where it is of none
abbrev pub IsKind : ℕ → Result Kind Refusal → Type 0
IsKind b (Ok k) = byte_of k ≡ b
IsKind b (Err r) = ((k : Kind) → byte_of k ≡ b → ⊥) × (refusal_number r ≡ 32)

-- the command that an entry of a kind is
abbrev pub command_at : Kind → Bytes → S.Command
command_at K.Open e = S.Open (opening_at e)
command_at K.Offer e = S.Offer (quote_at e) (now_at e)
command_at K.Ask e = S.Ask (now_at e)
command_at K.Fix e = S.Fix (now_at e)
command_at K.Withdraw e = S.Withdraw (now_at e) (slot_at e)
