-- Entries, read as the rules' entries.
use Rattle.std.specs.Prelude.{ℕ, Result, Ok, Err}
use Rattle.rules.specs.Series as S
use Rattle.rules.specs.Entries as E
use Rattle.core_prices.specs.Prints.{quote_of}
use Rattle.book.specs.Refusals.{refusal_number}
use Rattle.book.specs.declared.refusal.Refusal.{Refusal}
use Rattle.commands.specs.declared.command.Command.{Command}
use Rattle.commands.specs.declared.command.Command.TheVariants as N
use Rattle.record_read.specs.Records.{opening_of}

abbrev pub command_of : Command → E.Entry
command_of (N.Open series opening) = E.command series (S.Open (opening_of opening))
command_of (N.Offer series quote now) = E.command series (S.Offer (quote_of quote) now)
command_of (N.Ask series now) = E.command series (S.Ask now)
command_of (N.Fix series now) = E.command series (S.Fix now)
command_of (N.Withdraw series now slot) = E.command series (S.Withdraw now slot)

abbrev pub entry_of : Result Command Refusal → E.Entry
entry_of (Ok c) = command_of c
entry_of (Err r) = E.no_command (refusal_number r)

-- the entry of a command, by its series
abbrev pub series_result_of : Result ℕ Refusal → S.Command → E.Entry
series_result_of (Ok series) c = E.command series c
series_result_of (Err r) c = E.no_command (refusal_number r)
