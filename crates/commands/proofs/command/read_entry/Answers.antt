use native.Mathlib.Omega.{arith}
use mathlib.Core.Path.{◌≡◌, ap, ◌∙◌}
use borrow.Author.Rules.{rules}
use Rattle.rules.specs.Entries.{no_command}
use Rattle.book.specs.Refusals.{refusal_number}
use Rattle.commands.specs.Entries.{entry_of}
use Rattle.commands.proofs.Entries.{entry_none, entry_of_kind, entry_unknown}
use Rattle.commands.proofs.command.read_entry.Goals as goal

pub returns-in_default : goal.returns-in_default
returns-in_default c = entry_none c.args.bytes.now (omega arith)

pub returns-in_err-try_from : goal.returns-in_err-try_from
returns-in_err-try_from c =
    let e : entry_of c.from_residual.result ≡ no_command (refusal_number c.in_err-try_from.field-0.0) = search rules in
    e ∙ ap no_command c.in_err-try_from.ensures.1 ∙ entry_unknown c.args.bytes.now (omega arith) c.in_err-try_from.ensures.0

pub returns : goal.returns
returns c = c.read_command.ensures ∙ entry_of_kind c.in_ok-try_from.field-0 c.args.bytes.now (omega arith) c.in_ok-try_from.ensures
