use mathlib.Core.Path.{◌≡◌}
use lib.ListN.{length}
use Rattle.std.specs.Option.{option_map}
use Rattle.answers.specs.Answers.{answer_of}
use Rattle.rules.specs.Record.{book_size}
use Rattle.rules.specs.Book.{run}
use Rattle.replay.specs.Entries.{start_of, entries_to, last_answer}
use Rattle.replay.proofs.replay.Given as goal

abbrev pub invariant-loop-to : goal.invariant-loop-to
invariant-loop-to l =
    (length l.book ≡ book_size) × (l.from ≡ start_of l.ends l.to-index)
    × (l.book ≡ run (entries_to l.bytes l.ends l.to-index)) × (option_map answer_of l.last ≡ last_answer (entries_to l.bytes l.ends l.to-index))
