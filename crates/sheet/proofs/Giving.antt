-- A part given to the book, and what is left of it moved to the front: what a reader does with it.
use Prim.Native.Nat.{ℕ, ◌+◌, ◌*◌, ◌-◌, ◌≤◌, ◌<◌}
use mathlib.Core.Path.{◌≡◌, refl, sym, ap, ◌∙◌}
use mathlib.Core.Bool.{Bool, false}
use native.Mathlib.Omega.{arith}
use lib.ListN.{length, take, drop, length-drop}
use lib.Seq.{length-take-le}
use Rattle.rules.specs.Bytes.{Bytes}
use Rattle.lines.specs.Lines.{line_max}
use Rattle.journal.specs.declared.feed.Fed.{Fed}
use Rattle.journal.specs.Feed.{given}
use Rattle.journal.specs.Parts.{on, reads}
use Rattle.journal.proofs.Given.{Feeds}
use Rattle.journal.proofs.Fits.{fed_taken, fed_left}
use Rattle.journal.proofs.Parts.{fed_reads}
use Rattle.std.specs.List.{copy_within}
use Rattle.std.proofs.lemmas.List.Edits.{take-paste}
use Rattle.sheet.specs.Holds.{Holds}
use Rattle.rules.proofs.Bytes.{drop-take}

module _ (last : Bool) (book part out : Bytes) (end : ℕ) (inside : end ≤ length part) where
  count : length (take end part) ≡ end
  count = length-take-le end part inside

  module _ {f : Fed} {book₁ out₁ : Bytes} (fed : Feeds (given (length out) book last (take end part)) book out f book₁ out₁) where
    pub taken : f.taken ≤ end
    taken = omega (arith, count, fed_taken last (take end part) book out fed)

    left : {part₁ : Bytes} → part₁ ≡ copy_within part f.taken end 0 → take (end - f.taken) part₁ ≡ drop f.taken (take end part)
    left {part₁} p =
        let n : end - f.taken ≤ length (drop f.taken part) = omega (arith, length-drop f.taken part) in
        let z : 0 + (end - f.taken) ≡ end - f.taken = omega arith in
        rw p (ap (λ (k : ℕ). take k (copy_within part f.taken end 0)) (sym z) ∙ take-paste part 0 (drop f.taken part) (end - f.taken) (omega arith) n) ∙ sym (drop-take f.taken end part taken)

    module _ (a_part : length part ≡ 65536) (all_lines : length out ≡ 655360) where
      room : line_max * (length (take end part) + 9) ≤ 10 * length out
      room = omega (arith, count)

      pub short : last ≡ false → f.ended ≡ false → end - f.taken < 46
      short l n = omega (arith, count, fed_left last (take end part) book out fed l n room)

      pub holds : {part₁ : Bytes} → part₁ ≡ copy_within part f.taken end 0
          → Holds (record { written = f.written; held = end - f.taken; ended = f.ended }) book₁ part₁ out₁ (reads last (on book) (take end part))
      holds {part₁} p =
          rw (fed_reads last (on book) (take end part) out refl room fed) (record { booked = refl; held = left p; lines = refl; ended = refl })

      -- the same of bytes that are moved from a place which is where the commands end
      pub holds_from : {from : ℕ} {part₁ : Bytes} → part₁ ≡ copy_within part from end 0 → from ≡ f.taken
          → Holds (record { written = f.written; held = end - from; ended = f.ended }) book₁ part₁ out₁ (reads last (on book) (take end part))
      holds_from p e = rw e (holds (rw e at p))
