-- A fixed record written over the record's own part of the book.
use Prim.Native.Nat.{ℕ, ◌+◌, ◌*◌, ◌-◌}
use mathlib.Core.Path.{◌≡◌, sym, ap, ◌∙◌}
use mathlib.Core.List.{[]}
use borrow.Rule.Slice.PartMut.{put_mid}
use lib.IntN.{ℤ}
use mir.Syntax.{w64}
use mir.Val.{SFits, to_z, of_z}
use mir.Facts.{to_z-of_z}
use Rattle.rules.specs.Bytes.{Bytes}
use Rattle.rules.specs.Answers.{Answer}
use Rattle.rules.specs.Decision.{voted}
use Rattle.rules.specs.Record.{record_size, opening_in, parts_in, prices_in, fixed_record}
use Rattle.rules.specs.Book.{record_at, look, replaced}
use Rattle.core_parts.specs.States.{value_or}
use Rattle.book.specs.Looks.{Allowed}
use Rattle.book.proofs.Looks.{part_at, part_is, put_is, allowed-part, record-whole}
use Rattle.record_read.specs.Records.{Held, contents_from}
use Rattle.record_read.proofs.Records.{contents_whole}
use Rattle.record_write.specs.Stores.{record_over}
use Rattle.record_write.proofs.Stores.{over_whole}

module _ (book : Bytes) (s : ℕ) (h : Allowed book s) (a : Answer) (t : ℤ) (f : SFits w64 t) where
  pub fixed_over : {r part : Bytes} {x : Held} → r ≡ value_or [] (look book s) → x ≡ contents_from r
      → part ≡ record_over (part_at s book) (fixed_record voted x.opening x.parts (prices_in (part_at s book)) a (to_z w64 (of_z w64 t)))
      → put_mid (s * record_size) (s * record_size + record_size - s * record_size) book part
      ≡ replaced s (fixed_record voted (opening_in (record_at s book)) (parts_in (record_at s book)) (prices_in (record_at s book)) a t) book
  fixed_over {part} l e w =
      let k = e ∙ ap contents_from (l ∙ ap (value_or []) h) ∙ contents_whole (record_at s book) (record-whole book s (sym h)) in
      put_is s part book
      ∙ ap (λ (x : Bytes). replaced s x book)
      ((simp to_z-of_z at w) ∙ over_whole (part_at s book) _ (allowed-part book s h) ∙ (λ i. fixed_record voted (k i).opening (k i).parts (prices_in (part_is s book i)) a t))
