-- What a withdraw answers and leaves, by the tests that the code makes.
use Rattle.std.specs.Prelude.{if◌then◌else◌, Err}
use Prim.Native.Nat.{ℕ, ◌+◌, ◌*◌, ◌-◌, ◌^◌, ◌≤◌, ◌<◌}
use mathlib.Core.Path.{◌≡◌, refl, sym, ap, ◌∙◌}
use mathlib.Core.Bool.{Bool, true, false, not, ◌&&◌}
use mathlib.Core.List.{List, []}
use native.Mathlib.Omega.{arith}
use lib.IntN.{ℤ}
use lib.ListN.{get_or, set}
use borrow.Rule.Slice.PartMut.{put_mid}
use Rattle.rules.specs.Bytes.{Bytes, unsigned_at}
use Rattle.rules.specs.Answers.{Result, ok, refused, Answer, Done, Refused}
use Rattle.rules.specs.Terms.{slots, good_terms}
use Rattle.rules.specs.Taking.{bit, vacate}
use Rattle.rules.specs.State.{Parts, candidates_of, parts_of, good_state, restore}
use Rattle.rules.specs.Series.{Opening, Command, Withdraw, slot_places, Series, withdrawn, step}
use Rattle.rules.specs.Record.{record_size, slot_prices_at, opening_in, parts_in, prices_in, holdings_in, open_record, bytes_of}
use Rattle.rules.specs.Book.{record_at, look, replaced, stored_answer, written}
use Rattle.rules.proofs.Place.{few_slots}
use Rattle.rules.proofs.Bits.{bit_within}
use Rattle.rules.proofs.Sound.{price_within}
use Rattle.rules.proofs.SlotPrices.{price_at_lem}
use Rattle.rules.proofs.Withdraw as W
use Rattle.core_parts.specs.States.{value_or}
use Rattle.core_parts.proofs.Checks.{checks}
use Rattle.book.specs.Looks.{Allowed}
use Rattle.book.specs.declared.refusal.Refusal.{Refusal}
use Rattle.book.specs.Refusals.{in_book, refusal_number, found_of}
use Rattle.book.proofs.Looks.{part_at, part_is, put_is, allowed-part, part_looked}
use Rattle.record_read.specs.Records.{Held, contents_from, contents_in}
use Rattle.record_write.specs.Stores.{record_over}
use Rattle.record_write.proofs.Stores.{over_whole}
use Rattle.record_test.specs.Statuses.{status_in, stored_at}
use Rattle.answers.specs.Commands.{Untested, answer_at, after_at, use_of}
use Rattle.answers.proofs.Commands.{not_used, not_open, holding, tested_as, may_look, open_priced, open_kept, held_in, held_found}
use Rattle.withdrawals.specs.Freed.{freed_parts, CanFree}

-- ---- the state

-- parts that go back into themselves, without the print of slot i
freed_kept : (p : Parts) (i price : ℕ) (now : ℤ) → parts_of (candidates_of p) ≡ p → parts_of (vacate (candidates_of p) i price now) ≡ freed_parts p i price now
unfolding parts_of candidates_of vacate
freed_kept p i price now e =
    λ j. record {
      bits = (freed_parts p i price now).bits;
      sum = (freed_parts p i price now).sum;
      links = (e j).links;
      times = (e j).times;
      prices = (e j).prices;
      fallback_time = p.fallback_time;
      fallback_price = p.fallback_price;
      window_changed = now;
      link_changed = p.link_changed;
      fallback_changed = p.fallback_changed;
    }

-- ---- the price of a slot, read from what a look gave

price_at : (book : Bytes) (s : ℕ) → Allowed book s → {r : Bytes} → r ≡ value_or [] (look book s) → {price : ℕ} (i : ℕ) → i < slot_places
    → price ≡ unsigned_at r (slot_prices_at + 8 * i) 8 → price ≡ get_or (prices_in (record_at s book)) i 0
price_at book s h l i m e = e ∙ ap (λ (x : Bytes). unsigned_at x (slot_prices_at + 8 * i) 8) (part_looked book s (sym h) l).0 ∙ sym (price_at_lem (record_at s book) i m)

-- ---- the record stored, by what was read

module _ (book : Bytes) (s i : ℕ) (k : CanFree book s i) {r : Bytes} (l : r ≡ value_or [] (look book s)) {x : Held} (of_record : x ≡ contents_in (record_at s book))
    {price : ℕ} (d : price ≡ unsigned_at r (slot_prices_at + 8 * i) 8) where
  abbrev bs : Bytes
  bs = record_at s book

  of_price : price ≡ get_or (prices_in bs) i 0
  of_price = price_at book s k.allowed l i k.one_of d

  pub can_take : (i < slot_places) × (2 ^ i ≤ x.parts.bits) × (price ≤ x.parts.sum)
  can_take = rw (of_record, of_price) (k.one_of, k.in_bits, k.in_sum)

  pub freed_put : (now : ℤ) {q : Parts} {new : Bytes} → q ≡ freed_parts x.parts i price now
      → new ≡ record_over (part_at s book) (open_record x.opening q (set (prices_in (part_at s book)) i 0))
      → put_mid (s * record_size) (s * record_size + record_size - s * record_size) book new
      ≡ replaced s (open_record (opening_in bs) (freed_parts (parts_in bs) i (get_or (prices_in bs) i 0) now) (set (prices_in bs) i 0)) book
  freed_put now f w =
      put_is s _ book
      ∙ ap (λ (y : Bytes). replaced s y book)
      (w ∙ over_whole (part_at s book) _ (allowed-part book s k.allowed)
      ∙ (λ j. open_record (of_record j).opening (f j) (set (prices_in (part_is s book j)) i 0))
      ∙ (λ j. open_record (opening_in bs) (freed_parts (of_record j).parts i (of_price j) now) (set (prices_in bs) i 0)))

-- ---- the command, by what was read

-- what a test of terms and state refuses, the book says as 11
refused_11 : (g k : Bool) (p : Parts) {n m : ℕ} → refused n ≡ (if not g then refused 12 else if not k then refused 11 else ok p) → m ≡ in_book n → (g && k ≡ false) × (m ≡ 11)
refused_11 true true p r e = cc
refused_11 true false p {n} r e = let a : n ≡ 11 = cc in (refl, rw a at e)
refused_11 false k p {n} r e = let a : n ≡ 12 = cc in (refl, rw a at e)

module _ (book : Bytes) (s : ℕ) (h : Untested book s) {r : Bytes} (l : r ≡ value_or [] (look book s)) {x : Held} (e : x ≡ contents_from r) (now : ℤ) (i : ℕ) where
  abbrev o : Opening
  o = x.opening

  abbrev p : Parts
  p = x.parts

  abbrev prices : List ℕ
  prices = prices_in (record_at s book)

  abbrev good : Bool
  good = good_terms o.terms && good_state o.terms p

  abbrev Passed : Type 0
  Passed = ok p ≡ restore o.terms p

  abbrev c : Command
  c = Withdraw now i

  -- of what is stored, and so of the book
  in_book_lem : (b : Bool) {a : Answer} {after : Bytes} → good ≡ b
      → (a ≡ stored_answer (tested_as b o p prices) c) × (after ≡ written s book (tested_as b o p prices) c) → (a ≡ answer_at book s c) × (after ≡ after_at book s c)
  in_book_lem b g (y, z) =
      let e : tested_as b o p prices ≡ stored_at book s = ap (λ (z : Bool). tested_as z o p prices) (sym g) ∙ held_found book s h l e in
      (y ∙ ap (λ (z : Result Series). stored_answer z c) e, z ∙ ap (λ (z : Result Series). written s book z c) e)

  passed_lem : Passed → good ≡ true
  passed_lem k = let (t, g) = checks o.terms p k in rw (t, g)

  pub not_passed : {n m : ℕ} → refused n ≡ restore o.terms p → m ≡ in_book n → (Refused m ≡ answer_at book s c) × (book ≡ after_at book s c)
  unfolding restore
  not_passed k f = let (g, n) = refused_11 (good_terms o.terms) (good_state o.terms p) p k f in rw n (in_book_lem false g (refl, refl))

  pub no_slot_lem : Passed → slots o.terms ≤ i → (Refused 40 ≡ answer_at book s c) × (book ≡ after_at book s c)
  no_slot_lem k m = in_book_lem true (passed_lem k) (rw (W.no_slot_lem o (holding p prices) now i m) (refl, refl))

  pub one_of_32 : Passed → i < slots o.terms → i < slot_places
  one_of_32 k m = let few = few_slots o (checks o.terms p k).0 in omega arith

  pub no_print : Passed → i < slots o.terms → bit i p.bits ≡ false → (Refused 41 ≡ answer_at book s c) × (book ≡ after_at book s c)
  unfolding candidates_of
  no_print k m b = in_book_lem true (passed_lem k) (rw (W.no_print o (holding p prices) now i m b) (refl, refl))

  pub held : x ≡ contents_in (record_at s book)
  held = held_in book s h l e

  -- the state goes back into its own parts
  kept_parts : good_state o.terms p ≡ true → parts_of (candidates_of p) ≡ p
  kept_parts = rw held (open_kept book s h)

  pub print_freed : Passed → i < slots o.terms → bit i p.bits ≡ true
      → (Done ≡ answer_at book s c)
      × (replaced s (open_record (opening_in (record_at s book)) (freed_parts (parts_in (record_at s book)) i (get_or prices i 0) now) (set prices i 0)) book ≡ after_at book s c)
  unfolding withdrawn bytes_of
  print_freed k m b =
      let price = get_or prices i 0 in
      let kept = freed_kept p i price now (kept_parts (checks o.terms p k).1) in
      let set_bit : bit i (candidates_of p).bits ≡ true = unfold candidates_of in b in
      in_book_lem true (passed_lem k)
      (rw (W.print_freed o (holding p prices) now i m set_bit) (
        refl,
        (λ j. replaced s (open_record (sym held j).opening (freed_parts (sym held j).parts i price now) (set prices i 0)) book)
            ∙ ap (λ (y : Parts). replaced s (open_record o y (set prices i 0)) book) (sym kept),
      ))

  pub can_free : Passed → i < slots o.terms → bit i p.bits ≡ true → CanFree book s i
  unfolding candidates_of
  can_free k m b =
      let one = one_of_32 k m in
      record {
        allowed = may_look book s h;
        one_of = one;
        in_bits = rw held at (bit_within p.bits i b);
        in_sum = price_within (holdings_in (record_at s book)) (open_priced book s h) i one;
      }

-- ---- a withdraw from a series that is not open

pub unused_told : (book : Bytes) (s : ℕ) (now : ℤ) (i : ℕ) (r : Refusal) → found_of {A = Unit} (Err r) ≡ use_of (status_in (look book s)) → Refused (refusal_number r) ≡ answer_at book s (Withdraw now i)
unfolding step
unused_told book s now i r h = (not_used book s (Withdraw now i) refl (λ r o h a at. refl) (refusal_number r) h).0

pub unused_left : (book : Bytes) (s : ℕ) (now : ℤ) (i : ℕ) → (use_of (status_in (look book s)) ≡ ok tt → ⊥) → after_at book s (Withdraw now i) ≡ book
unfolding step
unused_left book s now i h = not_open book s (Withdraw now i) refl (λ r o h a at. refl) h
