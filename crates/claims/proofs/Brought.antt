-- What holds of the books that members bring in.
use Rattle.std.specs.Prelude.{if◌then◌else◌, Option, None, Some}
use Prim.Native.Nat.{ℕ, ◌*◌, ◌<◌, ◌≤◌}
use mathlib.Core.Path.{◌≡◌, refl, sym, ap, ◌∙◌}
use mathlib.Core.Bool.{Bool, true, false, ◌&&◌}
use mathlib.Core.List.{List, ◌∷◌, ◌++◌}
use native.Mathlib.Omega.{arith}
use lib.ListN.{length, drop}
use lib.Dec.{ltb, eqb}
use borrow.Author.Tests.{le-leb, lt-leb, ne_eqb}
use Rattle.rules.proofs.Bools.{both, every_more}
use Rattle.rules.proofs.Bytes.{drop-bytes, take-bytes}
use Rattle.rules.proofs.Fields.{command_fits}
use Rattle.rules.proofs.Leaves.{step-leaves}
use Rattle.rules.proofs.Read.{stored_is, read_sound, read_fits}
use Rattle.rules.specs.Log.{maybe, every}
use Rattle.rules.specs.Bytes.{Bytes, are_bytes, all_zero, unsigned_at}
use Rattle.rules.specs.Answers.{ok, Refused}
use Rattle.rules.specs.Terms.{terms_tests, good_terms}
use Rattle.rules.specs.State.{restore_tests, good_state}
use Rattle.rules.specs.Series.{Command, Series, step, changed, after}
use Rattle.rules.specs.Brought.{brought_tests, left_by_prints}
use Rattle.rules.specs.Record.{record_size, series_count, book_size, bytes_of, good_prices, opening_in, parts_in, holdings_in, tag_in, body_tests, open_tests, fixed_tests, acceptable, stored}
use Rattle.rules.specs.Entries.{command, entry}
use Rattle.rules.specs.Book.{record_at, answer_in, answer_to, after_in, book_after}
use Rattle.claims.specs.Brought.{conditions_and, conditions, Brought}
use Rattle.claims.proofs.Entries.{entry-fits}
use Rattle.claims.proofs.Kept.{record-after}

-- ---- the conditions

module _ (bs : Bytes) where
  body_and : (rest : List Bool) → every (body_tests bs) && every rest ≡ every (conditions_and bs rest)
  unfolding good_terms good_state left_by_prints
  body_and rest =
      let o = opening_in bs in
      let t = terms_tests o.terms in
      let r = restore_tests o.terms (parts_in bs) in
      let b = brought_tests o (holdings_in bs) in
      let p = eqb (unsigned_at bs 37 3) 0 in
      let g = good_prices (holdings_in bs) in
      let more : every (r ++ (p ∷ g ∷ (b ++ rest))) ≡ every r && (p && (g && (every b && every rest))) =
      every_more r (p ∷ g ∷ (b ++ rest)) ∙ ap (λ (x : Bool). every r && (p && (g && x))) (every_more b rest) in
      regroup (every t) (every r) p g (every b) (every rest) ∙ sym (every_more t (r ++ (p ∷ g ∷ (b ++ rest))) ∙ ap (λ (x : Bool). every t && x) more)
    where
      regroup : (t r p g b x : Bool) → (t && (r && (p && (g && (b && true))))) && x ≡ t && (r && (p && (g && (b && x))))
      regroup false r p g b x = refl
      regroup true false p g b x = refl
      regroup true true false g b x = refl
      regroup true true true false b x = refl
      regroup true true true true false x = refl
      regroup true true true true true x = refl

  all_tested : 0 < tag_in bs → tag_in bs ≤ 3 → acceptable bs ≡ every (conditions bs)
  unfolding acceptable
  all_tested l m = rw (ne_eqb (tag_in bs) 0 (omega arith), le-leb (tag_in bs) 3 m) (go (eqb (tag_in bs) 1))
    where
      go : (b : Bool) → (if b then every (body_tests bs) && every (open_tests bs) else every (body_tests bs) && every (fixed_tests bs))
          ≡ every (conditions_and bs (if b then open_tests bs else fixed_tests bs))
      go true = body_and (open_tests bs)
      go false = body_and (fixed_tests bs)

  zeros-tested : tag_in bs ≡ 0 → acceptable bs ≡ all_zero bs
  unfolding acceptable
  zeros-tested e = rw e

  above-refused : 3 < tag_in bs → acceptable bs ≡ false
  unfolding acceptable
  above-refused l = rw (ne_eqb (tag_in bs) 0 (omega arith), ne_eqb (tag_in bs) 1 (omega arith), lt-leb (tag_in bs) 3 l)

-- ---- a command on a book

module _ (book : Bytes) (len : length book ≡ book_size) (e : Bytes) (s : ℕ) (c : Command) (h : entry e ≡ command s c) where
  answer_at_lem : answer_to book e ≡ answer_in book (command s c)
  unfolding answer_to
  answer_at_lem = rw (len, h)

  after_at_lem : book_after book e ≡ after_in book (command s c)
  unfolding book_after
  after_at_lem = rw (len, h)

  all-refused : acceptable (record_at s book) ≡ false → (answer_to book e ≡ Refused 11) × (book_after book e ≡ book)
  unfolding stored
  all-refused n = (answer_at_lem ∙ rw n, after_at_lem ∙ rw n)

  module _ (ab : are_bytes book ≡ true) (are : are_bytes e ≡ true) (held : Series) (there : stored (record_at s book) ≡ ok held) where
    bytes : are_bytes (record_at s book) ≡ true
    unfolding record_at
    bytes = take-bytes record_size (drop (s * record_size) book) (drop-bytes (s * record_size) book ab)

    still_read : stored (record_at s (book_after book e)) ≡ ok (after held c)
    still_read =
        let (_, fc) = both (ltb s series_count) (command_fits c) (rw h at (entry-fits e are)) in
        ap stored (record-after book e s c held len h there) ∙ go fc (changed (step held c)) refl
      where
        go : command_fits c ≡ true → (x : Option Series) → changed (step held c) ≡ x → stored (maybe (record_at s book) bytes_of x) ≡ ok (maybe held (λ next. next) x)
        go fc None k = there
        go fc (Some next) k =
            let (a, same) = stored_is (record_at s book) held there in
            let fits = rw same at (read_fits (record_at s book) bytes a) in
            let sound = rw same at (read_sound (record_at s book) a) in
            step-leaves held c fits sound fc next k

pub brought : Brought
brought =
    record {
      empty = zeros-tested;
      tested = all_tested;
      above = above-refused;
      spoilt = λ book e len s c h n. all-refused book len e s c h n;
      stays = λ book e ab are len s c h held there. still_read book len e s c h ab are held there;
    }
