-- The line of an entry's answer, and where it is written.
use Rattle.std.specs.Prelude.{if◌then◌else◌, Option, Some, None, IfSome}
use Rattle.std.proofs.lemmas.Option.{same_Some}
use Prim.Native.Nat.{ℕ, ◌+◌, ◌-◌, ◌≤◌}
use mathlib.Core.Path.{◌≡◌, sym, ap, ◌∙◌}
use mathlib.Core.List.{[], ◌++◌, append-nil, append_assoc}
use native.Mathlib.Omega.{arith}
use lib.Dec.{ltb}
use lib.ListN.{length, take, drop, length-drop, drop_of_length-le}
use lib.Seq.{sets, sets-eq, take_all, drop-drop}
use borrow.Author.Tests.{le-ltb}
use borrow.Rule.Slice.PartMut.{put_mid}
use Rattle.rules.specs.Bytes.{Bytes, unsigned_at}
use Rattle.rules.specs.Answers.{Answer}
use Rattle.rules.specs.Book.{answer_to}
use Rattle.rules.specs.Lines.{line}
use Rattle.rules.specs.Journal.{line_to}
use Rattle.lines.specs.Lines.{line_max}

line_to_lem : (book e : Bytes) {s : ℕ} {a : Answer} → s ≡ unsigned_at e 1 1 → a ≡ answer_to book e → line s a ≡ line_to book e
unfolding line_to
line_to_lem book e p q = cc

-- ---- a line written from an index on

module _ (out : Bytes) (at : ℕ) where
  -- what lies there, as the borrow checker says it
  abbrev rest : Bytes
  rest = take (length out - at) (drop at out)

  rest_is : rest ≡ drop at out
  rest_is = take_all (length out - at) (drop at out) (omega (arith, length-drop at out))

  nothing_after : drop (length out - at) (drop at out) ≡ []
  nothing_after = drop_of_length-le (drop at out) {i = length out - at} (omega (arith, length-drop at out))

  -- a text at its front
  pub put_front : (text : Bytes) → at + length text ≤ length out → put_mid at (length out - at) out (sets rest 0 text) ≡ sets out at text
  put_front text h =
      let n : at + (0 + length text) ≡ at + length text = omega arith in
      rw (rest_is, sets-eq text (drop at out) 0 (omega (arith, length-drop at out)), sets-eq text out at h, nothing_after, drop-drop (0 + length text) at out, n)
      (ap (take at out ++◌) (append-nil (text ++ drop (at + length text) out)) ∙ sym (append_assoc (take at out) text (drop (at + length text) out)))

  -- a line at its front, of a call that has room for the longest
  pub given_at : (text : Bytes) {m new : Bytes} {r : ℕ} → at + line_max ≤ length out → (r ≡ length text) × (m ≡ sets rest 0 text) × (length text ≤ line_max) → new ≡ put_mid at (length out - at) out m
      → (at + r ≡ at + length text) × (new ≡ sets out at text) × (length text ≤ line_max)
  given_at text room (n, w, short) p = (ap (at +◌) n, p ∙ rw w (put_front text (omega (arith, short))), short)

-- ---- an entry's line, by `write_line`

pub line_at : (out book e : Bytes) {s r : ℕ} {a : Answer} {o : Option ℕ} {m : Bytes} → line_max ≤ length out → s ≡ unsigned_at e 1 1 → a ≡ answer_to book e
    → ((o ≡ (if ltb (length out) line_max then None else Some (length (line s a)))) × (m ≡ (if ltb (length out) line_max then out else sets out 0 (line s a)))) × IfSome o (λ n. n ≤ line_max) → o ≡ Some r
    → (r ≡ length (line_to book e)) × (m ≡ sets out 0 (line_to book e)) × (length (line_to book e) ≤ line_max)
line_at out book e {r = r} room p q w got =
    let w = rw (le-ltb (length out) line_max room, line_to_lem book e p q) at w in
    let is : r ≡ length (line_to book e) = same_Some r (length (line_to book e)) (sym got ∙ w.0.0) in
    let most : r ≤ line_max = rw got at w.1 in
    (is, w.0.1, omega (arith, is, most))
