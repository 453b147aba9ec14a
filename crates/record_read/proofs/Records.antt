-- What stands in a record, by its fields.
use Rattle.std.specs.Prelude.{if◌then◌else◌, List, [], ◌∷◌}
use native.Mathlib.Omega.{arith}
use Rattle.std.specs.Array.{IsMapOf, MapsFrom}
use Rattle.std.specs.Fn.{Mut, Called}
use Prim.Native.Nat.{ℕ}
use mathlib.Core.Path.{◌≡◌, refl, sym, ap, ◌∙◌}
use mathlib.Core.Bool.{Bool, true, false}
use lib.IntN.{ℤ}
use lib.ListN.{length}
use lib.Dec.{eqb}
use borrow.Author.Tests.{eq-eqb, ne_eqb, eqb-true}
use Rattle.rules.specs.Bytes.{Bytes, unsigned_at, signed_at}
use Rattle.rules.specs.Answers.{ok, refused, Method, number, method}
use Rattle.rules.specs.Terms.{Terms}
use Rattle.rules.specs.Record.{record_size, opening_in}
use Rattle.rules.specs.Book.{record_at}
use Rattle.book.specs.Looks.{Allowed}
use Rattle.book.proofs.Looks.{part_at, part_is, allowed-part}
use Rattle.record_read.specs.Records.{contents_in, no_contents, contents_from}

-- ---- the fields beside the outcome

pub opening_is : (bs : Bytes) {t : Terms} {b : ℕ} {E : ℤ} → t ≡ (opening_in bs).terms → b ≡ unsigned_at bs 8 2 → E ≡ signed_at bs 40 8
    → record { terms = t; bps = b; expiry = E } ≡ opening_in bs
unfolding opening_in
opening_is bs et eb eE = λ i. record { terms = et i; bps = eb i; expiry = eE i }

pub contents_whole : (bs : Bytes) → length bs ≡ record_size → contents_from bs ≡ contents_in bs
contents_whole bs e = rw (eq-eqb (length bs) record_size e)

pub contents_other : (bs : Bytes) → (length bs ≡ record_size → ⊥) → contents_from bs ≡ no_contents
contents_other bs h = rw (ne_eqb (length bs) record_size h)

-- of an allowed look
pub contents_looked : (book : Bytes) (s : ℕ) → Allowed book s → contents_from (part_at s book) ≡ contents_in (record_at s book)
contents_looked book s h = contents_whole (part_at s book) (allowed-part book s h) ∙ ap contents_in (part_is s book)

-- ---- the method of an outcome

pub method-back : (n : ℕ) (m : Method) → method n ≡ ok m → number m ≡ n
unfolding method
method-back n m e = go (eqb n 0) (eqb n 1) (eqb n 2) (eqb n 3) (eqb n 4) (eqb n 5) refl refl refl refl refl refl e
  where
    same : (k : Method) → ok k ≡ ok m → number k ≡ n → number m ≡ n
    same k e h = let i : k ≡ m = cc in rw (← i) h

    go : (a b c d f g : Bool) → eqb n 0 ≡ a → eqb n 1 ≡ b → eqb n 2 ≡ c → eqb n 3 ≡ d → eqb n 4 ≡ f → eqb n 5 ≡ g
        → (if a then ok Method.Window else (if b then ok Method.NextPrint else (if c then ok Method.PartialNextPrint else (if d then ok Method.PartialWindow else (if f then ok Method.Fallback else (if g then ok Method.Void else refused 1)))))) ≡ ok m
        → number m ≡ n
    go true b c d f g p q r s t u e = same Method.Window e (sym (eqb-true n 0 p))
    go false true c d f g p q r s t u e = same Method.NextPrint e (sym (eqb-true n 1 q))
    go false false true d f g p q r s t u e = same Method.PartialNextPrint e (sym (eqb-true n 2 r))
    go false false false true f g p q r s t u e = same Method.PartialWindow e (sym (eqb-true n 3 s))
    go false false false false true g p q r s t u e = same Method.Fallback e (sym (eqb-true n 4 t))
    go false false false false false true p q r s t u e = same Method.Void e (sym (eqb-true n 5 u))
    go false false false false false false p q r s t u e = cc

-- ---- what a closure that stays as it is gives of five numbers

module _ {F B : Type 0} (g : Mut F (ℕ × Unit {0}) B) (h : ℕ → B) {f : F} (step : (x : ℕ) (y : B) (q : F) → Called g f (x, tt) y q → (q ≡ f) × (y ≡ h x)) where
  one_mapped : {p q : F} {x a : ℕ} {v y : B} → p ≡ f → a ≡ x → y ≡ v → Called g p (x, tt) v q → (q ≡ f) × (y ≡ h a)
  one_mapped {p} {q} {x} {a} {v} {y} ep ex ey k =
      let (stays, gives) = step x v q (rw ep at k) in
      (stays, ey ∙ gives ∙ ap h (sym ex))

  pub five_mapped : {a b c d e : ℕ} {ys : List B} → IsMapOf g f (a ∷ b ∷ c ∷ d ∷ e ∷ []) ys 5 → ys ≡ h a ∷ h b ∷ h c ∷ h d ∷ h e ∷ []
  five_mapped {a} {b} {c} {d} {e} {ys} m = go ys m.long m.each
    where
      go : (ys : List B) → length ys ≡ 5 → MapsFrom g f (a ∷ b ∷ c ∷ d ∷ e ∷ []) ys 0 5 → ys ≡ h a ∷ h b ∷ h c ∷ h d ∷ h e ∷ []
      go (y0 ∷ y1 ∷ y2 ∷ y3 ∷ y4 ∷ []) l (q0, x0, v0, i0, j0, k0, (q1, x1, v1, i1, j1, k1, (q2, x2, v2, i2, j2, k2, (q3, x3, v3, i3, j3, k3, (q4, x4, v4, i4, j4, k4, end))))) =
          let (s0, e0) = one_mapped refl i0.0 j0.0 k0 in
          let (s1, e1) = one_mapped s0 i1.0 j1.0 k1 in
          let (s2, e2) = one_mapped s1 i2.0 j2.0 k2 in
          let (s3, e3) = one_mapped s2 i3.0 j3.0 k3 in
          let (s4, e4) = one_mapped s3 i4.0 j4.0 k4 in
          λ i. e0 i ∷ e1 i ∷ e2 i ∷ e3 i ∷ e4 i ∷ []
      go [] l m = cc
      go (y0 ∷ []) l m = cc
      go (y0 ∷ y1 ∷ []) l m = cc
      go (y0 ∷ y1 ∷ y2 ∷ []) l m = cc
      go (y0 ∷ y1 ∷ y2 ∷ y3 ∷ []) l m = cc
      go (y0 ∷ y1 ∷ y2 ∷ y3 ∷ y4 ∷ y5 ∷ ys) l m = let no : ⊥ = omega (arith, l) in absurd no
