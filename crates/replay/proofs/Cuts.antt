-- A part of the bytes, whatever its ends.
use Prim.Native.Nat.{ℕ, min, ◌-◌}
use mathlib.Core.Path.{◌≡◌, refl, sym, ◌∙◌}
use mathlib.Core.Bool.{Bool, true, false}
use native.Mathlib.Omega.{arith}
use lib.Dec.{leb}
use lib.ListN.{length, take, drop, length-drop, drop_of_length-le}
use lib.Seq.{take_all}
use borrow.Author.Tests.{leb-true, leb-false}
use Rattle.rules.specs.Bytes.{Bytes}
use Rattle.replay.specs.Entries.{cut}

pub cut-between : (bs : Bytes) (from to start end : ℕ) → end ≡ min to (length bs) → start ≡ min from end → take (end - start) (drop start bs) ≡ cut from to bs
cut-between bs from to start end e s = go (leb from end) (leb to (length bs)) refl refl
  where
    go : (p q : Bool) → leb from end ≡ p → leb to (length bs) ≡ q → take (end - start) (drop start bs) ≡ cut from to bs
    go true true x y =
        let a : start ≡ from = omega (arith, leb-true from end x) in
        let b : end ≡ to = omega (arith, leb-true to (length bs) y) in
        rw (a, b)
    go true false x y =
        let a : start ≡ from = omega (arith, leb-true from end x) in
        let b = leb-false to (length bs) y in
        rw a (take_all (end - from) (drop from bs) (omega (arith, length-drop from bs)) ∙ sym (take_all (to - from) (drop from bs) (omega (arith, length-drop from bs))))
    go false true x y =
        let h = leb-false from end x in
        let a : end - start ≡ 0 = omega arith in
        let b : to - from ≡ 0 = omega (arith, leb-true to (length bs) y) in
        rw (a, b)
    go false false x y =
        let h = leb-false from end x in
        let a : end - start ≡ 0 = omega arith in
        let b = leb-false to (length bs) y in
        rw a (sym (drop_of_length-le bs {i = from} (omega arith)) ∙ sym (take_all (to - from) (drop from bs) (omega (arith, length-drop from bs))))
