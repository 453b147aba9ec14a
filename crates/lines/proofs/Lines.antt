-- Texts written into a list, one after the other, and over its front.
use Prim.Native.Nat.{ℕ, ◌+◌, ◌<◌, ◌≤◌}
use mathlib.Core.Path.{◌≡◌, sym, ap, ◌∙◌}
use mathlib.Core.List.{[], ◌∷◌, ◌++◌}
use native.Mathlib.Omega.{arith}
use native.Mathlib.Nat.{zero-add}
use native.Mathlib.Numerals.{add-one}
use lib.ListN.{length, get_or, set, drop, length-append}
use lib.Seq.{sets, sets-eq, drop-cons}
use Rattle.rules.specs.Bytes.{Bytes}
use Rattle.rules.proofs.Bytes.{sets_append}

-- a text's next byte
pub sets_next : (l text : Bytes) (i : ℕ) → i < length text → sets (set l i (get_or text i 0)) (i + 1) (drop (i + 1) text) ≡ sets l i (drop i text)
sets_next l text i h = rw (add-one i, drop-cons text i 0)

pub two_bytes : (l : Bytes) (i x y : ℕ) → (i + 2 ≡ i + length (x ∷ y ∷ [])) × (set (set l i x) (i + 1) y ≡ sets l i (x ∷ y ∷ []))
two_bytes l i x y = (omega arith, ap (λ (k : ℕ). set (set l i x) k y) (add-one i))

-- texts one after the other: the end of each is where the next begins
module _ (l : Bytes) (i : ℕ) {m n : Bytes} {j k : ℕ} (f : Bytes) (p : (j ≡ i + length f) × (m ≡ sets l i f)) where
  pub and_then : (g : Bytes) → (k ≡ j + length g) × (n ≡ sets m j g) → (k ≡ i + length (f ++ g)) × (n ≡ sets l i (f ++ g))
  and_then g q = (omega (arith, p.0, q.0, length-append f g), q.1 ∙ rw (p.0, p.1) (sets_append f g l i))

-- a text over the front of a list
pub over_front : (l text : Bytes) → length text ≤ length l → text ++ drop (length text) l ≡ sets l 0 text
over_front l text h = sym (simp zero-add at (sets-eq text l 0 (omega arith)))
