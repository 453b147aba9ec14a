-- The link that a print is, by how many there are.
use Rattle.std.specs.Prelude.{if◌then◌else◌, Option, None, Some}
use Prim.Native.Nat.{ℕ, suc, ◌≤◌, ◌<◌}
use mathlib.Core.Path.{◌≡◌, refl, ◌∙◌}
use mathlib.Core.Bool.{Bool, true, false}
use native.Mathlib.Omega.{arith}
use borrow.Author.Tests.{ltb-true, leb-true, lt-ltb, le-ltb}
use lib.Dec.{ltb}
use lib.ListN.{get_or}
use lib.IntN.{ℤ, pos}
use Rattle.rules.specs.Log.{size, front}
use Rattle.rules.specs.Terms.{Terms, terms_tests, good_terms}
use Rattle.rules.specs.Prints.{Print}
use Rattle.rules.specs.Taking.{links, follows, is_link}
use Rattle.rules.specs.State.{Parts, candidates_of}
use Rattle.rules.proofs.Bools.{both, every_at}
use Rattle.rules.proofs.Logs.{size-front}
use Rattle.core_uses.specs.Uses.{first_link, later_link}
use Rattle.core_take.specs.Placing.{link_use, linkable}

pub few_links : (t : Terms) → good_terms t ≡ true → t.k ≤ 5
unfolding good_terms
few_links t g = leb-true t.k 5 (every_at (terms_tests t) 8 g)

module _ (t : Terms) (E : ℤ) (s : Parts) (p : Print) where
  pub no_room : t.k ≤ s.links → None ≡ link_use t E (candidates_of s) p
  unfolding link_use links candidates_of
  no_room h = rw (size-front (pos 0) s.links s.times, le-ltb s.links t.k h)

  pub first_link_lem : s.links ≡ 0 → s.links < t.k → (r : Option ℕ) → r ≡ first_link E p.published p.prev → r ≡ link_use t E (candidates_of s) p
  unfolding link_use first_link links candidates_of front
  first_link_lem e h r q = q ∙ rw (e, lt-ltb 0 t.k (omega arith))

  pub later_link_lem : (n : ℕ) → s.links ≡ suc n → s.links < t.k
      → (r : Option ℕ) → r ≡ later_link s.links (get_or s.times n (pos 0)) p.published p.prev → r ≡ link_use t E (candidates_of s) p
  unfolding link_use later_link links candidates_of front
  later_link_lem n e h r q = q ∙ rw (e, size-front (pos 0) n s.times, lt-ltb (suc n) t.k (omega arith))

  -- the places that links are put in
  pub room : good_terms t ≡ true → is_link t E (candidates_of s) p ≡ true → s.links < 5
  unfolding links candidates_of
  room g e =
      let few = few_links t g in
      let l = ltb-true (size (front (pos 0) s.links s.times)) t.k
      (both (ltb (size (front (pos 0) s.links s.times)) t.k) (follows t E (front (pos 0) s.links s.times) p) e).0 in
      omega (arith, size-front (pos 0) s.links s.times)

  pub links_fit : good_terms t ≡ true → linkable (link_use t E (candidates_of s) p) ≡ true
  unfolding link_use candidates_of
  links_fit g = go (is_link t E (candidates_of s) p) refl
    where
      go : (b : Bool) → is_link t E (candidates_of s) p ≡ b → linkable (if b then Some (size (front (pos 0) s.links s.times)) else None) ≡ true
      go true e = rw (size-front (pos 0) s.links s.times) (lt-ltb s.links 5 (room g e))
      go false e = refl
