-- A list of tests in parts.
use Prim.Native.Nat.{ℕ, zero, suc}
use mathlib.Core.Path.{◌≡◌, refl, sym, ap, ◌∙◌}
use mathlib.Core.Bool.{Bool, true, false, not, ◌&&◌}
use mathlib.Core.List.{List, [], ◌∷◌}
use lib.ListN.{take, drop}
use borrow.Author.Tests.{not-true, not-false}
use Rattle.rules.specs.Log.{every}
use Rattle.rules.specs.Terms.{Terms, terms_tests, good_terms}

pub every_take : (n : ℕ) (l : List Bool) → every l ≡ every (take n l) && every (drop n l)
every_take zero l = refl
every_take (suc n) [] = refl
every_take (suc n) (true ∷ l) = every_take n l
every_take (suc n) (false ∷ l) = refl

pub terms_split : (t : Terms) → good_terms t ≡ every (take 5 (terms_tests t)) && (every (take 4 (drop 5 (terms_tests t))) && every (drop 9 (terms_tests t)))
unfolding good_terms
terms_split t = every_take 5 (terms_tests t) ∙ ap (λ (b : Bool). every (take 5 (terms_tests t)) && b) (every_take 4 (drop 5 (terms_tests t)))

-- the first part fails; it passes
pub part_fails : (g a b r : Bool) → g ≡ a && b → r ≡ a → not r ≡ true → false ≡ g
part_fails g a b r s e f = sym (s ∙ ap (λ (x : Bool). x && b) (sym e ∙ not-true r f))

pub part_passes : (g a b r : Bool) → g ≡ a && b → r ≡ a → not r ≡ false → g ≡ b
part_passes g a b r s e f = s ∙ ap (λ (x : Bool). x && b) (sym e ∙ not-false r f)
