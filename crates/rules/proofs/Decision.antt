-- What holds of each step of the decision holds of the decision.
use Rattle.std.specs.Prelude.{if◌then◌else◌}
use Prim.Native.Nat.{ℕ}
use mathlib.Core.Path.{◌≡◌, refl}
use mathlib.Core.Bool.{Bool, true, false, not}
use mathlib.Core.List.{List, [], ◌∷◌}
use lib.IntN.{ℤ, ◌+ℤ◌}
use lib.Signed.{lt_z}
use lib.Dec.{ltb}
use Rattle.rules.specs.Log.{total}
use Rattle.rules.specs.Bytes.{fits}
use Rattle.rules.specs.Answers.{Result, ok, refused, Method, number, Answer, Opened, Used, Wait, Settle, Done, Refused}
use Rattle.rules.specs.Terms.{Terms}
use Rattle.rules.specs.Mean.{mean}
use Rattle.rules.specs.Taking.{Candidates}
use Rattle.rules.specs.Decision.{Case, ◌⇒◌, first_of, settle_at, from, settle, H, D, max_z, n, m, steps, Order, decide_by}

module _ (P : Answer → Type 0) where
  either : (b : Bool) {x y : Answer} → (b ≡ true → P x) → P y → P (if b then x else y)
  either true f g = f refl
  either false f g = g

  -- the answer of each case, where its test passes
  abbrev Each : List Case → Type 0
  Each [] = Unit
  Each ((test ⇒ a) ∷ cases) = (test ≡ true → P a) × Each cases

  first_of_lem : (cases : List Case) (otherwise : Answer) → Each cases → P otherwise → P (first_of cases otherwise)
  first_of_lem [] otherwise f p = p
  first_of_lem ((test ⇒ a) ∷ cases) otherwise f p = either test f.0 (first_of_lem cases otherwise f.1 p)

  module _ (t : Terms) (E : ℤ) (c : Candidates) (now : ℤ) (order : Order) where
    from_each : (T : ℤ) (a : Answer) → ((u : ℤ) → P (Wait u)) → P (Refused 0) → P a → P (from now T a)
    from_each T a w r p = either (not (fits T)) (λ _. r) (either (lt_z now T) (λ _. w T) p)

    pub decide_each : ((u : ℤ) → P (Wait u)) → P (Refused 0) → P Answer.Void
        → P (settle t.exponent Method.Window c.sum (n t E c now))
        → P (settle t.exponent Method.NextPrint (total c.prices) (m t E c now))
        → P (settle t.exponent Method.PartialNextPrint (total c.prices) (m t E c now))
        → P (settle t.exponent Method.PartialWindow c.sum (n t E c now))
        → (ltb 0 c.fallback_price ≡ true → P (settle t.exponent Method.Fallback c.fallback_price 1))
        → P (decide_by t E c now order)
    unfolding decide_by
    decide_each w r v window next partial_next partial_window fallback =
        first_of_lem (steps t E c now order) _ (
          (λ _. w _),
          (
            (λ _. r),
            (
              (λ _. window),
              (
                (λ _. from_each (max_z E c.window_changed +ℤ d) _ w r window),
                (
                  (λ _. from_each (E +ℤ d) _ w r next),
                  (
                    (λ _. w _),
                    (
                      (λ _. from_each (max_z h c.window_changed +ℤ d) _ w r partial_window),
                      (
                        (λ _. from_each (max_z h c.link_changed +ℤ d) _ w r partial_next),
                        (
                          (λ _. from_each (max_z h c.window_changed +ℤ d) _ w r partial_window),
                          ((λ e. from_each (max_z h c.fallback_changed +ℤ d) _ w r (fallback e)), tt),
                        ),
                      ),
                    ),
                  ),
                ),
              ),
            ),
          ),
        )
        (from_each (h +ℤ d) _ w r v)
      where
        h : ℤ
        h = H t E c now

        d : ℤ
        d = D t E c now

-- ---- a Settle is by one of the first five methods

abbrev pub by_price : Answer → Bool
by_price (Settle m p n) = ltb (number m) (number Method.Void)
by_price Answer.Void = true
by_price Opened = true
by_price (Used s l f) = true
by_price (Wait t) = true
by_price Done = true
by_price (Refused r) = true

pub decide_by_price : (t : Terms) (E : ℤ) (c : Candidates) (now : ℤ) (order : Order) → by_price (decide_by t E c now order) ≡ true
decide_by_price t E c now order =
    decide_each (λ a. by_price a ≡ true) t E c now order (λ _. refl) refl refl
    (at Method.Window c.sum _ refl) (at Method.NextPrint (total c.prices) _ refl) (at Method.PartialNextPrint (total c.prices) _ refl)
    (at Method.PartialWindow c.sum _ refl) (λ _. at Method.Fallback c.fallback_price 1 refl)
  where
    at : (k : Method) (s n : ℕ) → ltb (number k) (number Method.Void) ≡ true → by_price (settle t.exponent k s n) ≡ true
    at k s n h = go (mean s n t.exponent)
      where
        go : (r : Result ℕ) → by_price (settle_at k n r) ≡ true
        go (ok p) = h
        go (refused r) = refl
