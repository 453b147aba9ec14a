-- #109: what the vote changes, and that it changes nothing else.
use Rattle.std.specs.Prelude.{if◌then◌else◌}
use Prim.Native.Nat.{ℕ, ◌<◌}
use mathlib.Core.Path.{◌≡◌, refl}
use mathlib.Core.Bool.{Bool, true, false}
use mathlib.Core.List.{List}
use lib.IntN.{ℤ, pos}
use lib.Signed.{lt_z, le_z}
use lib.Dec.{ltb, leb}
use native.Mathlib.Omega.{arith}
use borrow.Author.Tests.{ltb-true, leb-true, leb-false, lt-ltb, lt-leb}
use Rattle.rules.proofs.Bools.{not_both, every_at}
use Rattle.rules.proofs.Integers.{sum_law, le_yes, no_lt, lt_false, le_true}
use Rattle.rules.specs.Bytes.{fits}
use Rattle.rules.specs.Answers.{Answer}
use Rattle.rules.specs.Terms.{Terms, slots, good_terms, terms_tests}
use Rattle.rules.specs.Taking.{Candidates}
use Rattle.rules.specs.Decision.{H, n, m, partial_chain, partial_window, Order, window_first, decide_by, outvoted_tests, outvoted, without_chain}
use Rattle.rules.specs.Series.{Opening, Command, Open, Offer, Ask, Fix, Withdraw, Holdings, fixed, step}

-- ---- whose turn it is

-- of old never the window's
pub old-chain : (n m : ℕ) → window_first Order.old n m ≡ false
old-chain n m = refl

-- by the vote, the window's exactly where it has more prints
first_more : (n m : ℕ) → window_first Order.voted n m ≡ true → m < n
first_more n m e = ltb-true m n e

more_first : (n m : ℕ) → m < n → window_first Order.voted n m ≡ true
more_first n m l = lt-ltb m n l

-- ---- the decision

module _ (t : Terms) (E : ℤ) (c : Candidates) (now : ℤ) where
  abbrev N : ℕ
  N = n t E c now

  abbrev M : ℕ
  M = m t E c now

  abbrev h : ℤ
  h = H t E c now

  abbrev tests : List Bool
  tests = outvoted_tests t E c now

  by_window : outvoted t E c now ≡ true → decide_by t E c now Order.voted ≡ decide_by t E (without_chain c) now Order.old
  unfolding decide_by
  by_window o =
      let links = ltb-true 0 M (every_at tests 0 o) in
      let more = ltb-true M N (every_at tests 1 o) in
      let few = ltb-true N t.minimum (every_at tests 2 o) in
      let short = ltb-true M t.k (every_at tests 3 o) in
      rw (
        more_first N M more,
        lt-ltb 0 N (omega (arith, links, more)),
        lt-leb t.minimum N few,
        lt-leb t.k M short,
        lt-leb t.k 0 (omega (arith, links, short)),
        le_true h now (every_at tests 4 o),
      )

  as_before : outvoted t E c now ≡ false → decide_by t E c now Order.voted ≡ decide_by t E c now Order.old
  unfolding decide_by
  as_before o = go (leb t.minimum N) (leb t.k M) (lt_z now h) (window_first Order.voted N M) (ltb 0 M) refl refl refl refl refl
    where
      go : (b₁ b₂ b₃ b₄ b₅ : Bool) → leb t.minimum N ≡ b₁ → leb t.k M ≡ b₂ → lt_z now h ≡ b₃ → window_first Order.voted N M ≡ b₄ → ltb 0 M ≡ b₅
          → decide_by t E c now Order.voted ≡ decide_by t E c now Order.old
      go true b₂ b₃ b₄ b₅ e₁ e₂ e₃ e₄ e₅ = rw e₁
      go false true b₃ b₄ b₅ e₁ e₂ e₃ e₄ e₅ = rw e₂
      go false false true b₄ b₅ e₁ e₂ e₃ e₄ e₅ = rw e₃
      go false false false false b₅ e₁ e₂ e₃ e₄ e₅ = rw (e₃, e₄)
      go false false false true false e₁ e₂ e₃ e₄ e₅ = rw (e₃, e₄, e₅, lt-ltb 0 N (omega (arith, first_more N M e₄)))
      go false false false true true e₁ e₂ e₃ e₄ e₅ = absurd (not_both {b = outvoted t E c now}
          (rw (lt-ltb M N (first_more N M e₄), e₅, lt-ltb N t.minimum (leb-false t.minimum N e₁), lt-ltb M t.k (leb-false t.k M e₂), lt_false now h e₃)) o)

  -- where it is outvoted, a chain is as if it were not there; any other decision stays as it was
  pub vote : decide_by t E c now Order.voted ≡ decide_by t E (if outvoted t E c now then without_chain c else c) now Order.old
  vote = go (outvoted t E c now) refl
    where
      go : (b : Bool) → outvoted t E c now ≡ b → decide_by t E c now Order.voted ≡ decide_by t E (if b then without_chain c else c) now Order.old
      go true o = by_window o
      go false o = as_before o

  -- there it was the chain's price, Wait or refusal, and is the window's
  pub turned : good_terms t ≡ true → fits h ≡ true → outvoted t E c now ≡ true
      → (decide_by t E c now Order.old ≡ partial_chain t E c now) × (decide_by t E c now Order.voted ≡ partial_window t E c now)
  unfolding decide_by good_terms
  turned good f o =
      let few = ltb-true N t.minimum (every_at tests 2 o) in
      let within = leb-true t.minimum (slots t) (every_at (terms_tests t) 6 good) in
      let full = lt-leb (slots t) N (omega (arith, few, within)) in
      let partly = lt-leb t.minimum N few in
      let short = lt-leb t.k M (ltb-true M t.k (every_at tests 3 o)) in
      let later = le_true h now (every_at tests 4 o) in (
        rw (from_E (every_at tests 4 o), f, full, partly, short, later, every_at tests 0 o),
        rw (from_E (every_at tests 4 o), f, full, partly, short, later, more_first N M (ltb-true M N (every_at tests 1 o))),
      )
    where
      from_E : le_z h now ≡ true → lt_z now E ≡ false
      from_E l = no_lt now E (omega (arith, sum_law E (pos t.hard), le_yes h now l))

-- ---- a fixed series, whichever its order

pub alike : (r q : Order) (o : Opening) (h : Holdings) (a : Answer) (at : ℤ) (c : Command) → step (fixed r o h a at) c ≡ step (fixed q o h a at) c
unfolding step
alike r q o h a at (Open p) = refl
alike r q o h a at (Offer p now) = refl
alike r q o h a at (Ask now) = refl
alike r q o h a at (Fix now) = refl
alike r q o h a at (Withdraw now i) = refl
