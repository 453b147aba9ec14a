-- An outcome without the chain follows from the slots and the fallback alone: which it is, its price and its samples.
use Rattle.std.specs.Prelude.{if◌then◌else◌, None, Some}
use Prim.Native.Nat.{ℕ}
use mathlib.Core.Path.{◌≡◌, refl, sym, ap, ◌∙◌}
use mathlib.Core.Bool.{Bool, true, false, not, ◌&&◌}
use native.Mathlib.Omega.{arith}
use lib.IntN.{ℤ, ◌+ℤ◌}
use lib.Signed.{lt_z}
use lib.Dec.{ltb, leb}
use borrow.Author.Tests.{ltb-true, leb-true, lt-ltb, le-leb}
use Rattle.rules.proofs.Bools.{not_both, every_at}
use Rattle.rules.specs.Log.{total, size}
use Rattle.rules.specs.Bytes.{fits}
use Rattle.rules.specs.Answers.{Result, ok, refused, Method, Answer, Opened, Used, Wait, Settle, Done, Refused, is_used}
use Rattle.rules.specs.Terms.{slots, good_terms, terms_tests}
use Rattle.rules.specs.Prints.{Print, accept}
use Rattle.rules.specs.Mean.{mean}
use Rattle.rules.specs.Taking.{Candidates, bit, slot_for, is_link, is_fallback, usable, times_fit, sum_fits, print_answer}
use Rattle.rules.specs.Decision.{ones, max_z, settle_at, settle, from, H, D, decide_by}
use Rattle.rules.specs.Series.{Opening, Command, Open, Offer, Ask, Fix, Withdraw, Holdings, live, answer_of, keeps, leaves, decided, offer_held, offered, fixing, withdrawn, withdrawing, step, answer}
use Rattle.rules.specs.Feed.{by_chain, beside_chain}

from_beside : (now T : ℤ) (a : Answer) → beside_chain (from now T a) ≡ true → from now T a ≡ a
from_beside now T a h = go (not (fits T)) (lt_z now T) h
  where
    go : (x y : Bool) → beside_chain (if x then Refused 0 else if y then Wait T else a) ≡ true → (if x then Refused 0 else if y then Wait T else a) ≡ a
    go true y h = cc
    go false true h = cc
    go false false h = refl

chain_beside : (e : ℤ) (m : Method) (s n : ℕ) → by_chain m ≡ true → beside_chain (settle e m s n) ≡ false
chain_beside e m s n h = go (mean s n e)
  where
    go : (r : Result ℕ) → beside_chain (settle_at m n r) ≡ false
    go (ok p) = rw h
    go (refused r) = refl

module _ (o : Opening) (good : good_terms o.terms ≡ true) where
  -- what it is
  abbrev pub outcome : Candidates → Answer
  outcome c =
      if leb o.terms.minimum (ones c.bits) then settle o.terms.exponent Method.Window c.sum (ones c.bits) else
      if ltb 0 (ones c.bits) then settle o.terms.exponent Method.PartialWindow c.sum (ones c.bits) else
      if ltb 0 c.fallback_price then settle o.terms.exponent Method.Fallback c.fallback_price 1 else
      Answer.Void

  decided_beside : (c : Candidates) (now : ℤ) → beside_chain (decided o c now) ≡ true → decided o c now ≡ outcome c
  unfolding decide_by good_terms
  decided_beside c now h =
      go (lt_z now E) (not (fits h₀)) (leb (slots o.terms) N) (leb o.terms.minimum N) (leb o.terms.k M) (lt_z now h₀) (ltb M N) (ltb 0 M) (ltb 0 N) (ltb 0 c.fallback_price)
      full more h
    where
      E : ℤ
      E = o.expiry

      h₀ : ℤ
      h₀ = H o.terms o.expiry c now

      d : ℤ
      d = D o.terms o.expiry c now

      N : ℕ
      N = ones c.bits

      M : ℕ
      M = size c.times

      window : Answer
      window = settle o.terms.exponent Method.Window c.sum N

      next : Answer
      next = settle o.terms.exponent Method.NextPrint (total c.prices) M

      partial_next : Answer
      partial_next = settle o.terms.exponent Method.PartialNextPrint (total c.prices) M

      partial_window : Answer
      partial_window = settle o.terms.exponent Method.PartialWindow c.sum N

      fallback : Answer
      fallback = settle o.terms.exponent Method.Fallback c.fallback_price 1

      full : leb (slots o.terms) N ≡ true → leb o.terms.minimum N ≡ true
      full e =
          let m = leb-true o.terms.minimum (slots o.terms) (every_at (terms_tests o.terms) 6 good) in
          le-leb o.terms.minimum N (omega (arith, m, leb-true (slots o.terms) N e))

      more : ltb M N ≡ true → ltb 0 N ≡ true
      more e = lt-ltb 0 N (omega (arith, ltb-true M N e))

      -- a step of the chain
      none_of : (T : ℤ) (a : Answer) → beside_chain a ≡ false → {x : Answer} → beside_chain (from now T a) ≡ true → from now T a ≡ x
      none_of T a n h = absurd (not_both (ap beside_chain (sym (from_beside now T a h)) ∙ h) n)

      go : (b₁ b₂ b₃ b₄ b₅ b₆ b₇ b₈ b₉ b₁₀ : Bool) → (b₃ ≡ true → b₄ ≡ true) → (b₇ ≡ true → b₉ ≡ true)
          → beside_chain (if b₁ then Wait E else if b₂ then Refused 0 else if b₃ then window else if b₄ then from now (max_z E c.window_changed +ℤ d) window else
          if b₅ then from now (E +ℤ d) next else if b₆ then Wait h₀ else if b₇ then from now (max_z h₀ c.window_changed +ℤ d) partial_window else
          if b₈ then from now (max_z h₀ c.link_changed +ℤ d) partial_next else if b₉ then from now (max_z h₀ c.window_changed +ℤ d) partial_window else
          if b₁₀ then from now (max_z h₀ c.fallback_changed +ℤ d) fallback else from now (h₀ +ℤ d) Answer.Void) ≡ true
          → (if b₁ then Wait E else if b₂ then Refused 0 else if b₃ then window else if b₄ then from now (max_z E c.window_changed +ℤ d) window else
          if b₅ then from now (E +ℤ d) next else if b₆ then Wait h₀ else if b₇ then from now (max_z h₀ c.window_changed +ℤ d) partial_window else
          if b₈ then from now (max_z h₀ c.link_changed +ℤ d) partial_next else if b₉ then from now (max_z h₀ c.window_changed +ℤ d) partial_window else
          if b₁₀ then from now (max_z h₀ c.fallback_changed +ℤ d) fallback else from now (h₀ +ℤ d) Answer.Void)
          ≡ (if b₄ then window else if b₉ then partial_window else if b₁₀ then fallback else Answer.Void)
      go true b₂ b₃ b₄ b₅ b₆ b₇ b₈ b₉ b₁₀ f g h = cc
      go false true b₃ b₄ b₅ b₆ b₇ b₈ b₉ b₁₀ f g h = cc
      go false false true true b₅ b₆ b₇ b₈ b₉ b₁₀ f g h = refl
      go false false true false b₅ b₆ b₇ b₈ b₉ b₁₀ f g h = absurd (not_both (f refl) refl)
      go false false false true b₅ b₆ b₇ b₈ b₉ b₁₀ f g h = from_beside now (max_z E c.window_changed +ℤ d) window h
      go false false false false true b₆ b₇ b₈ b₉ b₁₀ f g h = none_of (E +ℤ d) next (chain_beside o.terms.exponent Method.NextPrint (total c.prices) M refl) h
      go false false false false false true b₇ b₈ b₉ b₁₀ f g h = cc
      go false false false false false false true b₈ true b₁₀ f g h = from_beside now (max_z h₀ c.window_changed +ℤ d) partial_window h
      go false false false false false false true b₈ false b₁₀ f g h = absurd (not_both (g refl) refl)
      go false false false false false false false true b₉ b₁₀ f g h =
          none_of (max_z h₀ c.link_changed +ℤ d) partial_next (chain_beside o.terms.exponent Method.PartialNextPrint (total c.prices) M refl) h
      go false false false false false false false false true b₁₀ f g h = from_beside now (max_z h₀ c.window_changed +ℤ d) partial_window h
      go false false false false false false false false false true f g h = from_beside now (max_z h₀ c.fallback_changed +ℤ d) fallback h
      go false false false false false false false false false false f g h = from_beside now (h₀ +ℤ d) Answer.Void h

  -- ---- which commands answer one

  offered_beside : (h : Holdings) (now : ℤ) (r : Result Print) → beside_chain (answer_of (offered o h now r)) ≡ false
  unfolding print_answer
  offered_beside h now (refused r) = refl
  offered_beside h now (ok p) = go (not (times_fit o.terms o.expiry && sum_fits o.terms o.expiry c p)) (not (usable o.terms o.expiry c p))
    where
      c : Candidates
      c = h.candidates

      a : Bool → Bool → Answer
      a x y = if x then Refused 0 else if y then Refused 14 else Used (slot_for o.terms o.expiry c p) (if is_link o.terms o.expiry c p then Some (size c.times) else None) (is_fallback o.terms o.expiry c p)

      go : (x y : Bool) → beside_chain (answer_of (if is_used (a x y) then leaves (a x y) (live o (offer_held o h now (ok p))) else keeps (a x y))) ≡ false
      go true y = refl
      go false true = refl
      go false false = refl

  withdrawing_beside : (h : Holdings) (now : ℤ) (i : ℕ) → beside_chain (answer_of (withdrawing o h now i)) ≡ false
  withdrawing_beside h now i = go (leb (slots o.terms) i) (not (bit i h.candidates.bits))
    where
      go : (x y : Bool) → beside_chain (answer_of (if x then keeps (Refused 40) else if y then keeps (Refused 41) else leaves Done (live o (withdrawn h now i)))) ≡ false
      go true y = refl
      go false true = refl
      go false false = refl

  fixing_beside : (h : Holdings) (now : ℤ) (a : Answer) → beside_chain (answer_of (fixing o h now a)) ≡ true → answer_of (fixing o h now a) ≡ a
  fixing_beside h now (Settle m p n) k = refl
  fixing_beside h now Answer.Void k = refl
  fixing_beside h now Opened k = cc
  fixing_beside h now (Used s l f) k = cc
  fixing_beside h now (Wait t) k = cc
  fixing_beside h now Done k = cc
  fixing_beside h now (Refused r) k = cc

  pub answer_beside : (h : Holdings) (c : Command) → beside_chain (answer (live o h) c) ≡ true → answer (live o h) c ≡ outcome h.candidates
  unfolding step
  answer_beside h (Open q) k = cc
  answer_beside h (Offer q now) k = absurd (not_both k (offered_beside h now (accept o.terms.exponent o.bps q)))
  answer_beside h (Ask now) k = decided_beside h.candidates now k
  answer_beside h (Fix now) k =
      let a = decided o h.candidates now in
      let same = fixing_beside h now a k in
      same ∙ decided_beside h.candidates now (ap beside_chain (sym same) ∙ k)
  answer_beside h (Withdraw now i) k = absurd (not_both k (withdrawing_beside h now i))
