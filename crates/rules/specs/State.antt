-- The state as it is stored, `restore`'s test (01, "Record") and the core calls, which "check what they take first" (01, "What a command answers").
use Rattle.std.specs.Prelude.{ℕ, ◌^◌, Bool, true, not, ◌&&◌, ◌||◌, List, [], ◌∷◌, get_or, ℤ, pos, ltb, leb, eqb, if◌then◌else◌}
use Rattle.std.specs.Bool.{beq}
use Rattle.std.specs.Int.Signed.{lt_z}
use Rattle.rules.specs.Log.{Log, ε, ◌▹◌, size, all, nth, front, every}
use Rattle.rules.specs.Answers.{Result, ok, refused, Answer, Refused, is_used}
use Rattle.rules.specs.Terms.{Terms, slots, good_terms}
use Rattle.rules.specs.Prints.{Print, Quote, good_print, eq_z, accept}
use Rattle.rules.specs.Taking.{Candidates, print_answer, place, offer_answer, offer_placed}
use Rattle.rules.specs.Decision.{Order, decide_by}

-- Candidates with their links in five places: how many there are, the times and the prices.
pub record Parts : Type 0 where
  pub bits : ℕ
  pub sum : ℕ
  pub links : ℕ
  pub times : List ℤ
  pub prices : List ℕ
  pub fallback_time : ℤ
  pub fallback_price : ℕ
  pub window_changed : ℤ
  pub link_changed : ℤ
  pub fallback_changed : ℤ

unfoldable pub candidates_of : Parts → Candidates
candidates_of s =
    record {
      bits = s.bits;
      sum = s.sum;
      times = front (pos 0) s.links s.times;
      prices = front 0 s.links s.prices;
      fallback_time = s.fallback_time;
      fallback_price = s.fallback_price;
      window_changed = s.window_changed;
      link_changed = s.link_changed;
      fallback_changed = s.fallback_changed;
    }

-- the first five, with d after them
abbrev pub five : {A : Type 0} → A → Log A → List A
five d l = nth d l 0 ∷ nth d l 1 ∷ nth d l 2 ∷ nth d l 3 ∷ nth d l 4 ∷ []

unfoldable pub parts_of : Candidates → Parts
parts_of c =
    record {
      bits = c.bits;
      sum = c.sum;
      links = size c.times;
      times = five (pos 0) c.times;
      prices = five 0 c.prices;
      fallback_time = c.fallback_time;
      fallback_price = c.fallback_price;
      window_changed = c.window_changed;
      link_changed = c.link_changed;
      fallback_changed = c.fallback_changed;
    }

-- ---- `restore`'s test

-- "their times strictly rising"
abbrev pub rising : Log ℤ → Bool
rising ε = true
rising (ε ▹ b) = true
rising (ts ▹ a ▹ b) = rising (ts ▹ a) && lt_z a b

-- "zeros after": place j holds a link, or zeros
abbrev pub zero_after : Parts → ℕ → Bool
zero_after s j = ltb j s.links || (eq_z (get_or s.times j (pos 0)) (pos 0) && eqb (get_or s.prices j 0) 0)

-- "no bit at or above slots; sum zero exactly when bits are; links ≤ k, their times strictly rising and prices positive, zeros after; fallback time zero exactly when its price is."
abbrev pub restore_tests : Terms → Parts → List Bool
restore_tests t s =
    ltb s.bits (2 ^ slots t)
    ∷ beq (eqb s.bits 0) (eqb s.sum 0)
    ∷ leb s.links t.k
    ∷ rising (candidates_of s).times ∷ all (λ price. ltb 0 price) (candidates_of s).prices
    ∷ zero_after s 0 ∷ zero_after s 1 ∷ zero_after s 2 ∷ zero_after s 3 ∷ zero_after s 4
    ∷ beq (eq_z s.fallback_time (pos 0)) (eqb s.fallback_price 0) ∷ []

unfoldable pub good_state : Terms → Parts → Bool
good_state t s = every (restore_tests t s)

-- ---- the core calls: "terms 12, state by `restore`'s test on the terms given 11, print 13, in that order"

abbrev pub checked : Terms → Parts → Answer → Answer
checked t s a =
    if not (good_terms t) then Refused 12 else
    if not (good_state t s) then Refused 11 else
    a

-- "`restore` the empty state" on a refusal
unfoldable pub restore : Terms → Parts → Result Parts
restore t s =
    if not (good_terms t) then refused 12 else
    if not (good_state t s) then refused 11 else
    ok s

-- #109: by either order
unfoldable pub decide_call : Order → Terms → ℤ → Parts → ℤ → Answer
decide_call r t E s now = checked t s (decide_by t E (candidates_of s) now r)

unfoldable pub add_print_call : Terms → ℤ → Parts → Print → Answer
add_print_call t E s p = checked t s (if not (good_print p) then Refused 13 else print_answer t E (candidates_of s) p)

-- "`add_print` gives back the state it took" on a refusal
unfoldable pub add_print_state : Terms → ℤ → Parts → Print → ℤ → Parts
add_print_state t E s p now = if is_used (add_print_call t E s p) then parts_of (place t E (candidates_of s) p now) else s

-- terms, state, and then the offer
unfoldable pub offer_call : Terms → ℕ → ℤ → Parts → Quote → Answer
offer_call t bps E s q = checked t s (offer_answer t E (candidates_of s) (accept t.exponent bps q))

-- the state it took, on a refusal
unfoldable pub offer_state : Terms → ℕ → ℤ → Parts → Quote → ℤ → Parts
offer_state t bps E s q now =
    if is_used (offer_call t bps E s q) then parts_of (offer_placed t E (candidates_of s) (accept t.exponent bps q) now) else s
