-- 01, "Taking a print (`SettlementState::add_print`)". E is the expiry, now the caller's time.
use Rattle.std.specs.Prelude.{ℕ, ◌+◌, ◌*◌, ◌-◌, ◌/◌, ◌%◌, ◌^◌, Bool, not, ◌&&◌, ◌||◌, List, [], ◌∷◌, set, ℤ, pos, ◌+ℤ◌, ◌-ℤ◌, ltb, eqb, if◌then◌else◌, Option, None, Some}
use Rattle.std.specs.Int.Signed.{lt_z, le_z}
use Rattle.rules.specs.Log.{Log, ε, ◌▹◌, is_some, maybe, size, find, every}
use Rattle.rules.specs.Bytes.{fits}
use Rattle.rules.specs.Answers.{Result, ok, refused, Answer, Used, Refused}
use Rattle.rules.specs.Terms.{Terms, slots}
use Rattle.rules.specs.Prints.{Print, eq_z}

-- The candidates for the fixing: slots (bit i is slot i) with the sum of their prices, links in order, the fallback (0 and 0 for none), and when each last changed.
pub record Candidates : Type 0 where
  pub bits : ℕ
  pub sum : ℕ
  pub times : Log ℤ
  pub prices : Log ℕ
  pub fallback_time : ℤ
  pub fallback_price : ℕ
  pub window_changed : ℤ
  pub link_changed : ℤ
  pub fallback_changed : ℤ

unfoldable pub bit : ℕ → ℕ → Bool
bit i bits = eqb (bits / 2 ^ i % 2) 1

-- #103: the candidates without the print of slot i, which has this price: its bit and its share of the sum go, window changed is now, links and fallback stay
unfoldable pub vacate : Candidates → ℕ → ℕ → ℤ → Candidates
vacate c i price now =
    record {
      bits = c.bits - 2 ^ i;
      sum = c.sum - price;
      times = c.times;
      prices = c.prices;
      fallback_time = c.fallback_time;
      fallback_price = c.fallback_price;
      window_changed = now;
      link_changed = c.link_changed;
      fallback_changed = c.fallback_changed;
    }

module _ (t : Terms) (E : ℤ) where
  -- "Slot i has boundary b = E − window + i × slot."
  abbrev pub boundary : ℕ → ℤ
  boundary i = E -ℤ pos t.window +ℤ pos (i * t.slot)

  -- "A print is canonical for i when b ≤ pub < b + slot, pub − b ≤ tolerance and prev < b."
  abbrev pub canonical_tests : ℕ → Print → List Bool
  canonical_tests i p =
      le_z (boundary i) p.published ∷ lt_z p.published (boundary i +ℤ pos t.slot)
      ∷ le_z (p.published -ℤ boundary i) (pos t.tolerance)
      ∷ lt_z p.prev (boundary i) ∷ []

  unfoldable pub canonical : ℕ → Print → Bool
  canonical i p = every (canonical_tests i p)

  -- "The first has prev ≤ E < pub; a later one has prev = last link's time and pub greater."
  abbrev pub follows : Log ℤ → Print → Bool
  follows ε p = le_z p.prev E && lt_z E p.published
  follows (ts ▹ last) p = eq_z p.prev last && lt_z last p.published

  -- "Link: while fewer than k."
  unfoldable pub links : Log ℤ → Print → Bool
  links ts p = ltb (size ts) t.k && follows ts p

  -- "Fallback: E − lookback ≤ pub ≤ E, prev < pub", and then pub > stored time
  unfoldable pub qualifies : Print → Bool
  qualifies p = le_z (E -ℤ pos t.lookback) p.published && le_z p.published E && lt_z p.prev p.published

  -- what a print is used for: "It fills an empty slot"; whether it is the next link; whether it is the new fallback
  unfoldable pub slot_for : Candidates → Print → Option ℕ
  slot_for c p = find (slots t) (λ i. canonical i p && not (bit i c.bits))

  abbrev pub is_link : Candidates → Print → Bool
  is_link c p = links c.times p

  abbrev pub is_fallback : Candidates → Print → Bool
  is_fallback c p = qualifies p && lt_z c.fallback_time p.published

  abbrev pub usable : Candidates → Print → Bool
  usable c p = is_some (slot_for c p) || is_link c p || is_fallback c p

  -- "0 if E − window or E − lookback is below −2^63, or if a stored sum would reach 2^128."
  abbrev pub times_fit : Bool
  times_fit = fits (E -ℤ pos t.window) && fits (E -ℤ pos t.lookback)

  abbrev pub sum_fits : Candidates → Print → Bool
  sum_fits c p = not (is_some (slot_for c p)) || ltb (c.sum + p.price) (2 ^ 128)

  -- "No use at all: 14."
  unfoldable pub print_answer : Candidates → Print → Answer
  print_answer c p =
      if not (times_fit && sum_fits c p) then Refused 0 else
      if not (usable c p) then Refused 14 else
      Used (slot_for c p) (if is_link c p then Some (size c.times) else None) (is_fallback c p)

  -- each use of the print made; "Each use sets that candidate's changed time to now."
  unfoldable pub place : Candidates → Print → ℤ → Candidates
  place c p now =
      record {
        bits = maybe c.bits (λ i. c.bits + 2 ^ i) (slot_for c p);
        sum = maybe c.sum (λ i. c.sum + p.price) (slot_for c p);
        times = if is_link c p then c.times ▹ p.published else c.times;
        prices = if is_link c p then c.prices ▹ p.price else c.prices;
        fallback_time = if is_fallback c p then p.published else c.fallback_time;
        fallback_price = if is_fallback c p then p.price else c.fallback_price;
        window_changed = maybe c.window_changed (λ i. now) (slot_for c p);
        link_changed = if is_link c p then now else c.link_changed;
        fallback_changed = if is_fallback c p then now else c.fallback_changed;
      }

  -- an offered print, accepted or refused: "acceptance, 0, 14"
  abbrev pub offer_answer : Candidates → Result Print → Answer
  offer_answer c (ok p) = print_answer c p
  offer_answer c (refused r) = Refused r

  abbrev pub offer_placed : Candidates → Result Print → ℤ → Candidates
  offer_placed c (ok p) now = place c p now
  offer_placed c (refused r) now = c

  -- #103: the slot prices after it: the slot that it fills has the print's price
  abbrev pub offer_priced : Candidates → List ℕ → Result Print → List ℕ
  offer_priced c prices (ok p) = maybe prices (λ i. set prices i p.price) (slot_for c p)
  offer_priced c prices (refused r) = prices
