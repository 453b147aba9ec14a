-- 01, "Decision (`SettlementState::decide`)", with #109's order of its two partial steps.
use Rattle.std.specs.Prelude.{ℕ, ◌/◌, ◌%◌, ◌^◌, Bool, false, not, List, [], ◌∷◌, ℤ, pos, ◌+ℤ◌, ltb, leb, if◌then◌else◌}
use Rattle.std.specs.Int.Signed.{lt_z, le_z}
use Rattle.rules.specs.Log.{ε, size, total, every, Σ<}
use Rattle.rules.specs.Bytes.{fits}
use Rattle.rules.specs.Answers.{Result, ok, refused, Method, Answer, Wait, Settle, Refused}
use Rattle.rules.specs.Terms.{Terms, slots}
use Rattle.rules.specs.Mean.{mean}
use Rattle.rules.specs.Taking.{Candidates}

-- how many bits of a u32 are set
unfoldable pub ones : ℕ → ℕ
ones bits = Σ< 32 (λ i. bits / 2 ^ i % 2)

abbrev pub max_z : ℤ → ℤ → ℤ
max_z a b = if lt_z a b then b else a

-- a Settle at the price, or the price's refusal
abbrev pub settle_at : Method → ℕ → Result ℕ → Answer
settle_at m samples (ok price) = Settle m price samples
settle_at m samples (refused r) = Refused r

-- by the mean of the prices with this sum, at the exponent e
abbrev pub settle : ℤ → Method → ℕ → ℕ → Answer
settle e m sum samples = settle_at m samples (mean sum samples e)

-- "Before "from" the answer is Wait until then; a sum that does not fit is 0."
abbrev pub from : ℤ → ℤ → Answer → Answer
from now T a = if not (fits T) then Refused 0 else if lt_z now T then Wait T else a

-- the answer of the first case whose test passes, or else the last one
infix 80 ◌⇒◌
pub data Case : Type 0 where
  ◌⇒◌ : Bool → Answer → Case

abbrev pub first_of : List Case → Answer → Answer
first_of [] otherwise = otherwise
first_of ((test ⇒ a) ∷ cases) otherwise = if test then a else first_of cases otherwise

-- #109: which of the two partial steps comes first, as it was of old and as the members have voted
pub data Order : Type 0 where
  old voted : Order

-- with n slots filled and m links: by the vote the window where it has more prints, else the chain; of old always the chain
abbrev pub window_first : Order → ℕ → ℕ → Bool
window_first Order.old n m = false
window_first Order.voted n m = ltb m n

module _ (t : Terms) (E : ℤ) (c : Candidates) (now : ℤ) where
  -- "H = E + hard"; "n slots filled, m links"
  abbrev pub H : ℤ
  H = E +ℤ pos t.hard

  abbrev pub D : ℤ
  D = pos t.delay

  abbrev pub e : ℤ
  e = t.exponent

  abbrev pub n : ℕ
  n = ones c.bits

  abbrev pub m : ℕ
  m = size c.times

  -- the step of a chain that is not complete, and that of such a window
  abbrev pub partial_chain : Answer
  partial_chain = from now (max_z H c.link_changed +ℤ D) (settle e Method.PartialNextPrint (total c.prices) m)

  abbrev pub partial_window : Answer
  partial_window = from now (max_z H c.window_changed +ℤ D) (settle e Method.PartialWindow c.sum n)

  -- "now < E: Wait E. Then H = E + hard must fit, else 0. In order": 1 (two lines), 2, 3 and 4 (four lines, the window's once for each turn that it can have), 5
  abbrev pub steps : Order → List Case
  steps order =
      lt_z now E ⇒ Wait E
      ∷ not (fits H) ⇒ Refused 0
      ∷ leb (slots t) n ⇒ settle e Method.Window c.sum n
      ∷ leb t.minimum n ⇒ from now (max_z E c.window_changed +ℤ D) (settle e Method.Window c.sum n)
      ∷ leb t.k m ⇒ from now (E +ℤ D) (settle e Method.NextPrint (total c.prices) m)
      ∷ lt_z now H ⇒ Wait H
      ∷ window_first order n m ⇒ partial_window
      ∷ ltb 0 m ⇒ partial_chain
      ∷ ltb 0 n ⇒ partial_window
      ∷ ltb 0 c.fallback_price ⇒ from now (max_z H c.fallback_changed +ℤ D) (settle e Method.Fallback c.fallback_price 1) ∷ []

  -- "6. Void from H + D."
  unfoldable pub decide_by : Order → Answer
  decide_by order = first_of (steps order) (from now (H +ℤ D) Answer.Void)

  -- #109: the commands and the ledger decide by the vote
  abbrev pub decide : Answer
  decide = decide_by Order.voted

  -- #109: where the vote can change the decision: both partial steps apply, nothing stands above them, and the window has more prints
  abbrev pub outvoted_tests : List Bool
  outvoted_tests = ltb 0 m ∷ ltb m n ∷ ltb n t.minimum ∷ ltb m t.k ∷ le_z H now ∷ []

  abbrev pub outvoted : Bool
  outvoted = every outvoted_tests

-- the same candidates with no link
abbrev pub without_chain : Candidates → Candidates
without_chain c =
    record {
      bits = c.bits;
      sum = c.sum;
      times = ε;
      prices = ε;
      fallback_time = c.fallback_time;
      fallback_price = c.fallback_price;
      window_changed = c.window_changed;
      link_changed = pos 0;
      fallback_changed = c.fallback_changed;
    }
