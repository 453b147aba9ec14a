-- #104: the same prints in two orders. j and k are the commands that two series were given, each since its place was empty.
use Rattle.std.specs.Prelude.{ℕ, ◌≡◌, Bool, true, false, not, ◌&&◌, ◌||◌, List, [], ◌∷◌, take, drop, pos, if◌then◌else◌, Option, None, Some}
use Rattle.std.specs.Int.Signed.{le_z}
use Rattle.rules.specs.Log.{Log, ε, ◌▹◌, Among, is_some, collect}
use Rattle.rules.specs.Bytes.{Bytes}
use Rattle.rules.specs.Answers.{Method, Answer, Opened, Used, Wait, Settle, Done, Refused, is_used, is_refused}
use Rattle.rules.specs.Prints.{Quote, eq_z}
use Rattle.rules.specs.Series.{Opening, Command, Open, Offer, Ask, Fix, Withdraw, Holdings, answer}
use Rattle.rules.specs.Ledger.{opening, ledger}

-- ---- a feed

-- its prev is not above its pub
abbrev pub forward : Quote → Bool
forward q = le_z q.prev q.published

-- q begins where p ends
abbrev pub continues : Quote → Quote → Bool
continues p q = eq_z q.prev p.published

-- each print begins where the one before it ends, and none ends before it begins
abbrev pub is_feed : Log Quote → Bool
is_feed ε = true
is_feed (ε ▹ q) = forward q
is_feed (l ▹ p ▹ q) = is_feed (l ▹ p) && (continues p q && forward q)

-- ---- two lists of the same offers

-- what a command offers; the now of an offer is no part of it
abbrev pub quoted : Command → Option Quote
quoted (Open o) = None
quoted (Offer q now) = Some q
quoted (Ask now) = None
quoted (Fix now) = None
quoted (Withdraw now i) = None

-- all that was offered since the opening, refused offers included
unfoldable pub offers : Log Command → Log Quote
offers j = collect (λ ahead c. if is_some (opening ahead) then quoted c else None) j

-- of that, what was used
unfoldable pub used : Log Command → Log Quote
used j = collect (λ ahead c. if is_used (answer (ledger ahead) c) then quoted c else None) j

-- a fix or a withdraw
abbrev pub is_fix_or_withdraw : Command → Bool
is_fix_or_withdraw (Open o) = false
is_fix_or_withdraw (Offer q now) = false
is_fix_or_withdraw (Ask now) = false
is_fix_or_withdraw (Fix now) = true
is_fix_or_withdraw (Withdraw now i) = true

-- each fix and each withdraw was refused
abbrev pub not_fixed_or_freed : Log Command → Bool
not_fixed_or_freed ε = true
not_fixed_or_freed (j ▹ c) = not_fixed_or_freed j && (not (is_fix_or_withdraw c) || is_refused (answer (ledger j) c))

-- the series was opened as o, what it used is of this feed, and no fix or withdraw was accepted
pub record Posted (feed : Log Quote) (o : Opening) (j : Log Command) : Type 0 where
  pub opened : opening j ≡ Some o
  pub of_feed : (q : Quote) → Among q (used j) → Among q feed
  pub untouched : not_fixed_or_freed j ≡ true

-- The same offers, in any order, at any times, some of them repeated: what the one used was offered to the other too.
-- So a refused offer, which changes nothing, may stand in one list alone.
pub record SameOffers (j k : Log Command) : Type 0 where
  pub there : (q : Quote) → Among q (used j) → Among q (offers k)
  pub back : (q : Quote) → Among q (used k) → Among q (offers j)

-- ---- what does not follow arrival

-- the slots, their prices and the sum, the fallback's time and price; without the chain and the changed times
abbrev pub without_arrival : Holdings → Holdings
without_arrival h =
    let c = h.candidates in
    record {
      candidates =
          record {
            bits = c.bits;
            sum = c.sum;
            times = ε;
            prices = ε;
            fallback_time = c.fallback_time;
            fallback_price = c.fallback_price;
            window_changed = pos 0;
            link_changed = pos 0;
            fallback_changed = pos 0;
          };
      slot_prices = h.slot_prices;
    }

-- the n bytes from i on
abbrev pub part : ℕ → ℕ → Bytes → Bytes
part i n bs = take n (drop i bs)

-- the same of a record's bytes: all but 3 (how many links), 64 to 143 (their times and prices) and 160 to 183 (the changed times)
unfoldable pub bytes_without_arrival : Bytes → List Bytes
bytes_without_arrival bs = part 0 3 bs ∷ part 4 60 bs ∷ part 144 16 bs ∷ part 184 272 bs ∷ []

-- ---- outcomes

-- the methods whose prices are the chain's
abbrev pub by_chain : Method → Bool
by_chain Method.Window = false
by_chain Method.NextPrint = true
by_chain Method.PartialNextPrint = true
by_chain Method.PartialWindow = false
by_chain Method.Fallback = false
by_chain Method.Void = false

-- an outcome without the chain: Void, or a settlement by the window or the fallback
abbrev pub beside_chain : Answer → Bool
beside_chain Opened = false
beside_chain (Used s l f) = false
beside_chain (Wait t) = false
beside_chain (Settle m p n) = not (by_chain m)
beside_chain Answer.Void = true
beside_chain Done = false
beside_chain (Refused r) = false
