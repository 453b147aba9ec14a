-- #104 by hand: the prints of one feed in two orders, and what each leaves. So the premises can be met, and the chain and the changed times do follow arrival.
use Prim.Native.Nat.{ℕ}
use mathlib.Core.Path.{◌≡◌, refl}
use mathlib.Core.Bool.{Bool, true}
use mathlib.Core.List.{List, [], ◌∷◌}
use lib.IntN.{ℤ, pos, neg_ℤ}
use Rattle.rules.specs.Log.{Log, ε, ◌▹◌}
use Rattle.rules.specs.Terms.{good_terms}
use Rattle.rules.specs.Prints.{Quote, new_print, accept}
use Rattle.rules.specs.Taking.{bit, canonical, links, qualifies, slot_for, print_answer}
use Rattle.rules.specs.Decision.{ones, decide_by}
use Rattle.rules.specs.Series.{Opening, Command, Open, Offer, Ask, Fix, Withdraw, step}
use Rattle.rules.specs.Ledger.{opening, events, prints, after_withdrawal, holder, chain, greatest, fallback, candidates, freeze, taken_events, ledger}
use Rattle.rules.specs.Feed.{is_feed, offers, used, not_fixed_or_freed}

-- 01's terms, expiring at 1000
abbrev o : Opening
o =
    record {
      terms = record { window = 40; slot = 10; tolerance = 2; minimum = 2; k = 2; delay = 5; lookback = 60; hard = 100; exponent = neg_ℤ (pos 2) };
      bps = 100;
      expiry = pos 1000;
    }

abbrev quote : ℕ → ℕ → ℕ → ℕ → Quote
quote price conf prev published = record { price = pos price; conf = conf; exponent = neg_ℤ (pos 2); published = pos published; prev = pos prev }

-- one feed: the print of slot 0, one too wide for 100 bps, one of no length, the print of slot 3, and two links
abbrev a : Quote
a = quote 200000 0 959 962

abbrev wide : Quote
wide = quote 200500 2006 962 975

abbrev still : Quote
still = quote 200001 0 975 975

abbrev b : Quote
b = quote 200003 0 975 990

abbrev c : Quote
c = quote 200100 0 990 1001

abbrev d : Quote
d = quote 200300 0 1001 1003

abbrev feed : Log Quote
feed = ε ▹ a ▹ wide ▹ still ▹ b ▹ c ▹ d

abbrev at : ℕ → Quote → Command
at now q = Offer q (pos now)

-- as they come, with a repeat
abbrev in_order : Log Command
in_order = ε ▹ Open o ▹ at 962 a ▹ at 976 wide ▹ at 977 still ▹ at 991 b ▹ at 1002 c ▹ at 1003 b ▹ at 1004 d

-- late: an offer ahead of the opening, a second open, an ask, a fix and a withdraw that are refused; and d, which is there before c
abbrev late : Log Command
late =
    ε ▹ at 1005 a ▹ Open o ▹ at 1006 d ▹ at 1007 b ▹ Open o ▹ at 1008 c ▹ Ask (pos 1008) ▹ Withdraw (pos 1009) 0 ▹ Fix (pos 1009)
    ▹ at 1010 a ▹ at 1011 wide ▹ at 1012 still

-- what is asked of a list, and what it leaves: slot bits, sum, fallback; links and changed times
pub record Left : Type 0 where
  pub asked : Bool
  pub offered : Log Quote
  pub taken : Log Quote
  pub bits : ℕ
  pub sum : ℕ
  pub fallback_time : ℤ
  pub fallback_price : ℕ
  pub times : Log ℤ
  pub changed : List ℤ

left : Log Command → Left
left j =
    let h = candidates o (taken_events j) in
    record {
      asked = not_fixed_or_freed j;
      offered = offers j;
      taken = used j;
      bits = h.bits;
      sum = h.sum;
      fallback_time = h.fallback_time;
      fallback_price = h.fallback_price;
      times = h.times;
      changed = h.window_changed ∷ h.link_changed ∷ h.fallback_changed ∷ [];
    }

computed : List Left
computed = left in_order ∷ left late ∷ []

said : List Left
said =
    record {
      asked = true;
      offered = ε ▹ a ▹ wide ▹ still ▹ b ▹ c ▹ b ▹ d;
      taken = ε ▹ a ▹ b ▹ c ▹ d;
      bits = 9;
      sum = 400003;
      fallback_time = pos 990;
      fallback_price = 200003;
      times = ε ▹ pos 1001 ▹ pos 1003;
      changed = pos 991 ∷ pos 1004 ∷ pos 991 ∷ [];
    }
    ∷ record {
      asked = true;
      offered = ε ▹ d ▹ b ▹ c ▹ a ▹ wide ▹ still;
      taken = ε ▹ b ▹ c ▹ a;
      bits = 9;
      sum = 400003;
      fallback_time = pos 990;
      fallback_price = 200003;
      times = ε ▹ pos 1001;
      changed = pos 1010 ∷ pos 1008 ∷ pos 1007 ∷ [];
    } ∷ []

one_feed : is_feed feed ≡ true
one_feed = refl

two_orders : computed ≡ said
unfolding computed said left offers used opening ledger taken_events events prints freeze candidates holder after_withdrawal chain fallback greatest step good_terms accept new_print print_answer slot_for canonical links qualifies bit decide_by ones
two_orders = refl
