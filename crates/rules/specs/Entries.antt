-- 01, "Commands": an entry of the list is any bytes. It is a command of a series, or none with its refusal.
use Rattle.std.specs.Prelude.{ℕ, [], ◌∷◌, length, ℤ, ltb, eqb, if◌then◌else◌}
use Rattle.rules.specs.Bytes.{Bytes, unsigned_at, signed_at}
use Rattle.rules.specs.Prints.{Quote}
use Rattle.rules.specs.Series.{Opening, Command, Open, Offer, Ask, Fix, Withdraw}
use Rattle.rules.specs.Record.{series_count}

pub data Entry : Type 0 where
  no_command : ℕ → Entry
  command : ℕ → Command → Entry

-- "Byte, series u8, then:" "0x01 open: window, slot, tolerance, minimum, k, D, lookback, hard, e, bps, E; 38 bytes."
unfoldable pub opening_at : Bytes → Opening
opening_at bs =
    record {
      terms =
          record {
            window = unsigned_at bs 2 4;
            slot = unsigned_at bs 6 4;
            tolerance = unsigned_at bs 10 2;
            minimum = unsigned_at bs 12 2;
            k = unsigned_at bs 14 1;
            delay = unsigned_at bs 15 4;
            lookback = unsigned_at bs 19 4;
            hard = unsigned_at bs 23 4;
            exponent = signed_at bs 27 1;
          };
      bps = unsigned_at bs 28 2;
      expiry = signed_at bs 30 8;
    }

-- "0x02 offer: now, price, conf, exponent, pub, prev; 46 bytes."
unfoldable pub quote_at : Bytes → Quote
quote_at bs =
    record {
      price = signed_at bs 10 8;
      conf = unsigned_at bs 18 8;
      exponent = signed_at bs 26 4;
      published = signed_at bs 30 8;
      prev = signed_at bs 38 8;
    }

-- "0x03 ask: now; 10 bytes." "0x04 fix: now; 10 bytes."
abbrev pub now_at : Bytes → ℤ
now_at bs = signed_at bs 2 8

-- #103: a withdraw, 0x06, has the slot's number in a byte after its now
abbrev pub slot_at : Bytes → ℕ
slot_at bs = unsigned_at bs 10 1

-- "38 bytes", "46 bytes", "10 bytes", and #103's 11: the width of a command, by its byte; 1 for an unknown one
abbrev pub width : ℕ → ℕ
width b =
    if eqb b 0x01 then 38 else
    if eqb b 0x02 then 46 else
    if eqb b 0x03 then 10 else
    if eqb b 0x04 then 10 else
    if eqb b 0x06 then 11 else
    1

-- "33 command not of its width", "34 series above 63"
abbrev pub of_width : ℕ → Bytes → Command → Entry
of_width width bs c =
    let series = unsigned_at bs 1 1 in
    if eqb (length bs) width then if ltb series series_count then command series c else no_command 34 else no_command 33

-- "Order: 33 if empty, 32, 33, 34"
unfoldable pub entry : Bytes → Entry
entry [] = no_command 33
entry (b ∷ bs) =
    let e = b ∷ bs in
    if eqb b 0x01 then of_width (width 0x01) e (Open (opening_at e)) else
    if eqb b 0x02 then of_width (width 0x02) e (Offer (quote_at e) (now_at e)) else
    if eqb b 0x03 then of_width (width 0x03) e (Ask (now_at e)) else
    if eqb b 0x04 then of_width (width 0x04) e (Fix (now_at e)) else
    if eqb b 0x06 then of_width (width 0x06) e (Withdraw (now_at e) (slot_at e)) else
    no_command 32
