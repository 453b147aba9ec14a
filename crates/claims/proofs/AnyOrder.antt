-- What the prints of one feed leave in an empty place, in whatever order they came.
use Rattle.std.specs.Prelude.{if◌then◌else◌, Option, None, Some}
use Prim.Native.Nat.{ℕ, ◌≤◌}
use mathlib.Core.Path.{◌≡◌, refl, sym, ap, ◌∙◌}
use mathlib.Core.Bool.{Bool, true, false}
use mathlib.Core.List.{[], ◌∷◌}
use lib.ListN.{length}
use lib.Dec.{eqb}
use borrow.Author.Tests.{eqb-true}
use Rattle.rules.proofs.Bools.{both, every_at}
use Rattle.rules.proofs.Logs.{all_mono}
use Rattle.rules.proofs.State.{few_times}
use Rattle.rules.proofs.Series.{in_range, ledger-live}
use Rattle.rules.proofs.Fields.{command_fits, ledger-fits}
use Rattle.rules.proofs.Posted.{used-offered, unfrozen}
use Rattle.rules.proofs.AnyOrder.{any_order, chains_alike, one-outcome, one-price}
use Rattle.rules.proofs.Arrival.{bytes_apart, chain-bytes, told}
use Rattle.rules.specs.Log.{Log, ε, ◌▹◌, Among, maybe, size, all}
use Rattle.rules.specs.Bytes.{Bytes, are_bytes, zeros}
use Rattle.rules.specs.Answers.{ok, Method, Settle}
use Rattle.rules.specs.Prints.{Quote}
use Rattle.rules.specs.Series.{Opening, Command, Holdings, Series, live, step, changed, answer, after}
use Rattle.rules.specs.Record.{record_size, book_size, bytes_of, stored, opening_fits, candidates_fit, prices_fit, series_fits}
use Rattle.rules.specs.Entries.{Entry, no_command, command, entry}
use Rattle.rules.specs.Book.{record_at, answer_to, book_after, run_on}
use Rattle.rules.specs.Ledger.{opening, events, holdings, ledger, commands_to, ledgers}
use Rattle.rules.specs.Feed.{is_feed, offers, not_fixed_or_freed, Posted, without_arrival, part, bytes_without_arrival, beside_chain}
use Rattle.claims.specs.AnyOrder.{Upload, commands_of, ledger_of, record_left, SamePrints, Agree, AnyOrder}
use Rattle.claims.proofs.Entries.{commands_fit, fits_in_range, series_after, ledgers_more}
use Rattle.claims.proofs.Book.{ledgers-stored, zeroed-place}
use Rattle.claims.proofs.Kept.{others_keep, length-after, record-after}

-- ---- an empty place

module _ (book : Bytes) (s : ℕ) (whole : length book ≡ book_size) (empty : record_at s book ≡ zeros record_size) where
  length_run : (l : Log Bytes) → length (run_on book l) ≡ book_size
  length_run ε = whole
  length_run (l ▹ e) = length-after (run_on book l) e ∙ length_run l

  record_is : (l : Log Bytes) → all are_bytes l ≡ true → record_at s (run_on book l) ≡ bytes_of (ledgers l s)
  unfolding ledgers commands_to ledger opening bytes_of
  record_is ε h = empty
  record_is (l ▹ e) h =
      let (a, b) = both (all are_bytes l) (are_bytes e) h in
      go (entry e) refl (record_is l a) a ∙ ap bytes_of (ap (λ (f : ℕ → Series). f s) (ledgers_more l e a b))
    where
      now : Bytes
      now = run_on book l

      go : (n : Entry) → entry e ≡ n → record_at s now ≡ bytes_of (ledgers l s) → all are_bytes l ≡ true → record_at s (book_after now e) ≡ bytes_of (series_after (ledgers l) n s)
      go (no_command r) q i a = others_keep now e s (rw q) ∙ i
      go (command t c) q i a = at (eqb s t) refl
        where
          left : (x : Option Series) → maybe (record_at s now) bytes_of x ≡ bytes_of (maybe (ledgers l s) (λ next. next) x)
          left None = i
          left (Some next) = refl

          at : (b : Bool) → eqb s t ≡ b → record_at s (book_after now e) ≡ bytes_of (if b then after (ledgers l s) c else ledgers l s)
          at false n = others_keep now e s (rw (q, n)) ∙ i
          at true n =
              let own : entry e ≡ command s c = q ∙ ap (λ (x : ℕ). command x c) (sym (eqb-true s t n)) in
              let there : stored (record_at s now) ≡ ok (ledgers l s) = ap stored i ∙ ledgers-stored l s a in
              record-after now e s c (ledgers l s) (length_run l) own there ∙ left (changed (step (ledgers l s) c))

  answer_at_lem : (l : Log Bytes) → all are_bytes l ≡ true → (e : Bytes) (c : Command) → entry e ≡ command s c → answer_to (run_on book l) e ≡ answer (ledgers l s) c
  unfolding answer_to
  answer_at_lem l h e c q = rw (length_run l, q, record_is l h, ledgers-stored l s h)

module _ (u : Upload) where
  record-left : record_left u ≡ bytes_of (ledger_of u)
  record-left = record_is u.book u.series u.whole u.empty u.entries u.are_entries

  series-fits : series_fits (ledger_of u) ≡ true
  unfolding ledgers
  series-fits = ledger-fits (commands_of u) (commands_fit u.series u.entries u.are_entries)

  in_range_lem : all in_range (commands_of u) ≡ true
  in_range_lem = all_mono command_fits in_range fits_in_range (commands_of u) (commands_fit u.series u.entries u.are_entries)

  posted-live : (feed : Log Quote) (o : Opening) → Posted feed o (commands_of u) → ledger_of u ≡ live o (holdings o (events (commands_of u)))
  unfolding ledgers
  posted-live feed o p = ledger-live (commands_of u) o p.opened (unfrozen (commands_of u) p.untouched)

-- ---- two uploads

module _ (u w : Upload) (feed : Log Quote) (o : Opening) (same : SamePrints u w feed o) where
  agree : Agree o (ledger_of u) (ledger_of w)
  agree =
      record {
        one = holdings o (events (commands_of u));
        other = holdings o (events (commands_of w));
        is_one = posted-live u feed o same.one;
        is_other = posted-live w feed o same.other;
        equal = any_order feed same.is_one_feed o (commands_of u) (commands_of w) same.one same.other same.same_offers (in_range_lem u) (in_range_lem w);
        chains = chains_alike feed same.is_one_feed o (commands_of u) (commands_of w) same.one same.other same.same_offers (in_range_lem u) (in_range_lem w);
      }

  bytes_agree : bytes_without_arrival (record_left u) ≡ bytes_without_arrival (record_left w)
  bytes_agree =
      apart u agree.one agree.is_one ∙ ap (λ (h : Holdings). bytes_without_arrival (bytes_of (live o h))) agree.equal ∙ sym (apart w agree.other agree.is_other)
    where
      apart : (x : Upload) (h : Holdings) → ledger_of x ≡ live o h → bytes_without_arrival (record_left x) ≡ bytes_without_arrival (bytes_of (live o (without_arrival h)))
      apart x h e = ap bytes_without_arrival (record-left x ∙ ap bytes_of e) ∙ bytes_apart o h

  chain_agrees : part 3 1 (record_left u) ≡ part 3 1 (record_left w) → part 64 80 (record_left u) ≡ part 64 80 (record_left w)
  chain_agrees e =
      ap (part 64 80) (left u agree.one agree.is_one)
      ∙ chain-bytes o agree.one agree.other (few u agree.one agree.is_one) (few w agree.other agree.is_other) agree.chains
      (sym (ap (part 3 1) (left u agree.one agree.is_one)) ∙ e ∙ ap (part 3 1) (left w agree.other agree.is_other))
      ∙ sym (ap (part 64 80) (left w agree.other agree.is_other))
    where
      left : (x : Upload) (h : Holdings) → ledger_of x ≡ live o h → record_left x ≡ bytes_of (live o h)
      left x h e = record-left x ∙ ap bytes_of e

      few : (x : Upload) (h : Holdings) → ledger_of x ≡ live o h → size h.candidates.times ≤ 5
      few x h e =
          let fit : series_fits (live o h) ≡ true = ap series_fits (sym e) ∙ series-fits x in
          few_times h.candidates (every_at (opening_fits o ∷ candidates_fit h.candidates ∷ prices_fit h.slot_prices ∷ []) 1 fit)

  outcomes_agree : (c d : Command) → beside_chain (answer (ledger_of u) c) ≡ true → beside_chain (answer (ledger_of w) d) ≡ true → answer (ledger_of u) c ≡ answer (ledger_of w) d
  unfolding ledgers
  outcomes_agree = one-outcome feed same.is_one_feed o (commands_of u) (commands_of w) same.one same.other same.same_offers (in_range_lem u) (in_range_lem w)

  prices_agree : (m : Method) (c d : Command) (p q n : ℕ) → answer (ledger_of u) c ≡ Settle m p n → answer (ledger_of w) d ≡ Settle m q n → p ≡ q
  unfolding ledgers
  prices_agree = one-price feed same.is_one_feed o (commands_of u) (commands_of w) same.one same.other same.same_offers (in_range_lem u) (in_range_lem w)

same-offers : (u w : Upload) (feed : Log Quote) (o : Opening) → is_feed feed ≡ true
    → opening (commands_of u) ≡ Some o → opening (commands_of w) ≡ Some o → not_fixed_or_freed (commands_of u) ≡ true → not_fixed_or_freed (commands_of w) ≡ true
    → ((q : Quote) → Among q (offers (commands_of u)) → Among q feed)
    → ((q : Quote) → Among q (offers (commands_of u)) → Among q (offers (commands_of w))) → ((q : Quote) → Among q (offers (commands_of w)) → Among q (offers (commands_of u)))
    → SamePrints u w feed o
same-offers u w feed o f ou ow nu nw of there back =
    record {
      is_one_feed = f;
      one = record { opened = ou; of_feed = λ q m. of q (used-offered (commands_of u) q m); untouched = nu };
      other = record { opened = ow; of_feed = λ q m. of q (back q (used-offered (commands_of w) q m)); untouched = nw };
      same_offers = record { there = λ q m. there q (used-offered (commands_of u) q m); back = λ q m. back q (used-offered (commands_of w) q m) };
    }

pub any_order_left : AnyOrder
any_order_left =
    record {
      zeroed = zeroed-place;
      left = record-left;
      answers = λ u. answer_at_lem u.book u.series u.whole u.empty u.entries u.are_entries;
      ledgers_agree = agree;
      records_agree = bytes_agree;
      chains_agree = chain_agrees;
      one_outcome = outcomes_agree;
      one_price = prices_agree;
      matched = told;
      plain = same-offers;
    }
