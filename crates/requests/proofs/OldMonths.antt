-- The theorem about old months: with p multiplied by ten, the terms in tenths of a percent answer each call as the terms in percent did.
-- One relation between the two books, equal but that p is ten times as large, holds from call to call.
use Rattle.std.specs.Prelude.{if◌then◌else◌, None, Option, Some}
use Prim.Native.Nat.{ℕ, zero, suc, ◌+◌, ◌-◌, ◌*◌, ◌/◌, ◌^◌, ◌≤◌, ◌<◌, min}
use native.Mathlib.Omega.{arith}
use mathlib.Core.Path.{◌≡◌, refl, sym, ap, ◌∙◌}
use mathlib.Core.List.{List, [], ◌∷◌, ◌++◌, map}
use mathlib.Core.Bool.{Bool, true, false, not, ◌&&◌, ◌||◌}
use lib.Dec.{leb, ltb, eqb}
use lib.ListN.{length, get_or, set, replicate, length-set, get_or-map}
use lib.Seq.{get_or-set_same, get_or-set_other}
use borrow.Author.Tests.{leb-true, le-leb, eqb-true, eq-eqb}
use Rattle.rules.specs.declared.Steps.{Steps}
use Rattle.rules.specs.declared.Opening.{Opening}
use Rattle.rules.specs.declared.Kopecks.{Kopecks}
use Rattle.rules.specs.declared.Row.{Row}
use Rattle.rules.specs.declared.Cell.{Cell}
use Rattle.rules.specs.declared.SpreadRule.{SpreadRule}
use Rattle.rules.specs.declared.SpreadRule.TheVariants.{Settled, OfStrike}
use Rattle.rules.specs.declared.Event.{Event}
use Rattle.rules.specs.declared.Amendment.{Amendment}
use Rattle.lists.specs.Lists.{within, sum, count_below, below, any, how_many, All}
use Rattle.rules.specs.Units.{millis, contracts, kopecks, good_charge}
use Rattle.rules.specs.Rows.{good_expiry, good_quantum, good_length, row_of, good_row, as_read, good_row_for}
use Rattle.rules.specs.Cells.{blank_cell, good_cell, place_of, cell_at, series}
use Rattle.rules.specs.Orders.{live, present}
use Rattle.rules.specs.Kept.{quotes_keep, orders_keep, best_bid, best_ask, up_to, kept_at, kept_below}
use Rattle.rules.specs.Lapses.{lapses, lapses_below, good_lapse_limit, within_lapse_limit}
use Rattle.rules.specs.Pay.{thousandths, met, weight_met, cell_met, cell_weight, view_of, cell_failed, failures, all_failures, earned, fee}
use Rattle.rules.specs.Outlook.{need_of, can_keep, resting_till, cell_of, cell_resting, lapses_left, latest, is_never, may_so, latest_rest, full_need_of, full_need, weight_resting, weight_keeping, outlook_of}
use Rattle.rules.specs.Answers.{Outcome, accepted, refused, outcome_by, cell, asked, report, outlook}
use Rattle.rules.specs.Dates.{Moment, before, at, late}
use Rattle.rules.specs.Messages as M
use Rattle.rules.specs.MessageCalls.{message_in, events_at, events_of}
use Rattle.rules.specs.Calls.{Call, Open, Send, Message, Ask, Commit, Close, Drop, Charge, Withdraw, Look, Report, Outlook, Running, Idle, Quoting, Book, fresh_book, is_open, amend_of}
use Rattle.rules.specs.Causes.{Cause, cause, first_number, event_causes, send_causes, other_side_in, causes_in_turn, causes_by, message_causes, good_ticket, good_settlement, good_spread_rule, good_charges, causes, refusal_of}
use Rattle.rules.specs.Changes.{noted, noted_all, closed_cell, closed, charged, following, count_after, changed}
use Rattle.rules.specs.Replies.{time_in, orders_in, bid_in, ask_in, kept_in, lapses_in, preview_of, report_of, outlook_in, reply_of}
use Rattle.rules.specs.Book.{answer_of, step_by, step, run, after}
use Rattle.rules.specs.Histories.{refusals_from, answers_from}
use Rattle.requests.specs.Before.{percents, tenths}
use Rattle.requests.specs.OldMonths.{AtMost79, tenfold_words, tenfold, tenfold_row, tenfold_cell, tenfold_running, tenfold_book, tenfold_view, tenfold_reply, tenfold_answer, SamePay, OldMonths}
use Rattle.rules.proofs.Refusals.{stop, call_passes}

-- ---- tests

same_bool : (b c : Bool) → (b ≡ true → c ≡ true) → (c ≡ true → b ≡ true) → b ≡ c
same_bool true c f g = sym (f refl)
same_bool false true f g = g refl
same_bool false false f g = refl

leb_same : (m n k l : ℕ) → (m ≤ n → k ≤ l) → (k ≤ l → m ≤ n) → leb m n ≡ leb k l
leb_same m n k l f g = same_bool (leb m n) (leb k l) (λ e. le-leb k l (f (leb-true m n e))) (λ e. le-leb m n (g (leb-true k l e)))

-- p from 1 to 79 is ten times p from 1 to 799, since p is at most 79
share_same : (share : ℕ) → share ≤ 79 → within 1 799 (10 * share) ≡ within 1 79 share
share_same share h =
    let low = leb_same 1 (10 * share) 1 share (λ k. omega (arith, k)) (λ k. omega (arith, k)) in
    let high = leb_same (10 * share) 799 share 79 (λ k. h) (λ k. omega (arith, k)) in
    λ i. low i && high i

-- ---- the row

seven_row : (words : List ℕ) → length words ≡ 7 → row_of (set words 6 (10 * get_or words 6 0)) ≡ tenfold_row (row_of words)
unfolding row_of
seven_row words l =
    let other : (k : ℕ) → k < 6 → get_or (set words 6 (10 * get_or words 6 0)) k 0 ≡ get_or words k 0 =
    λ k h. get_or-set_other words 6 k (10 * get_or words 6 0) 0 (λ e. omega (arith, h, e)) in
    λ i. record {
      expiry = other 0 (omega arith) i;
      quantum = other 1 (omega arith) i;
      length = millis (other 2 (omega arith) i);
      minimum = contracts (other 3 (omega arith) i);
      a = other 4 (omega arith) i;
      b = other 5 (omega arith) i;
      share = get_or-set_same words 6 (10 * get_or words 6 0) 0 (omega (arith, l)) i;
    }

row_share : (words : List ℕ) → get_or words 6 0 ≤ 79 → (row_of words).share ≤ 79
unfolding row_of
row_share words h = h

module _ (most : ℕ) where
  row_same : (row : Row) → row.share ≤ 79 → good_row (tenths most) (tenfold_row row) ≡ good_row (percents most) row
  unfolding good_row
  row_same row h =
      ap
      (λ (b : Bool).
      good_expiry row.expiry && good_quantum row.quantum && good_length row.length.0 && within 1 100000 row.minimum.0
      && leb row.a 100000 && leb row.b 1000000 && b)
      (share_same row.share h)

  row_for_same : (spread : SpreadRule) (row : Row) → row.share ≤ 79
      → good_row_for (tenths most) spread (tenfold_row row) ≡ good_row_for (percents most) spread row
  unfolding good_row_for
  row_for_same (Settled sp) row h = row_same row h
  row_for_same (OfStrike s) row h = row_same (as_read (OfStrike s) row) h

-- ---- kept time does not read p

quotes_same : (row : Row) (spread : SpreadRule) (bid ask : Option Steps) → quotes_keep (tenfold_row row) spread bid ask ≡ quotes_keep row spread bid ask
unfolding quotes_keep
quotes_same row spread None ask = refl
quotes_same row spread (Some bid) None = refl
quotes_same row (Settled sp) (Some bid) (Some ask) = refl
quotes_same row (OfStrike s) (Some bid) (Some ask) = refl

kept-at-same : (row : Row) (spread : SpreadRule) (events : List Event) → kept_at (tenfold_row row) spread events ≡ kept_at row spread events
unfolding kept_at orders_keep
kept-at-same row spread events = λ i m. quotes_same row spread (best_bid row (live (up_to m events))) (best_ask row (live (up_to m events))) i

kept_same : (row : Row) (spread : SpreadRule) (events : List Event) (n : ℕ) → kept_below (tenfold_row row) spread events n ≡ kept_below row spread events n
unfolding kept_below
kept_same row spread events n = ap (λ (p : ℕ → Bool). count_below p n) (kept-at-same row spread events)

lapses-same : (row : Row) (spread : SpreadRule) (events : List Event) (n : ℕ) → lapses_below (tenfold_row row) spread events n ≡ lapses_below row spread events n
unfolding lapses_below
lapses-same row spread events n = ap (λ (p : ℕ → Bool). length (lapses p n)) (kept-at-same row spread events)

closed_cell-same : (row : Row) (opening : Opening) (events : List Event) (active passive : Kopecks)
    → closed_cell (tenfold_row row) opening events active passive ≡ tenfold_cell (closed_cell row opening events active passive)
closed_cell-same row opening events active passive =
    let kept = kept_same row opening.spread events row.length.0 in
    let lapsed = lapses-same row opening.spread events row.length.0 in
    λ i. record {
      filled = true;
      kept = millis (kept i);
      length = row.length;
      share = 10 * row.share;
      allowed = opening.allowed;
      lapses = lapsed i;
      active = active;
      passive = passive;
    }

-- ---- the cells

cell_at_lem : (cells : List Cell) (place : ℕ) → cell_at (map tenfold_cell cells) place ≡ tenfold_cell (cell_at cells place)
cell_at_lem cells place = get_or-map tenfold_cell cells place blank_cell

map_set : {A B : Type 0} (f : A → B) (xs : List A) (i : ℕ) (x : A) → set (map f xs) i (f x) ≡ map f (set xs i x)
map_set f [] i x = refl
map_set f (y ∷ ys) zero x = refl
map_set {B = B} f (y ∷ ys) (suc i) x = ap (λ (zs : List B). f y ∷ zs) (map_set f ys i x)

-- ---- the running quantum

-- what a quantum says without its p
told_same : {A : Type 0} (f : Running → A)
    → ((place : ℕ) (row : Row) (opening : Opening) (events : List Event) → f (Quoting place (tenfold_row row) opening events) ≡ f (Quoting place row opening events))
    → (r : Running) → f (tenfold_running r) ≡ f r
told_same f same Idle = refl
told_same f same (Quoting place row opening events) = same place row opening events

open_same : (r : Running) → is_open (tenfold_running r) ≡ is_open r
open_same r = told_same is_open (λ place row opening events. refl) r

sent-same : (r : Running) (e : Event) → send_causes (tenfold_running r) e ≡ send_causes r e
unfolding event_causes
sent-same r e = told_same (λ (q : Running). send_causes q e) (λ place row opening events. refl) r

-- no event's causes depend on p, so neither do a message's
turn_same : (row : Row) (events es : List Event) → causes_in_turn (tenfold_row row) events es ≡ causes_in_turn row events es
unfolding causes_in_turn event_causes
turn_same row events [] = refl
turn_same row events (e ∷ es) = ap (λ (cs : List Cause). event_causes row events e ++ cs) (turn_same row (events ++ (e ∷ [])) es)

moment_same : (row : Row) (events : List Event) (m : M.Message Moment) (t : Moment) → causes_by (tenfold_row row) events m t ≡ causes_by row events m t
moment_same row events m before = refl
moment_same row events m (at t) = turn_same row events (events_at m t)
moment_same row events m late = refl

message_same : (read : Outcome (M.Message Moment)) (r : Running) → message_causes (tenfold_running r) read ≡ message_causes r read
message_same (refused n) r = refl
message_same (accepted m) r =
    told_same (λ (q : Running). message_causes q (accepted m))
    (λ place row opening events.
    ap (λ (cs : List Cause). cause 21 (other_side_in (Quoting place row opening events) m) ∷ cs) (moment_same row events m (M.time_of m))) r

bid-same : (r : Running) → bid_in (tenfold_running r) ≡ bid_in r
bid-same r = told_same bid_in (λ place row opening events. refl) r

ask_same : (r : Running) → ask_in (tenfold_running r) ≡ ask_in r
ask_same r = told_same ask_in (λ place row opening events. refl) r

all-noted-same : (r : Running) (es : List Event) → noted_all (tenfold_running r) es ≡ tenfold_running (noted_all r es)
all-noted-same Idle es = refl
all-noted-same (Quoting place row opening events) es = refl

noted-same : (r : Running) (e : Event) → noted (tenfold_running r) e ≡ tenfold_running (noted r e)
noted-same r e = all-noted-same r (e ∷ [])

closed_same : (r : Running) (active passive : Kopecks) (cells : List Cell)
    → closed (tenfold_running r) active passive (map tenfold_cell cells) ≡ map tenfold_cell (closed r active passive cells)
closed_same Idle active passive cells = refl
closed_same (Quoting place row opening events) active passive cells =
    ap (λ (c : Cell). set (map tenfold_cell cells) place c) (closed_cell-same row opening events active passive)
    ∙ map_set tenfold_cell cells place (closed_cell row opening events active passive)

-- ---- verdict, weight, failure counts, fee

module _ (most : ℕ) where
  met-same : (kept length share : ℕ) → met (tenths most) kept length (10 * share) ≡ met (percents most) kept length share
  unfolding met
  met-same kept length share =
      leb_same (10 * share * length) (1000 * kept) (share * length) (100 * kept) (λ k. omega (arith, k)) (λ k. omega (arith, k))

  weight-same : (f share : ℕ) → weight_met (tenths most) f (10 * share) ≡ weight_met (percents most) f share
  unfolding weight_met
  weight-same f share =
      let same : 1 * (10 * share) ≡ 10 * share = omega arith in
      ap (λ (p : ℕ). if leb 800 f then 20000 else 10000 + (10000 * (f - p) ^ 5) / (800 - p) ^ 5) same

  cell_met-same : (c : Cell) → cell_met (tenths most) (tenfold_cell c) ≡ cell_met (percents most) c
  cell_met-same c = ap (λ (b : Bool). b && within_lapse_limit c.allowed c.lapses) (met-same c.kept.0 c.length.0 c.share)

  cell_weight-same : (c : Cell) → cell_weight (tenths most) (tenfold_cell c) ≡ cell_weight (percents most) c
  cell_weight-same c =
      let verdict = cell_met-same c in
      let weight = weight-same (thousandths c.kept.0 c.length.0) c.share in
      λ i. if verdict i then weight i else 0

  view_same : (c : Cell) → view_of (tenths most) (tenfold_cell c) ≡ tenfold_view (view_of (percents most) c)
  unfolding view_of
  view_same c =
      let verdict = cell_met-same c in
      let weight = cell_weight-same c in
      λ i. record { cell = tenfold_cell c; met = verdict i; weight = weight i }

  failed_same : (c : Cell) → cell_failed (tenths most) (tenfold_cell c) ≡ cell_failed (percents most) c
  unfolding cell_failed
  failed_same c = ap (λ (b : Bool). c.filled && not b) (cell_met-same c)

  earned-same : (c : Cell) → earned (tenths most) (tenfold_cell c) ≡ earned (percents most) c
  unfolding earned
  earned-same c = ap (λ (w : ℕ). if c.filled then (2 * c.active.0 + 3 * c.passive.0) * w else 0) (cell_weight-same c)

  many_failed_same : (cs : List Cell) → how_many (cell_failed (tenths most)) (map tenfold_cell cs) ≡ how_many (cell_failed (percents most)) cs
  unfolding how_many
  many_failed_same [] = refl
  many_failed_same (c ∷ cs) =
      let first = failed_same c in
      let rest = many_failed_same cs in
      λ i. (if first i then 1 else 0) + rest i

  all-earned-same : (cs : List Cell) → sum (map (earned (tenths most)) (map tenfold_cell cs)) ≡ sum (map (earned (percents most)) cs)
  unfolding sum
  all-earned-same [] = refl
  all-earned-same (c ∷ cs) =
      let first = earned-same c in
      let rest = all-earned-same cs in
      λ i. first i + rest i

-- ---- the outlook

can_keep-same : (row : Row) (spread : SpreadRule) → can_keep (tenfold_row row) spread ≡ can_keep row spread
can_keep-same row (Settled sp) = refl
can_keep-same row (OfStrike s) = refl

resting_same : (row : Row) (opening : Opening) (events : List Event) (s : ℕ)
    → cell_resting (tenfold_row row) opening events s ≡ tenfold_cell (cell_resting row opening events s)
unfolding cell_resting
resting_same row opening events s =
    ap (λ (p : ℕ → Bool). cell_of (tenfold_row row) opening (resting_till p (present events) s)) (kept-at-same row opening.spread events)

module _ (most : ℕ) (row : Row) (opening : Opening) (events : List Event) where
  -- 10p of 1,000 parts is p of 100
  need_same : (kept : ℕ) → need_of (tenths most) kept row.length.0 (10 * row.share) ≡ need_of (percents most) kept row.length.0 row.share
  need_same kept = omega arith

  verdict-same : (s : ℕ) → cell_met (tenths most) (cell_resting (tenfold_row row) opening events s) ≡ cell_met (percents most) (cell_resting row opening events s)
  verdict-same s = ap (cell_met (tenths most)) (resting_same row opening events s) ∙ cell_met-same most (cell_resting row opening events s)

  resting_weight-same : (s : ℕ)
      → cell_weight (tenths most) (cell_resting (tenfold_row row) opening events s) ≡ cell_weight (percents most) (cell_resting row opening events s)
  resting_weight-same s = ap (cell_weight (tenths most)) (resting_same row opening events s) ∙ cell_weight-same most (cell_resting row opening events s)

  latest-same : latest_rest (tenths most) (tenfold_row row) opening events ≡ latest_rest (percents most) row opening events
  unfolding latest_rest may_so
  latest-same =
      ap (λ (p : ℕ → Bool). latest p (present events) (row.length.0 - present events))
      (λ i s. (eqb s row.length.0 || can_keep-same row opening.spread i) && verdict-same s i)

  full_same : full_need (tenths most) (tenfold_row row) opening events ≡ full_need (percents most) row opening events
  unfolding full_need
  full_same =
      let t = present events in
      let left = row.length.0 - t in
      λ i.
      let n = full_need_of (kept_same row opening.spread events t i) row.length.0 in
      if leb n left && within_lapse_limit opening.allowed (lapses-same row opening.spread events t i)
      && (eqb n 0 || can_keep-same row opening.spread i) then Some (millis n) else None

  keeping_same : weight_keeping (tenths most) (tenfold_row row) opening events ≡ weight_keeping (percents most) row opening events
  unfolding weight_keeping weight_resting
  keeping_same = λ i.
      if can_keep-same row opening.spread i then resting_weight-same (present events) i else resting_weight-same row.length.0 i

  outlook_of-same : outlook_of (tenths most) (tenfold_row row) opening events ≡ outlook_of (percents most) row opening events
  unfolding outlook_of weight_resting
  outlook_of-same =
      let t = present events in
      let kept = kept_same row opening.spread events t in
      let need = ap (λ (k : ℕ). need_of (tenths most) k row.length.0 (10 * row.share)) kept ∙ need_same (kept_below row opening.spread events t) in
      λ i. record {
        need = millis (need i);
        left = millis (row.length.0 - t);
        by = latest-same i;
        full = full_same i;
        lapses = lapses_left opening.allowed (lapses-same row opening.spread events t i);
        rest = verdict-same row.length.0 i;
        lost = is_never (latest-same i);
        resting = resting_weight-same row.length.0 i;
        keeping = keeping_same i;
      }

map_map : {A B C : Type 0} (f : A → B) (g : B → C) (xs : List A) → map (λ (x : A). g (f x)) xs ≡ map g (map f xs)
map_map f g [] = refl
map_map {C = C} f g (x ∷ xs) = ap (λ (zs : List C). g (f x) ∷ zs) (map_map f g xs)

series-same : (expiry quantum : ℕ) (cells : List Cell) → series expiry quantum (map tenfold_cell cells) ≡ map tenfold_cell (series expiry quantum cells)
unfolding series
series-same expiry quantum cells =
    ap {A = ℕ → Cell} (λ (f : ℕ → Cell). map f (below 31)) (λ i d. cell_at_lem cells (place_of (d + 1) expiry quantum) i)
    ∙ map_map (λ (d : ℕ). cell_at cells (place_of (d + 1) expiry quantum)) tenfold_cell (below 31)

module _ (most : ℕ) where
  failures-same : (cells : List Cell) (expiry quantum : ℕ)
      → failures (tenths most) (map tenfold_cell cells) expiry quantum ≡ failures (percents most) cells expiry quantum
  unfolding failures
  failures-same cells expiry quantum =
      ap (how_many (cell_failed (tenths most))) (series-same expiry quantum cells) ∙ many_failed_same most (series expiry quantum cells)

  all-failures-same : (cells : List Cell) → all_failures (tenths most) (map tenfold_cell cells) ≡ all_failures (percents most) cells
  unfolding all_failures
  all-failures-same cells =
      let f = failures-same cells in
      λ i. f 1 0 i ∷ f 1 1 i ∷ f 1 2 i ∷ f 2 0 i ∷ f 2 1 i ∷ f 2 2 i ∷ []

  fee-same : (cells : List Cell) → fee (tenths most) (map tenfold_cell cells) ≡ fee (percents most) cells
  unfolding fee
  fee-same cells =
      let failed = all-failures-same cells in
      let all = all-earned-same most cells in
      λ i. if any (λ (n : ℕ). ltb 15 n) (failed i) then 0 else min (all i / 80000) 120000000

  report_same : (b : Book) → report_of (tenths most) (tenfold_book b) ≡ report_of (percents most) b
  unfolding report_of
  report_same b =
      let r = b.running in
      λ i. record {
        running = open_same r i;
        time = millis (told_same time_in (λ place row opening events. refl) r i);
        orders = told_same orders_in (λ place row opening events. refl) r i;
        bid = bid-same r i;
        ask = ask_same r i;
        kept = millis (told_same kept_in (λ place row opening events. kept_same row opening.spread events (present events)) r i);
        lapses = told_same lapses_in (λ place row opening events. lapses-same row opening.spread events (present events)) r i;
        failures = all-failures-same b.cells i;
        fee = kopecks (fee-same b.cells i);
      }

  outlook_same : (r : Running) → outlook_in (tenths most) (tenfold_running r) ≡ outlook_in (percents most) r
  unfolding outlook_in
  outlook_same Idle = refl
  outlook_same (Quoting place row opening events) = outlook_of-same most row opening events

  preview_same : (b : Book) (a : Amendment) → preview_of (tenfold_book b) a ≡ preview_of b a
  unfolding preview_of
  preview_same b a =
      let after = noted-same b.running (amend_of a) in
      let bid = ap bid_in after ∙ bid-same (noted b.running (amend_of a)) in
      let ask = ap ask_in after ∙ ask_same (noted b.running (amend_of a)) in
      λ i. record { bid = bid i; ask = ask i; ticket = record { amendment = a; count = b.count } }

-- ---- call by call

-- the refusal of an open, by its tests
abbrev open_number : Bool → Bool → Bool → Bool → Bool → Bool → Bool → ℕ
open_number one two three four six seventeen eighteen =
    first_number
    (
    cause 1 one ∷ cause 2 two ∷ cause 3 three ∷ cause 4 four ∷ cause 6 six ∷ cause 17 seventeen ∷ cause 18 eighteen ∷ []
    )

module _ (most : ℕ) where
  open_refused_same : (b : Book) (words : List ℕ) (day : ℕ) (opening : Opening) → AtMost79 (Open words day opening)
      → refusal_of (tenths most) (tenfold_book b) (Open (tenfold_words words) day opening) ≡ refusal_of (percents most) b (Open words day opening)
  unfolding refusal_of causes
  open_refused_same b words day opening h = go (eqb (length words) 7) refl
    where
      -- with that row, of seven words
      judged : List ℕ → Row → ℕ
      judged ws row =
          open_number (not (eqb (length ws) 7)) (not (good_row_for (tenths most) opening.spread row))
          (not (within 1 31 day && good_settlement opening.spread))
          (cell_at (map tenfold_cell b.cells) (place_of day row.expiry row.quantum)).filled (is_open (tenfold_running b.running))
          (not (good_lapse_limit opening.allowed)) (not (good_spread_rule opening.spread))

      go : (t : Bool) → eqb (length words) 7 ≡ t
          → refusal_of (tenths most) (tenfold_book b) (Open (if t then set words 6 (10 * get_or words 6 0) else words) day opening)
          ≡ refusal_of (percents most) b (Open words day opening)
      go true e =
          let l = eqb-true (length words) 7 e in
          let ws = set words 6 (10 * get_or words 6 0) in
          let row = row_of words in
          let long = ap (λ (n : ℕ). eqb n 7) (length-set words 6 (10 * get_or words 6 0)) in
          let good = row_for_same most opening.spread row (row_share words (h.0 l)) in
          let place = place_of day row.expiry row.quantum in
          let there = cell_at_lem b.cells place in
          let opened = open_same b.running in
          ap (judged ws) (seven_row words l)
          ∙ (λ i. open_number (not (long i)) (not (good i)) (not (within 1 31 day && good_settlement opening.spread)) (there i).filled (opened i) (not (good_lapse_limit opening.allowed)) (not (good_spread_rule opening.spread)))
      go false e = stop 1 _ (ap not e) ∙ sym (stop 1 _ (ap not e))

  -- the refusal of a withdraw or a look
  cell_refused_same : (b : Book) (day expiry quantum : ℕ)
      → first_number (cause 3 (not (good_cell day expiry quantum)) ∷ cause 5 (not (cell_at (map tenfold_cell b.cells) (place_of day expiry quantum)).filled) ∷ [])
      ≡ first_number (cause 3 (not (good_cell day expiry quantum)) ∷ cause 5 (not (cell_at b.cells (place_of day expiry quantum)).filled) ∷ [])
  cell_refused_same b day expiry quantum =
      ap (λ (c : Cell). first_number (cause 3 (not (good_cell day expiry quantum)) ∷ cause 5 (not c.filled) ∷ []))
      (cell_at_lem b.cells (place_of day expiry quantum))

  opened-same : (b : Book) (words : List ℕ) (day : ℕ) (opening : Opening) → length words ≡ 7
      → changed (tenfold_book b) (Open (tenfold_words words) day opening) ≡ tenfold_book (changed b (Open words day opening))
  unfolding changed
  opened-same b words day opening l =
      let seven = ap (λ (t : Bool). if t then set words 6 (10 * get_or words 6 0) else words) (eq-eqb (length words) 7 l) in
      let row = ap row_of seven ∙ seven_row words l in
      λ i. record {
        running = Quoting (place_of day (row i).expiry (row i).quantum) (row i) opening [];
        cells = map tenfold_cell b.cells;
        count = following b.count;
      }

  -- of one call: the same number, the relation after it, the same reply but for p
  record CallSame (b : Book) (c : Call) : Type 0 where
    number : refusal_of (tenths most) (tenfold_book b) (tenfold c) ≡ refusal_of (percents most) b c
    book : refusal_of (percents most) b c ≡ 0 → changed (tenfold_book b) (tenfold c) ≡ tenfold_book (changed b c)
    reply : reply_of (tenths most) (tenfold_book b) (tenfold c) ≡ tenfold_reply (reply_of (percents most) b c)

  call_same : (b : Book) (c : Call) → AtMost79 c → CallSame b c
  unfolding refusal_of causes good_charge changed
  call_same b (Open words day opening) h =
      record {
        number = open_refused_same b words day opening h;
        book = λ n. opened-same b words day opening (call_passes (percents most) b (Open words day opening) n).seven;
        reply = refl;
      }
  call_same b (Send e) h =
      let r = noted-same b.running e in
      record {
        number = ap first_number (sent-same b.running e);
        book = λ n i. record { running = r i; cells = map tenfold_cell b.cells; count = following b.count };
        reply = refl;
      }
  call_same b (Message start bytes) h =
      let r = all-noted-same b.running (events_of start bytes) in
      record {
        number = ap first_number (message_same (message_in start bytes) b.running);
        book = λ n i. record { running = r i; cells = map tenfold_cell b.cells; count = count_after (length (events_of start bytes)) b.count };
        reply = refl;
      }
  call_same b (Ask a) h =
      record { number = ap first_number (sent-same b.running (amend_of a)); book = λ n. refl; reply = ap asked (preview_same most b a) }
  call_same b (Commit a ticket) h =
      let r = noted-same b.running (amend_of a) in
      record {
        number = ap (λ (cs : List Cause). first_number (cs ++ (cause 19 (not (good_ticket ticket a b.count)) ∷ []))) (sent-same b.running (amend_of a));
        book = λ n i. record { running = r i; cells = map tenfold_cell b.cells; count = following b.count };
        reply = refl;
      }
  call_same b (Close active passive) h =
      let cells = closed_same b.running active passive b.cells in
      record {
        number = ap (λ (t : Bool). first_number (cause 3 (not (good_charges (percents most) active passive)) ∷ cause 7 (not t) ∷ [])) (open_same b.running);
        book = λ n i. record { running = Idle; cells = cells i; count = following b.count };
        reply = refl;
      }
  call_same b Drop h =
      record { number = ap (λ (t : Bool). first_number (cause 7 (not t) ∷ [])) (open_same b.running); book = λ n. refl; reply = refl }
  call_same b (Charge day expiry quantum active passive) h =
      let place = place_of day expiry quantum in
      let old = cell_at b.cells place in
      let cells = ap (λ (c : Cell). set (map tenfold_cell b.cells) place (charged active passive c)) (cell_at_lem b.cells place)
      ∙ map_set tenfold_cell b.cells place (charged active passive old) in
      record {
        number =
            ap
            (λ (c : Cell).
            first_number (cause 3 (not (good_cell day expiry quantum && good_charges (percents most) active passive)) ∷ cause 5 (not c.filled) ∷ []))
            (cell_at_lem b.cells place);
        book = λ n i. record { running = tenfold_running b.running; cells = cells i; count = following b.count };
        reply = refl;
      }
  call_same b (Withdraw day expiry quantum) h =
      let cells = map_set tenfold_cell b.cells (place_of day expiry quantum) blank_cell in
      record {
        number = cell_refused_same b day expiry quantum;
        book = λ n i. record { running = tenfold_running b.running; cells = cells i; count = following b.count };
        reply = refl;
      }
  call_same b (Look day expiry quantum) h =
      let place = place_of day expiry quantum in
      record {
        number = cell_refused_same b day expiry quantum;
        book = λ n. refl;
        reply = ap cell (ap (view_of (tenths most)) (cell_at_lem b.cells place) ∙ view_same most (cell_at b.cells place));
      }
  call_same b Report h = record { number = refl; book = λ n. refl; reply = ap report (report_same most b) }
  call_same b Outlook h =
      record {
        number = ap (λ (t : Bool). first_number (cause 7 (not t) ∷ [])) (open_same b.running);
        book = λ n. refl;
        reply = ap outlook (outlook_same most b.running);
      }

  -- the relation holds after the call
  step_same : (b : Book) (c : Call) → AtMost79 c → step (tenths most) (tenfold_book b) (tenfold c) ≡ tenfold_book (step (percents most) b c)
  unfolding step
  step_same b c h =
      ap (λ (n : ℕ). step_by (tenths most) n (tenfold_book b) (tenfold c)) (call_same b c h).number ∙ go (refusal_of (percents most) b c) refl
    where
      go : (n : ℕ) → refusal_of (percents most) b c ≡ n
          → step_by (tenths most) n (tenfold_book b) (tenfold c) ≡ tenfold_book (step_by (percents most) n b c)
      go zero e = (call_same b c h).book e
      go (suc n) e = refl

  -- and so does the answer
  answer-same : (b : Book) (c : Call) → AtMost79 c → answer_of (tenths most) (tenfold_book b) (tenfold c) ≡ tenfold_answer (answer_of (percents most) b c)
  unfolding answer_of
  answer-same b c h =
      let number = (call_same b c h).number in
      let reply = (call_same b c h).reply in
      (λ i. outcome_by (number i) (reply i)) ∙ go (refusal_of (percents most) b c)
    where
      go : (n : ℕ) → outcome_by n (tenfold_reply (reply_of (percents most) b c)) ≡ tenfold_answer (outcome_by n (reply_of (percents most) b c))
      go zero = refl
      go (suc n) = refl

  -- ---- the list

  run-same : (b : Book) (calls : List Call) → All AtMost79 calls → run (tenths most) (tenfold_book b) (map tenfold calls) ≡ tenfold_book (run (percents most) b calls)
  unfolding run
  run-same b [] h = refl
  run-same b (c ∷ cs) h =
      ap (λ (x : Book). run (tenths most) x (map tenfold cs)) (step_same b c h.0) ∙ run-same (step (percents most) b c) cs h.1

  refusals_same : (b : Book) (calls : List Call) → All AtMost79 calls
      → refusals_from (tenths most) (tenfold_book b) (map tenfold calls) ≡ refusals_from (percents most) b calls
  unfolding refusals_from
  refusals_same b [] h = refl
  refusals_same b (c ∷ cs) h =
      let first = (call_same b c h.0).number in
      let rest = ap (λ (x : Book). refusals_from (tenths most) x (map tenfold cs)) (step_same b c h.0) ∙ refusals_same (step (percents most) b c) cs h.1 in
      λ i. first i ∷ rest i

  answers_same : (b : Book) (calls : List Call) → All AtMost79 calls
      → answers_from (tenths most) (tenfold_book b) (map tenfold calls) ≡ map tenfold_answer (answers_from (percents most) b calls)
  unfolding answers_from
  answers_same b [] h = refl
  answers_same b (c ∷ cs) h =
      let first = answer-same b c h.0 in
      let rest = ap (λ (x : Book). answers_from (tenths most) x (map tenfold cs)) (step_same b c h.0) ∙ answers_same (step (percents most) b c) cs h.1 in
      λ i. first i ∷ rest i

  pay_same : (new old : Book) → new ≡ tenfold_book old → SamePay most new old
  pay_same new old e =
      record {
        book = e;
        views = λ place.
            ap (λ (b : Book). view_of (tenths most) (cell_at b.cells place)) e
            ∙ ap (view_of (tenths most)) (cell_at_lem old.cells place)
            ∙ view_same most (cell_at old.cells place);
        failures = ap (λ (b : Book). all_failures (tenths most) b.cells) e ∙ all-failures-same most old.cells;
        fee = ap (λ (b : Book). fee (tenths most) b.cells) e ∙ fee-same most old.cells;
        report = ap (report_of (tenths most)) e ∙ report_same most old;
      }

-- a fresh book has no share at all
fresh-same : tenfold_book fresh_book ≡ fresh_book
unfolding fresh_book
fresh-same = λ i. record { running = Idle; cells = blank 186 i; count = 0 }
  where
    blank : (n : ℕ) → map tenfold_cell (replicate n blank_cell) ≡ replicate n blank_cell
    blank zero = refl
    blank (suc n) = ap (λ (cs : List Cell). blank_cell ∷ cs) (blank n)

pub old_months : OldMonths
unfolding after
old_months most calls h =
    let book = ap (λ (b : Book). run (tenths most) b (map tenfold calls)) (sym fresh-same) ∙ run-same most fresh_book calls h in
    record {
      refusals = ap (λ (b : Book). refusals_from (tenths most) b (map tenfold calls)) (sym fresh-same) ∙ refusals_same most fresh_book calls h;
      answers = ap (λ (b : Book). answers_from (tenths most) b (map tenfold calls)) (sym fresh-same) ∙ answers_same most fresh_book calls h;
      next = λ c k. ap (λ (b : Book). answer_of (tenths most) b (tenfold c)) book ∙ answer-same most (after (percents most) calls) c k;
      pay = pay_same most (after (tenths most) (map tenfold calls)) (after (percents most) calls) book;
    }
