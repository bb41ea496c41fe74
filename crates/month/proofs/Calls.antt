-- Each call of the month, refusal by refusal and accepted, over the month's fields.
use Rattle.std.proofs.Common.{Err, Ok, Option}
use Prim.Native.Nat.{ℕ, zero}
use mathlib.Core.Path.{◌≡◌, refl, ap, sym, ◌∙◌, subst}
use mathlib.Core.Bool.{Bool, true, false, not, ◌&&◌}
use mathlib.Core.List.{List, [], ◌∷◌, ◌++◌}
use native.Mathlib.Omega.{arith}
use borrow.Author.Tests.{eq-eqb, eqb-true, not-false}
use lib.IntN.{pos}
use lib.ListN.{length, set}
use Rattle.rules.specs.declared.Steps.{Steps}
use Rattle.rules.specs.declared.Millis.{Millis}
use Rattle.rules.specs.declared.SpreadRule.{SpreadRule}
use Rattle.rules.specs.declared.SpreadRule.TheVariants.{Settled}
use Rattle.rules.specs.declared.Opening.{Opening}
use Rattle.rules.specs.declared.Kopecks.{Kopecks}
use Rattle.rules.specs.declared.Row.{Row}
use Rattle.rules.specs.declared.Cell.{Cell}
use Rattle.rules.specs.declared.CellView.{CellView}
use Rattle.rules.specs.declared.Event.{Event}
use Rattle.rules.specs.declared.Refusal.{Refusal}
use Rattle.rules.specs.declared.Outlook.{Outlook}
use Rattle.lists.specs.Lists.{within, filter, count_below}
use Rattle.rules.specs.Terms.{paper}
use Rattle.rules.specs.Units.{millis, steps, kopecks}
use Rattle.rules.specs.Rows.{row_of, good_row_for}
use Rattle.rules.specs.Cells.{good_cell, place_of, cell_at, blank_cell}
use Rattle.rules.specs.Orders.{live, apply_all, present, time_from}
use Rattle.rules.specs.Quotes.{best, lead}
use Rattle.rules.specs.Kept.{best_bid, best_ask, kept_below}
use Rattle.rules.specs.Stretches.{stretches}
use Rattle.rules.specs.Lapses.{lapses as lapses_of, lapses_below, good_lapse_limit}
use Rattle.rules.specs.Pay.{view_of, all_failures, fee}
use Rattle.rules.specs.Outlook.{outlook_of}
use Rattle.rules.specs.Answers.{accepted, refused, outcome_by, done, cell, report, outlook, number_of, shown_answer}
use Rattle.rules.specs.Calls.{Open, Send, Close, Drop, Charge, Withdraw, Look, Running, Idle, Quoting, Book, is_open}
use Rattle.rules.specs.Causes.{Cause, first_number, row_causes, read_row, good_charges, send_causes, good_settlement, good_spread_rule, event_refusal, causes, refusal_of}
use Rattle.rules.specs.Changes.{following, noted, closed, closed_cell, charged, changed}
use Rattle.rules.specs.Replies.{time_in, orders_in, bid_in, ask_in, kept_in, lapses_in, report_of, outlook_in}
use Rattle.rules.specs.Calls as B
use Rattle.rules.specs.Book.{after}
use Rattle.rules.specs.Bounds.{EventBounds, RunningBounds}
use Rattle.rules.proofs.Answers.{refused_by, accepted_by}
use Rattle.rules.proofs.Refusals.{skip, stop, clear, passed, first_stops}
use Rattle.rules.proofs.Bounds.{bounds, event_bounds_none}
use Rattle.clock.specs.declared.Duty.{Duty}
use Rattle.clock.specs.declared.Clock.{Clock}
use Rattle.quantum.specs.declared.Quantum.{Quantum}
use Rattle.quantum.specs.declared.Sent.{Sent}
use Rattle.clock.specs.declared.Totals.{Totals}
use Rattle.quantum.specs.Represents as S
use Rattle.clock.specs.Clocks.{clock_of}
use Rattle.quantum.specs.Represents.{quantum_of}
use Rattle.events.specs.Represents.{taken}
use Rattle.quantum.proofs.Answers.{whole_is}
use Rattle.outlook.specs.Represents.{Represents, Outlooked}
use Rattle.month.specs.declared.Month.{Month}
use Rattle.quantum.specs.Represents.{idle_row, quantum_in}
use Rattle.month.specs.Represents.{month_of, Reached, Answered}
use Rattle.month.specs.Internal.{with_cell, without_quantum, counted}
use Rattle.month.proofs.Answers.{stopped, stopped_by, went}
use Rattle.month.proofs.Fields.{running_is, quantum_is, cells_are, count_is, closed_is, open_is, Opened, opened}

-- months with the same fields are the same
pub same-month : (m n : Month) → m.running ≡ n.running → m.place ≡ n.place → m.share ≡ n.share → m.allowed ≡ n.allowed
    → m.count ≡ n.count → m.quantum ≡ n.quantum → m.cells ≡ n.cells → m ≡ n
same-month m n p q r l c s t =
    λ i. record { running = p i; place = q i; share = r i; allowed = l i; count = c i; quantum = s i; cells = t i }

-- ---- open

-- the words were read as a row, or refused
pub open_unread : (m : Month) (words : List ℕ) (day : ℕ) (opening : Opening) (k : ℕ) → refused k ≡ read_row paper opening.spread words → Answered m (Open words day opening) m (refused k)
unfolding read_row refusal_of causes
open_unread m words day opening k e =
    let (j, n, f) = refused_by (first_number (row_causes paper opening.spread words)) k (row_of words) e in
    subst (λ (x : ℕ). Answered m (Open words day opening) m (refused x)) (sym f)
    (stopped m (Open words day opening) j (λ b g is. first_stops (row_causes paper opening.spread words) _ j n))

pub record ReadAs (spread : SpreadRule) (words : List ℕ) (row : Row) : Type 0 where
  pub seven : length words ≡ 7
  pub is : row_of words ≡ row
  pub good : good_row_for paper spread row ≡ true

pub read_as : (spread : SpreadRule) (words : List ℕ) (row : Row) → accepted row ≡ read_row paper spread words → ReadAs spread words row
unfolding read_row
read_as spread words row e =
    let (n, f) = accepted_by (first_number (row_causes paper spread words)) row (row_of words) e in
    let one = passed 0 _ _ n in
    let two = passed 1 _ _ one.1 in
    record {
      seven = eqb-true _ _ (not-false _ one.0);
      is = sym f;
      good = ap (good_row_for paper spread) f ∙ not-false _ two.0;
    }

module _ (m : Month) (words : List ℕ) (row : Row) (day : ℕ) (opening : Opening) (read : ReadAs opening.spread words row) where
  row_passes : (rest : List Cause) → first_number (row_causes paper opening.spread words ++ rest) ≡ first_number rest
  row_passes rest =
      skip _ _ (ap not (eq-eqb _ _ read.seven)) (skip _ _ (ap not (ap (good_row_for paper opening.spread) read.is ∙ read.good)) refl)

  abbrev spot : ℕ
  spot = place_of day row.expiry row.quantum

  spot_is : place_of day (row_of words).expiry (row_of words).quantum ≡ spot
  spot_is = ap (λ (r : Row). place_of day r.expiry r.quantum) read.is

  -- the named cell, by the book
  named : (b : Book) → m ≡ month_of b → cell_at b.cells (place_of day (row_of words).expiry (row_of words).quantum) ≡ cell_at m.cells spot
  named b is = ap (cell_at b.cells) spot_is ∙ ap (λ (cs : List Cell). cell_at cs spot) (sym (cells_are m b is))

  pub open_range : (within 1 31 day && good_settlement opening.spread) ≡ false → Answered m (Open words day opening) m (refused 3)
  unfolding refusal_of causes
  open_range h = stopped m (Open words day opening) 2 (λ b g is. row_passes _ ∙ stop _ _ (ap not h))

  module _ (h : (within 1 31 day && good_settlement opening.spread) ≡ true) where
    pub open_filled : (cell_at m.cells spot).filled ≡ true → Answered m (Open words day opening) m (refused 4)
    unfolding refusal_of causes
    open_filled k =
        stopped m (Open words day opening) 3
        (λ b g is. row_passes _ ∙ skip _ _ (ap not h) (stop _ _ (ap (λ (c : Cell). c.filled) (named b is) ∙ k)))

    module _ (k : (cell_at m.cells spot).filled ≡ false) where
      pub open_running : m.running ≡ true → Answered m (Open words day opening) m (refused 6)
      unfolding refusal_of causes
      open_running l =
          stopped m (Open words day opening) 5
          (λ b g is.
          row_passes _ ∙ skip _ _ (ap not h) (skip _ _ (ap (λ (c : Cell). c.filled) (named b is) ∙ k) (stop _ _ (open_is m b is l))))

      module _ (l : m.running ≡ false) where
        pub open_allowed : good_lapse_limit opening.allowed ≡ false → Answered m (Open words day opening) m (refused 17)
        unfolding refusal_of causes
        open_allowed n =
            stopped m (Open words day opening) 16
            (λ b g is.
            row_passes _
            ∙ skip _ _ (ap not h) (skip _ _ (ap (λ (c : Cell). c.filled) (named b is) ∙ k) (skip _ _ (closed_is m b is l) (stop _ _ (ap not n)))))

        pub open_strike : good_lapse_limit opening.allowed ≡ true → good_spread_rule opening.spread ≡ false → Answered m (Open words day opening) m (refused 18)
        unfolding refusal_of causes
        open_strike n s =
            stopped m (Open words day opening) 17
            (λ b g is.
            row_passes _
            ∙ skip _ _ (ap not h)
            (skip _ _ (ap (λ (c : Cell). c.filled) (named b is) ∙ k) (skip _ _ (closed_is m b is l) (skip _ _ (ap not n) (stop _ _ (ap not s))))))

        pub open_done : good_lapse_limit opening.allowed ≡ true → good_spread_rule opening.spread ≡ true → (q : Quantum) (place : ℕ) → q ≡ quantum_of row opening.spread [] → place ≡ spot
            → Answered m (Open words day opening)
            (counted (record { running = true; place = place; share = row.share; allowed = opening.allowed; count = m.count; quantum = q; cells = m.cells }))
            (accepted done)
        unfolding refusal_of causes changed month_of
        open_done n s q place e f =
            went m _ (Open words day opening) done
            (λ b g is. (
              row_passes _
                  ∙ skip _ _ (ap not h)
                  (skip _ _ (ap (λ (c : Cell). c.filled) (named b is) ∙ k) (skip _ _ (closed_is m b is l) (skip _ _ (ap not n) (skip _ _ (ap not s) clear)))),
              same-month _ _ refl (f ∙ sym spot_is) (ap (λ (r : Row). r.share) (sym read.is)) refl (ap following (count_is m b is))
                  (e ∙ ap (λ (r : Row). quantum_of r opening.spread []) (sym read.is)) (cells_are m b is),
              refl,
            ))

-- ---- events

-- with none open
pub idle_send : (r : Running) (e : Event) → is_open r ≡ false → first_number (send_causes r e) ≡ 7
idle_send Idle e h = stop _ _ refl
idle_send (Quoting place row opening events) e h = let z : ◌≡◌ {A = ℕ} 0 1 = cc in absurd (omega arith)

pub send_idle : (m : Month) (e : Event) → m.running ≡ false → Answered m (Send e) m (refused 7)
unfolding refusal_of causes
send_idle m e h = stopped m (Send e) 6 (λ b g is. idle_send b.running e (closed_is m b is h))

-- the book's refusal is the open quantum's
pub send_refusal : (m : Month) (b : Book) (e : Event) (o : Opened m b) → refusal_of paper b (Send e) ≡ event_refusal o.row o.events e
unfolding refusal_of causes event_refusal
send_refusal m b e o = ap (λ (r : Running). first_number (send_causes r e)) o.running

module _ (m : Month) (e : Event) (sent : Sent) (h : m.running ≡ true) (a : S.Answered m.quantum e sent) where
  pub send_refused : (f : Refusal) → sent.answer ≡ Err f → Answered m (Send e) m (refused (number_of f))
  send_refused f k =
      stopped_by m (Send e) (number_of f)
      (λ b g is.
      let o = opened m b g is h in
      ap shown_answer (sym k)
      ∙ a.answer o.row o.opening.spread o.events o.bounds.events_good o.quantum
      ∙ ap (λ (n : ℕ). outcome_by n done) (sym (send_refusal m b e o)))

  pub send_done : sent.answer ≡ (Ok tt)
      → Answered m (Send e) (counted (record { running = m.running; place = m.place; share = m.share; allowed = m.allowed; count = m.count; quantum = sent.quantum; cells = m.cells }))
      (accepted done)
  unfolding changed month_of
  send_done k =
      went m _ (Send e) done
      (λ b g is.
      let o = opened m b g is h in
      let zero : event_refusal o.row o.events e ≡ 0 =
      (accepted_by _ done done (ap shown_answer (sym k) ∙ a.answer o.row o.opening.spread o.events o.bounds.events_good o.quantum)).0 in
      let next : sent.quantum ≡ quantum_of o.row o.opening.spread (o.events ++ (e ∷ [])) =
      a.quantum o.row o.opening.spread o.events o.bounds.events_good o.quantum
      ∙ ap (λ (n : ℕ). quantum_of o.row o.opening.spread (taken n o.events e)) zero in (
        send_refusal m b e o ∙ zero,
        same-month _ _ h o.at o.share o.allowed (ap following (count_is m b is)) next (cells_are m b is)
            ∙ ap (λ (r : Running). month_of (record { running = noted r e; cells = b.cells; count = following b.count })) (sym o.running),
        refl,
      ))

-- ---- close and drop

module _ (m : Month) (active passive : Kopecks) where
  pub close_range : good_charges paper active passive ≡ false → Answered m (Close active passive) m (refused 3)
  unfolding refusal_of causes
  close_range h = stopped m (Close active passive) 2 (λ b g is. stop _ _ (ap not h))

  pub close_idle : good_charges paper active passive ≡ true → m.running ≡ false → Answered m (Close active passive) m (refused 7)
  unfolding refusal_of causes
  close_idle h k = stopped m (Close active passive) 6 (λ b g is. skip _ _ (ap not h) (stop _ _ (ap not (closed_is m b is k))))

  abbrev filled_by : Totals → Millis → Cell
  filled_by totals length =
      record {
        filled = true;
        kept = totals.kept;
        length = length;
        share = m.share;
        allowed = m.allowed;
        lapses = totals.lapses;
        active = active;
        passive = passive;
      }

  pub close_done : good_charges paper active passive ≡ true → m.running ≡ true → (totals : Totals) (length : Millis)
      → ((row : Row) (sp : SpreadRule) (events : List Event) → EventBounds row events → m.quantum ≡ quantum_of row sp events
      → (totals.kept.0 ≡ kept_below row sp events row.length.0) × (totals.lapses ≡ lapses_below row sp events row.length.0))
      → length ≡ m.quantum.duty.length
      → Answered m (Close active passive)
      (counted (without_quantum (with_cell m m.place (filled_by totals length))))
      (accepted done)
  unfolding refusal_of causes changed month_of
  close_done h k totals length l w =
      went m _ (Close active passive) done
      (λ b g is.
      let o = opened m b g is k in
      let ends = l o.row o.opening.spread o.events o.bounds.events_good o.quantum in
      let cell : ◌≡◌ {A = Cell} (filled_by totals length)
      (closed_cell o.row o.opening o.events active passive) =
      λ i.
      record {
        filled = true;
        kept = millis (ends.0 i);
        length = (w ∙ whole_is o.row o.opening.spread o.events m.quantum o.quantum) i;
        share = o.share i;
        allowed = o.allowed i;
        lapses = ends.1 i;
        active = active;
        passive = passive;
      } in (
        skip _ _ (ap not h) (skip _ _ (ap not (open_is m b is k)) clear),
        same-month _ _ refl refl refl refl (ap following (count_is m b is)) refl
            ((λ i. set (cells_are m b is i) (o.at i) (cell i))
            ∙ ap (λ (r : Running). closed r active passive b.cells) (sym o.running)),
        refl,
      ))

pub drop_idle : (m : Month) → m.running ≡ false → Answered m Drop m (refused 7)
unfolding refusal_of causes
drop_idle m k = stopped m Drop 6 (λ b g is. stop _ _ (ap not (closed_is m b is k)))

pub drop_done : (m : Month) → m.running ≡ true → Answered m Drop (counted (without_quantum m)) (accepted done)
unfolding refusal_of causes changed month_of
drop_done m k =
    went m _ Drop done
    (λ b g is. (skip _ _ (ap not (open_is m b is k)) clear, same-month _ _ refl refl refl refl (ap following (count_is m b is)) refl (cells_are m b is), refl))

-- ---- charge, withdraw and look: a named cell

module _ (m : Month) (day expiry quantum : ℕ) where
  -- the cell that the call names, by the book
  cell_is : (b : Book) → m ≡ month_of b → cell_at b.cells (place_of day expiry quantum) ≡ cell_at m.cells (place_of day expiry quantum)
  cell_is b is = ap (λ (cs : List Cell). cell_at cs (place_of day expiry quantum)) (sym (cells_are m b is))

  filled_is : (t : Bool) → (cell_at m.cells (place_of day expiry quantum)).filled ≡ t → (b : Book) → m ≡ month_of b
      → not (cell_at b.cells (place_of day expiry quantum)).filled ≡ not t
  filled_is t k b is = ap (λ (c : Cell). not c.filled) (cell_is b is) ∙ ap not k

  module _ (active passive : Kopecks) where
    pub charge_range : (good_cell day expiry quantum && good_charges paper active passive) ≡ false
        → Answered m (Charge day expiry quantum active passive) m (refused 3)
    unfolding refusal_of causes
    charge_range h = stopped m (Charge day expiry quantum active passive) 2 (λ b g is. stop _ _ (ap not h))

    pub charge_blank : (good_cell day expiry quantum && good_charges paper active passive) ≡ true
        → (cell_at m.cells (place_of day expiry quantum)).filled ≡ false → Answered m (Charge day expiry quantum active passive) m (refused 5)
    unfolding refusal_of causes
    charge_blank h k =
        stopped m (Charge day expiry quantum active passive) 4 (λ b g is. skip _ _ (ap not h) (stop _ _ (filled_is false k b is)))

    pub charge_done : (good_cell day expiry quantum && good_charges paper active passive) ≡ true
        → (cell_at m.cells (place_of day expiry quantum)).filled ≡ true
        → Answered m (Charge day expiry quantum active passive)
        (counted (with_cell m (place_of day expiry quantum) (charged active passive (cell_at m.cells (place_of day expiry quantum))))) (accepted done)
    unfolding refusal_of causes changed month_of
    charge_done h k =
        went m _ (Charge day expiry quantum active passive) done
        (λ b g is. (
          skip _ _ (ap not h) (skip _ _ (filled_is true k b is) clear),
          ap (λ (n : Month). counted (with_cell n (place_of day expiry quantum) (charged active passive (cell_at n.cells (place_of day expiry quantum))))) is,
          refl,
        ))

  pub withdraw_range : good_cell day expiry quantum ≡ false → Answered m (Withdraw day expiry quantum) m (refused 3)
  unfolding refusal_of causes
  withdraw_range h = stopped m (Withdraw day expiry quantum) 2 (λ b g is. stop _ _ (ap not h))

  pub look_range : good_cell day expiry quantum ≡ false → Answered m (Look day expiry quantum) m (refused 3)
  unfolding refusal_of causes
  look_range h = stopped m (Look day expiry quantum) 2 (λ b g is. stop _ _ (ap not h))

  module _ (h : good_cell day expiry quantum ≡ true) where
    pub withdraw_blank : (cell_at m.cells (place_of day expiry quantum)).filled ≡ false → Answered m (Withdraw day expiry quantum) m (refused 5)
    unfolding refusal_of causes
    withdraw_blank k = stopped m (Withdraw day expiry quantum) 4 (λ b g is. skip _ _ (ap not h) (stop _ _ (filled_is false k b is)))

    pub look_blank : (cell_at m.cells (place_of day expiry quantum)).filled ≡ false → Answered m (Look day expiry quantum) m (refused 5)
    unfolding refusal_of causes
    look_blank k = stopped m (Look day expiry quantum) 4 (λ b g is. skip _ _ (ap not h) (stop _ _ (filled_is false k b is)))

    pub withdraw_done : (cell_at m.cells (place_of day expiry quantum)).filled ≡ true
        → Answered m (Withdraw day expiry quantum) (counted (with_cell m (place_of day expiry quantum) blank_cell)) (accepted done)
    unfolding refusal_of causes changed month_of
    withdraw_done k =
        went m _ (Withdraw day expiry quantum) done
        (λ b g is. (
          skip _ _ (ap not h) (skip _ _ (filled_is true k b is) clear),
          ap (λ (n : Month). counted (with_cell n (place_of day expiry quantum) blank_cell)) is,
          refl,
        ))

    pub look_done : (cell_at m.cells (place_of day expiry quantum)).filled ≡ true → (v : CellView)
        → v ≡ view_of paper (cell_at m.cells (place_of day expiry quantum)) → Answered m (Look day expiry quantum) m (accepted (cell v))
    unfolding refusal_of causes changed
    look_done k v e =
        went m m (Look day expiry quantum) (cell v)
        (λ b g is. (
          skip _ _ (ap not h) (skip _ _ (filled_is true k b is) clear),
          is,
          ap cell (e ∙ ap (view_of paper) (sym (cell_is b is))),
        ))

-- ---- report

-- what is read off a quantum
pub record ReadOff (q : Quantum) (time kept : Millis) (lapses orders : ℕ) (bid ask : Option Steps) : Type 0 where
  pub time_is : time ≡ q.clock.time
  pub kept_is : kept ≡ q.clock.kept
  pub lapses_are : lapses ≡ q.clock.lapses
  pub orders_are : (row : Row) (sp : SpreadRule) (events : List Event) → EventBounds row events → q ≡ quantum_of row sp events → orders ≡ length (live events)
  pub bid_is : (row : Row) (sp : SpreadRule) (events : List Event) → EventBounds row events → q ≡ quantum_of row sp events → bid ≡ best_bid row (live events)
  pub ask_is : (row : Row) (sp : SpreadRule) (events : List Event) → EventBounds row events → q ≡ quantum_of row sp events → ask ≡ best_ask row (live events)

-- it is what the book's report says, also where none is open
record Shows (r : Running) (time kept : Millis) (lapses orders : ℕ) (bid ask : Option Steps) : Type 0 where
  time_shown : time ≡ millis (time_in r)
  kept_shown : kept ≡ millis (kept_in r)
  lapses_shown : lapses ≡ lapses_in r
  orders_shown : orders ≡ orders_in r
  bid_shown : bid ≡ bid_in r
  ask_shown : ask ≡ ask_in r

shows : (r : Running) (q : Quantum) (time kept : Millis) (lapses orders : ℕ) (bid ask : Option Steps) → RunningBounds paper r → q ≡ quantum_in r
    → ReadOff q time kept lapses orders bid ask → Shows r time kept lapses orders bid ask
unfolding quantum_of clock_of present time_from live apply_all kept_below count_below best lead filter lapses_below lapses_of stretches
shows Idle q time kept lapses orders bid ask g is h =
    record {
      time_shown = h.time_is ∙ ap (λ (x : Quantum). x.clock.time) is;
      kept_shown = h.kept_is ∙ ap (λ (x : Quantum). x.clock.kept) is;
      lapses_shown = h.lapses_are ∙ ap (λ (x : Quantum). x.clock.lapses) is;
      orders_shown = h.orders_are idle_row (Settled (steps (pos 0))) [] (event_bounds_none idle_row) is;
      bid_shown = h.bid_is idle_row (Settled (steps (pos 0))) [] (event_bounds_none idle_row) is;
      ask_shown = h.ask_is idle_row (Settled (steps (pos 0))) [] (event_bounds_none idle_row) is;
    }
shows (Quoting place row opening events) q time kept lapses orders bid ask g is h =
    record {
      time_shown = h.time_is ∙ ap (λ (x : Quantum). x.clock.time) is;
      kept_shown = h.kept_is ∙ ap (λ (x : Quantum). x.clock.kept) is;
      lapses_shown = h.lapses_are ∙ ap (λ (x : Quantum). x.clock.lapses) is;
      orders_shown = h.orders_are row opening.spread events g.events_good is;
      bid_shown = h.bid_is row opening.spread events g.events_good is;
      ask_shown = h.ask_is row opening.spread events g.events_good is;
    }

pub report_done : (m : Month) (time kept : Millis) (lapses orders : ℕ) (bid ask : Option Steps) (failures : List ℕ) (charge : Kopecks)
    → ReadOff m.quantum time kept lapses orders bid ask → failures ≡ all_failures paper m.cells → charge ≡ kopecks (fee paper m.cells)
    → Answered m B.Report m
    (accepted (report (record { running = m.running; time = time; orders = orders; bid = bid; ask = ask; kept = kept; lapses = lapses; failures = failures; fee = charge })))
unfolding refusal_of causes changed report_of
report_done m time kept lapses orders bid ask failures charge h f c =
    went m m B.Report (report _)
    (λ b g is.
    let s = shows b.running m.quantum time kept lapses orders bid ask g.running (quantum_is m b is) h in (
      clear,
      is,
      λ i.
          report
          (record {
            running = running_is m b is i;
            time = s.time_shown i;
            orders = s.orders_shown i;
            bid = s.bid_shown i;
            ask = s.ask_shown i;
            kept = s.kept_shown i;
            lapses = s.lapses_shown i;
            failures = (f ∙ ap (all_failures paper) (cells_are m b is)) i;
            fee = (c ∙ ap (λ (cells : List Cell). kopecks (fee paper cells)) (cells_are m b is)) i;
          }),
    ))

-- ---- outlook

pub outlook_idle : (m : Month) → m.running ≡ false → Answered m B.Outlook m (refused 7)
unfolding refusal_of causes
outlook_idle m k = stopped m B.Outlook 6 (λ b g is. stop _ _ (ap not (closed_is m b is k)))

-- what the outlook depends on is the open quantum's
module _ (m : Month) (duty : Duty) (clock : Clock) (d : duty ≡ m.quantum.duty) (c : clock ≡ m.quantum.clock) where
  stands : (b : Book) (o : Opened m b) → Represents o.row o.opening o.events duty clock m.share m.allowed
  unfolding quantum_of
  stands b o =
      record {
        row_good = o.bounds.row_good;
        events_good = o.bounds.events_good;
        duty_is = d ∙ ap (λ (q : Quantum). q.duty) o.quantum;
        clock_is = c ∙ ap (λ (q : Quantum). q.clock) o.quantum;
        share_is = o.share;
        allowed_is = o.allowed;
      }

  pub outlook_stands : Reached m → m.running ≡ true → Outlooked duty clock m.share m.allowed
  outlook_stands r k =
      let b = after paper r.calls in
      let o = opened m b (bounds paper r.calls) r.is k in
      record { row = o.row; opening = o.opening; events = o.events; represents = stands b o }

  pub outlook_done : m.running ≡ true → (seen : Outlook)
      → ((row : Row) (opening : Opening) (events : List Event) → Represents row opening events duty clock m.share m.allowed → seen ≡ outlook_of paper row opening events)
      → Answered m B.Outlook m (accepted (outlook seen))
  unfolding refusal_of causes changed outlook_in
  outlook_done k seen h =
      went m m B.Outlook (outlook seen)
      (λ b g is.
      let o = opened m b g is k in (
        skip _ _ (ap not (open_is m b is k)) clear,
        is,
        ap outlook (h o.row o.opening o.events (stands b o)) ∙ ap (λ (r : Running). outlook (outlook_in paper r)) (sym o.running),
      ))
