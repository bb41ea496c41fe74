-- What an outlook and a report show of a month's words.
use Rattle.std.proofs.Common.{Option}
use Prim.Native.Nat.{ℕ}
use native.Mathlib.Omega.{arith}
use mathlib.Core.Path.{◌≡◌, refl, sym, ap, ◌∙◌, subst, subst₂}
use mathlib.Core.Bool.{Bool}
use mathlib.Core.List.{List}
use lib.Dec.{eqb}
use lib.ListN.{get_or, take, drop, length}
use Rattle.rules.specs.declared.Steps.{Steps}
use Rattle.rules.specs.declared.Row.{Row}
use Rattle.rules.specs.declared.SpreadRule.{SpreadRule}
use Rattle.rules.specs.declared.Opening.{Opening}
use Rattle.rules.specs.declared.Event.{Event}
use Rattle.rules.specs.declared.Order.{Order}
use Rattle.rules.specs.declared.Cell.{Cell}
use Rattle.rules.specs.declared.Kopecks.{Kopecks}
use Rattle.rules.specs.declared.Outlook.{Outlook}
use Rattle.rules.specs.declared.Side.TheVariants.{Buy, Sell}
use Rattle.rules.specs.Terms.{paper}
use Rattle.rules.specs.Units.{kopecks}
use Rattle.rules.specs.Orders.{live}
use Rattle.rules.specs.Quotes.{best}
use Rattle.rules.specs.Pay.{all_failures, fee as feeOf}
use Rattle.rules.specs.Outlook.{outlook_of}
use Rattle.rules.specs.Answers.{accepted, refused, outlook, report}
use Rattle.rules.specs.Calls.{Call}
use Rattle.rules.specs.Calls as B
use Rattle.rules.specs.Bounds.{EventBounds}
use Rattle.lent.specs.Words.{cells_words}
use Rattle.lent.proofs.Back.{flag_back}
use Rattle.order_table.specs.Table.{table_of, GoodOrders}
use Rattle.clock.specs.declared.Duty.{Duty}
use Rattle.clock.specs.declared.Clock.{Clock}
use Rattle.clock.specs.Words.{duty_words, clock_words}
use Rattle.events.proofs.Represents.{good_orders}
use Rattle.quantum.specs.Represents.{quantum_of}
use Rattle.quantum.specs.Words.{quantum_words}
use Rattle.quantum.proofs.Answers.{represents-all}
use Rattle.quantum.proofs.Words.{duty-part, clock-part, table_part}
use Rattle.outlook.specs.Represents.{Represents, Outlooked}
use Rattle.month.specs.declared.Month.{Month}
use Rattle.month.specs.Represents.{Answered}
use Rattle.month.specs.Words.{words_after, HoldsMonth}
use Rattle.month.proofs.Fields.{cells_good}
use Rattle.month.proofs.Calls.{ReadOff, report_done, outlook_idle, outlook_stands, outlook_done}
use Rattle.month.proofs.Words.{month-fits, word_in_lem, quantum_in_lem, cells_in}
use Rattle.month_in_place.specs.Events.{ShowsMonth}
use Rattle.month_in_place.proofs.Months.{flag_is}
use Rattle.month_in_place.proofs.Looks.{shown_of}
use Rattle.cells_in_place.specs.Cells.{HoldsCells}
use Rattle.quanta_in_place.proofs.Quanta.{month_after, idle, on}

-- ---- outlook

pub outlook_none : (ws : List ℕ) → get_or ws 0 0 ≡ 0 → ShowsMonth ws B.Outlook (refused 7)
outlook_none ws h = shown_of ws B.Outlook (refused 7) (λ calls is. outlook_idle (month_after calls) (idle ws h calls is))

module _ (ws : List ℕ) (h : get_or ws 0 0 ≡ 0 → ⊥) (duty : Duty) (clock : Clock) (read-duty : (d : Duty) → take 3 (take 598 (drop 6 ws)) ≡ duty_words d → duty ≡ d)
    (read-clock : (k : Clock) → take 5 (drop 3 (take 598 (drop 6 ws))) ≡ clock_words k → clock ≡ k) where
  module _ (calls : List Call) (is : take 2464 ws ≡ words_after calls) where
    duty_is : duty ≡ (month_after calls).quantum.duty
    duty_is = read-duty _ (duty-part _ (month_after calls).quantum (quantum_in_lem ws (month_after calls) (month-fits calls) is))

    clock_is : clock ≡ (month_after calls).quantum.clock
    clock_is = read-clock _ (clock-part _ (month_after calls).quantum (quantum_in_lem ws (month_after calls) (month-fits calls) is))

    share_is : (month_after calls).share ≡ get_or ws 2 0
    share_is = sym (word_in_lem ws (month_after calls) (month-fits calls) is 2 (omega arith))

    allowed_is : (month_after calls).allowed ≡ get_or ws 3 0
    allowed_is = sym (word_in_lem ws (month_after calls) (month-fits calls) is 3 (omega arith))

  pub outlook_held : HoldsMonth ws → Outlooked duty clock (get_or ws 2 0) (get_or ws 3 0)
  outlook_held m =
      let w = m.calls in
      let is = m.is in
      subst₂ (λ (s a : ℕ). Outlooked duty clock s a) (share_is w is) (allowed_is w is)
      (outlook_stands (month_after w) duty clock (duty_is w is) (clock_is w is) (record { calls = w; is = refl }) (on ws h w is))

  pub outlook_shown : (seen : Outlook)
      → ((row : Row) (opening : Opening) (events : List Event) → Represents row opening events duty clock (get_or ws 2 0) (get_or ws 3 0) → seen ≡ outlook_of paper row opening events)
      → ShowsMonth ws B.Outlook (accepted (outlook seen))
  outlook_shown seen s =
      shown_of ws B.Outlook (accepted (outlook seen))
      (λ calls is.
      outlook_done (month_after calls) duty clock (duty_is calls is) (clock_is calls is) (on ws h calls is) seen
      (λ row opening events r. s row opening events (subst₂ (λ (p a : ℕ). Represents row opening events duty clock p a) (share_is calls is) (allowed_is calls is) r)))

-- ---- report

module _ (ws : List ℕ) (clock : Clock) (read-clock : (k : Clock) → take 5 (drop 3 (take 598 (drop 6 ws))) ≡ clock_words k → clock ≡ k)
    (orders : ℕ) (bid ask : Option Steps)
    (count : (m : ℕ) (live : List Order) → GoodOrders live → take 512 (drop 10 (take 598 (drop 6 ws))) ≡ table_of m live → orders ≡ length live)
    (best-bid : (m : ℕ) (live : List Order) → GoodOrders live → take 512 (drop 10 (take 598 (drop 6 ws))) ≡ table_of m live → bid ≡ best Buy m live)
    (best-ask : (m : ℕ) (live : List Order) → GoodOrders live → take 512 (drop 10 (take 598 (drop 6 ws))) ≡ table_of m live → ask ≡ best Sell m live)
  where
    module _ (calls : List Call) (is : take 2464 ws ≡ words_after calls) where
      abbrev month : Month
      month = month_after calls

      words_are : take 598 (drop 6 ws) ≡ quantum_words month.quantum
      words_are = quantum_in_lem ws month (month-fits calls) is

      -- the table is that of the live orders
      table_is : (row : Row) (sp : SpreadRule) (events : List Event) → EventBounds row events → month.quantum ≡ quantum_of row sp events
          → take 512 (drop 10 (take 598 (drop 6 ws))) ≡ table_of row.minimum.0 (live events)
      table_is row sp events g q = table_part _ month.quantum words_are (month-fits calls).quantum ∙ (represents-all row sp events month.quantum q g).table_is

      read_off : ReadOff month.quantum clock.time clock.kept clock.lapses orders bid ask
      read_off =
          let k = read-clock _ (clock-part _ month.quantum words_are) in
          record {
            time_is = ap (λ (c : Clock). c.time) k;
            kept_is = ap (λ (c : Clock). c.kept) k;
            lapses_are = ap (λ (c : Clock). c.lapses) k;
            orders_are = λ row sp events g q. count row.minimum.0 (live events) (good_orders row events g) (table_is row sp events g q);
            bid_is = λ row sp events g q. best-bid row.minimum.0 (live events) (good_orders row events g) (table_is row sp events g q);
            ask_is = λ row sp events g q. best-ask row.minimum.0 (live events) (good_orders row events g) (table_is row sp events g q);
          }

    pub report_shown : (running : Bool) → running ≡ eqb (get_or ws 0 0) 1 → (failures : List ℕ) (fee : Kopecks)
        → ((cells : List Cell) → take 1860 (drop 604 ws) ≡ cells_words cells → failures ≡ all_failures paper cells)
        → ((cells : List Cell) → take 1860 (drop 604 ws) ≡ cells_words cells → failures ≡ all_failures paper cells → fee ≡ kopecks (feeOf paper cells))
        → ShowsMonth ws B.Report
        (accepted (report (record { running = running; time = clock.time; orders = orders; bid = bid; ask = ask; kept = clock.kept; lapses = clock.lapses; failures = failures; fee = fee })))
    report_shown running r failures fee f p =
        shown_of ws B.Report _
        (λ calls is.
        let m = month_after calls in
        let cells = cells_in ws m (month-fits calls) is in
        let same : m.running ≡ running = sym (flag_back m.running) ∙ ap (λ (w : ℕ). eqb w 1) (sym (flag_is ws calls is)) ∙ sym r in
        subst
        (λ (b : Bool).
        Answered m B.Report m
        (accepted (report (record { running = b; time = clock.time; orders = orders; bid = bid; ask = ask; kept = clock.kept; lapses = clock.lapses; failures = failures; fee = fee }))))
        same
        (report_done m clock.time clock.kept clock.lapses orders bid ask failures fee (read_off calls is) (f m.cells cells) (p m.cells cells (f m.cells cells))))

-- every filled cell is in its bounds
pub holds_cells : (ws : List ℕ) → HoldsMonth ws → HoldsCells (take 1860 (drop 604 ws))
holds_cells ws h =
    let m = month_after h.calls in
    record { cells = m.cells; is = cells_in ws m (month-fits h.calls) h.is; good = cells_good m (record { calls = h.calls; is = refl }) }
