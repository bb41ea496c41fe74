-- Document 01, "A row and a month": what an accepted call shows.
use Rattle.std.specs.Prelude.{ℕ, length, None, Option}
use Rattle.rules.specs.declared.Steps.{Steps}
use Rattle.rules.specs.declared.Amendment.{Amendment}
use Rattle.rules.specs.declared.Preview.{Preview}
use Rattle.rules.specs.declared.Report.{Report as ReportValues}
use Rattle.rules.specs.declared.Outlook.{Outlook as OutlookValues}
use Rattle.rules.specs.Terms.{Terms}
use Rattle.rules.specs.Units.{millis, kopecks}
use Rattle.rules.specs.Cells.{place_of, cell_at}
use Rattle.rules.specs.Orders.{live, present}
use Rattle.rules.specs.Kept.{best_bid, best_ask, kept_below}
use Rattle.rules.specs.Lapses.{lapses_below}
use Rattle.rules.specs.Pay.{view_of, all_failures, fee}
use Rattle.rules.specs.Outlook.{no_outlook, outlook_of}
use Rattle.rules.specs.Answers.{Reply, done, cell, asked, report, outlook}
use Rattle.rules.specs.Calls.{Call, Running, Book, is_open, amend_of, Open, Send, Message, Ask, Commit, Close, Drop, Charge, Withdraw, Look, Report, Outlook, Idle, Quoting}
use Rattle.rules.specs.Changes.{noted}

-- ---- what report answers: "open or not, time of the open quantum, number of live orders, both best quotes, kept so far, each
-- series' failure count, fee; with none open, time 0, no orders, quotes absent, kept 0"

abbrev pub time_in : Running → ℕ
time_in Idle = 0
time_in (Quoting place row opening events) = present events

abbrev pub orders_in : Running → ℕ
orders_in Idle = 0
orders_in (Quoting place row opening events) = length (live events)

abbrev pub bid_in : Running → Option Steps
bid_in Idle = None
bid_in (Quoting place row opening events) = best_bid row (live events)

abbrev pub ask_in : Running → Option Steps
ask_in Idle = None
ask_in (Quoting place row opening events) = best_ask row (live events)

abbrev pub kept_in : Running → ℕ
kept_in Idle = 0
kept_in (Quoting place row opening events) = kept_below row opening.spread events (present events)

-- document 02, W1: "look and report show the count, 0 with none open"
abbrev pub lapses_in : Running → ℕ
lapses_in Idle = 0
lapses_in (Quoting place row opening events) = lapses_below row opening.spread events (present events)

-- document 02, W5: asking answers "both best quotes after it and a ticket": those of the quantum with that amend taken, and the ticket
-- "holds the amendment and the month's count"
unfoldable pub preview_of : Book → Amendment → Preview
preview_of b a =
    record {
      bid = bid_in (noted b.running (amend_of a));
      ask = ask_in (noted b.running (amend_of a));
      ticket = record { amendment = a; count = b.count };
    }

module _ (terms : Terms) where
  unfoldable pub report_of : Book → ReportValues
  report_of b =
      record {
        running = is_open b.running;
        time = millis (time_in b.running);
        orders = orders_in b.running;
        bid = bid_in b.running;
        ask = ask_in b.running;
        kept = millis (kept_in b.running);
        lapses = lapses_in b.running;
        failures = all_failures terms b.cells;
        fee = kopecks (fee terms b.cells);
      }

  -- the outlook on the open quantum
  unfoldable pub outlook_in : Running → OutlookValues
  outlook_in Idle = no_outlook
  outlook_in (Quoting place row opening events) = outlook_of terms row opening events

  -- what an accepted call shows: ask its quotes and ticket, look "the cell with verdict and weight", report its values, outlook its own, the
  -- others nothing
  abbrev pub reply_of : Book → Call → Reply
  reply_of b (Open words day opening) = done
  reply_of b (Send e) = done
  reply_of b (Message start bytes) = done
  reply_of b (Ask a) = asked (preview_of b a)
  reply_of b (Commit a ticket) = done
  reply_of b (Close active passive) = done
  reply_of b Drop = done
  reply_of b (Charge day expiry quantum active passive) = done
  reply_of b (Withdraw day expiry quantum) = done
  reply_of b (Look day expiry quantum) = cell (view_of terms (cell_at b.cells (place_of day expiry quantum)))
  reply_of b Report = report (report_of b)
  reply_of b Outlook = outlook (outlook_in b.running)
