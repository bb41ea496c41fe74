-- Document 02, W6: "In old months whose rows all have p at most 79, p is multiplied by ten first, and they must give the verdicts and fee that the
-- meter gave for the same calls just before this ticket, W2's rule included." proofs/OldMonths shows that they do.
use Rattle.std.specs.Prelude.{ℕ, ◌*◌, ◌≤◌, ◌≡◌, List, map, eqb, length, get_or, set, if◌then◌else◌}
use Rattle.rules.specs.declared.Row.{Row}
use Rattle.rules.specs.declared.Cell.{Cell}
use Rattle.rules.specs.declared.CellView.{CellView}
use Rattle.lists.specs.Lists.{All}
use Rattle.rules.specs.Cells.{cell_at}
use Rattle.rules.specs.Pay.{view_of, all_failures, fee}
use Rattle.rules.specs.Answers.{Outcome, accepted, refused, Reply, done, cell, asked, report, outlook}
use Rattle.rules.specs.Calls.{Call, rows_in, map_rows, Running, Idle, Quoting, Book, fresh_book}
use Rattle.rules.specs.Replies.{report_of}
use Rattle.rules.specs.Book.{answer_of, after}
use Rattle.rules.specs.Histories.{refusals_from, answers_from}
use Rattle.requests.specs.Before.{percents, tenths}

-- ---- the old list and the new one

-- "rows all have p at most 79": the seventh word of each row of seven words, with SP or a strike
abbrev pub AtMost79 : Call → Type 0
AtMost79 c = All (λ (words : List ℕ). length words ≡ 7 → get_or words 6 0 ≤ 79) (rows_in c)

-- "p is multiplied by ten first"; a row of another length, refused by 1, stays as it is
abbrev pub tenfold_words : List ℕ → List ℕ
tenfold_words words = if eqb (length words) 7 then set words 6 (10 * get_or words 6 0) else words

abbrev pub tenfold : Call → Call
tenfold c = map_rows tenfold_words c

-- ---- the old book and the new one: equal, but that p is ten times as large

abbrev pub tenfold_row : Row → Row
tenfold_row row =
    record {
      expiry = row.expiry;
      quantum = row.quantum;
      length = row.length;
      minimum = row.minimum;
      a = row.a;
      b = row.b;
      share = 10 * row.share;
    }

abbrev pub tenfold_cell : Cell → Cell
tenfold_cell c =
    record {
      filled = c.filled;
      kept = c.kept;
      length = c.length;
      share = 10 * c.share;
      allowed = c.allowed;
      lapses = c.lapses;
      active = c.active;
      passive = c.passive;
    }

abbrev pub tenfold_running : Running → Running
tenfold_running Idle = Idle
tenfold_running (Quoting place row opening events) = Quoting place (tenfold_row row) opening events

abbrev pub tenfold_book : Book → Book
tenfold_book b = record { running = tenfold_running b.running; cells = map tenfold_cell b.cells; count = b.count }

-- the answers: the same, but for the p of a cell looked at
abbrev pub tenfold_view : CellView → CellView
tenfold_view v = record { cell = tenfold_cell v.cell; met = v.met; weight = v.weight }

abbrev pub tenfold_reply : Reply → Reply
tenfold_reply done = done
tenfold_reply (cell v) = cell (tenfold_view v)
tenfold_reply (asked p) = asked p
tenfold_reply (report r) = report r
tenfold_reply (outlook o) = outlook o

abbrev pub tenfold_answer : Outcome Reply → Outcome Reply
tenfold_answer (accepted r) = accepted (tenfold_reply r)
tenfold_answer (refused n) = refused n

-- ---- the theorem, for every list of calls with such rows

-- of two books, by the new terms and by the old: "the verdicts and fee"
pub record SamePay (most : ℕ) (new old : Book) : Type 0 where
  -- the cells but for p, the open quantum likewise, and W5's count
  pub book : new ≡ tenfold_book old
  -- verdict and weight of every cell
  pub views : (place : ℕ) → view_of (tenths most) (cell_at new.cells place) ≡ tenfold_view (view_of (percents most) (cell_at old.cells place))
  pub failures : all_failures (tenths most) new.cells ≡ all_failures (percents most) old.cells
  pub fee : fee (tenths most) new.cells ≡ fee (percents most) old.cells
  pub report : report_of (tenths most) new ≡ report_of (percents most) old

pub record SameInTenths (most : ℕ) (calls : List Call) : Type 0 where
  -- refused at the same places by the same numbers
  pub refusals : refusals_from (tenths most) fresh_book (map tenfold calls) ≡ refusals_from (percents most) fresh_book calls
  pub answers : answers_from (tenths most) fresh_book (map tenfold calls) ≡ map tenfold_answer (answers_from (percents most) fresh_book calls)
  -- whatever call comes next is answered likewise
  pub next : (c : Call) → AtMost79 c
      → answer_of (tenths most) (after (tenths most) (map tenfold calls)) (tenfold c) ≡ tenfold_answer (answer_of (percents most) (after (percents most) calls) c)
  pub pay : SamePay most (after (tenths most) (map tenfold calls)) (after (percents most) calls)

abbrev pub OldMonths : Type 0
OldMonths = (most : ℕ) (calls : List Call) → All AtMost79 calls → SameInTenths most calls
