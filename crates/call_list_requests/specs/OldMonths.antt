-- Document 02, W6, of what the list runner writes: "In old months whose rows all have p at most 79, p is multiplied by ten first, and they must give
-- the verdicts and fee that the meter gave for the same calls just before this ticket".
use Rattle.std.specs.Prelude.{ℕ, ◌*◌, ◌≡◌, List, [], ◌∷◌, ◌++◌, map, length, drop}
use Rattle.rules.specs.Answers.{shown_report}
use Rattle.rules.specs.Calls.{Call, fresh_book}
use Rattle.rules.specs.Replies.{report_of}
use Rattle.rules.specs.Book.{answer_of, after}
use Rattle.rules.specs.Calls as B
use Rattle.rules.specs.Histories.{refusals_from, answers_from}
use Rattle.requests.specs.Before.{charge_before, percents}
use Rattle.requests.specs.OldMonths.{AtMost79, tenfold, tenfold_answer}
use Rattle.requests.specs.OldCharges.{NotPast}
use Rattle.answer_words.specs.Words.{answer_words}
use Rattle.call_list.specs.Listing.{Listed}
use Rattle.call_list.specs.Listing.{list_words}
use Rattle.call_list.specs.Demand.{answer_at, refusals_in, CallsRan}

-- The old list's calls, p multiplied by ten, have run from a fresh month: their answers, and what a further call is answered, are those of
-- the book by the terms of before, fed the old list; a cell looked at has ten times that p.
pub record AsInPercents (old : List Call) (before written : List ℕ) : Type 0 where
  pub answers : written ≡ list_words (map tenfold_answer (answers_from (percents charge_before) fresh_book old)) ++ drop (20 * length old) before
  pub refusals : refusals_in (length old) written ≡ refusals_from (percents charge_before) fresh_book old
  -- any further call, a look at any cell among them, with no A or P past the limit of before (W8): what is written last where it follows
  -- the list
  pub next : (c : Call) → AtMost79 c → NotPast charge_before c → (bytes buffer longer : List ℕ) (r : Listed)
      → CallsRan (map tenfold old ++ (tenfold c ∷ [])) bytes buffer longer r
      → answer_at longer (length old) ≡ answer_words (tenfold_answer (answer_of (percents charge_before) (after (percents charge_before) old) c))
  -- so a report: both quotes, kept time, failure counts and fee
  pub report : (bytes buffer longer : List ℕ) (r : Listed) → CallsRan (map tenfold old ++ (B.Report ∷ [])) bytes buffer longer r
      → answer_at longer (length old) ≡ answer_words (shown_report (report_of (percents charge_before) (after (percents charge_before) old)))
