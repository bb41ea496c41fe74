-- Document 02, W8, of what the list runner writes: "Any list of calls with no A or P past the old limit gives the same fee and cells as just before
-- this ticket."
use Rattle.std.specs.Prelude.{ℕ, ◌*◌, ◌≡◌, List, [], ◌∷◌, ◌++◌, length, drop}
use Rattle.rules.specs.Answers.{shown_report}
use Rattle.rules.specs.Calls.{Call, fresh_book}
use Rattle.rules.specs.Replies.{report_of}
use Rattle.rules.specs.Book.{answer_of, after}
use Rattle.rules.specs.Calls as B
use Rattle.rules.specs.Histories.{refusals_from, answers_from}
use Rattle.requests.specs.Before.{charge_before, tenths}
use Rattle.requests.specs.OldCharges.{NotPast}
use Rattle.answer_words.specs.Words.{answer_words}
use Rattle.call_list.specs.Listing.{Listed}
use Rattle.call_list.specs.Listing.{list_words}
use Rattle.call_list.specs.Demand.{answer_at, refusals_in, CallsRan}

-- A list of calls has run from a fresh month: its answers, and what a further call is answered, are those of the book by the terms of
-- before.
pub record AsWithOldLimit (calls : List Call) (before written : List ℕ) : Type 0 where
  pub answers : written ≡ list_words (answers_from (tenths charge_before) fresh_book calls) ++ drop (20 * length calls) before
  pub refusals : refusals_in (length calls) written ≡ refusals_from (tenths charge_before) fresh_book calls
  -- any further call, a look at any cell among them: what is written last where it follows the list
  pub next : (c : Call) → NotPast charge_before c → (bytes buffer longer : List ℕ) (r : Listed)
      → CallsRan (calls ++ (c ∷ [])) bytes buffer longer r
      → answer_at longer (length calls) ≡ answer_words (answer_of (tenths charge_before) (after (tenths charge_before) calls) c)
  -- so a report: both quotes, kept time, failure counts and fee
  pub report : (bytes buffer longer : List ℕ) (r : Listed) → CallsRan (calls ++ (B.Report ∷ [])) bytes buffer longer r
      → answer_at longer (length calls) ≡ answer_words (shown_report (report_of (tenths charge_before) (after (tenths charge_before) calls)))
