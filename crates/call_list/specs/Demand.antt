-- Demand 3: whatever the list of calls, each is answered as worked out from scratch, by the plain book, from the calls of that list alone.
-- First of `call_list::run`, in the bytes that it is given and the words that it writes; then of a month by value, call by call.
use Rattle.std.specs.Prelude.{ℕ, zero, suc, ◌+◌, ◌*◌, ◌≤◌, ◌<◌, ◌≡◌, List, [], ◌∷◌, ◌++◌, map, true, is_ok, length, get_or, take, drop}
use Rattle.rules.specs.declared.Report.{Report}
use Rattle.rules.specs.Terms.{paper}
use Rattle.rules.specs.Widths.{Bytes}
use Rattle.rules.specs.Units.{millis, kopecks}
use Rattle.rules.specs.Pay.{all_failures, fee}
use Rattle.rules.specs.Answers.{Outcome, Reply, shown_report}
use Rattle.rules.specs.Calls.{Call, Book, fresh_book}
use Rattle.rules.specs.Calls as B
use Rattle.rules.specs.Causes.{refusal_of}
use Rattle.rules.specs.Replies.{bid_in, ask_in, kept_in, lapses_in, report_of}
use Rattle.rules.specs.Book.{answer_of, after}
use Rattle.rules.specs.Histories.{refusals_from, answers_from}
use Rattle.words.specs.Bytes.{words_in, bytes_of}
use Rattle.call_blocks.specs.Reading.{calls_of}
use Rattle.call_blocks.specs.Writing.{script_of, CallFits}
use Rattle.answer_words.specs.Words.{answer_words, AnswerFits}
use Rattle.month.specs.declared.Month.{Month}
use Rattle.month.specs.declared.After.{After}
use Rattle.month.specs.Represents.{month_of, Reached, Answered}
use Rattle.call_list.specs.Listing.{answers_of, Listed, read_of, ListAnswered}

-- ---- the bytes of a list, and what is read from a buffer of answers

-- the blocks of the calls, each word as four bytes (docs/FORMATS.md)
abbrev pub bytes_for : List Call → List ℕ
bytes_for calls = bytes_of (script_of calls)

-- the twenty words of an answer, by its number from 0 on
abbrev pub answer_at : List ℕ → ℕ → List ℕ
answer_at buffer k = take 20 (drop (20 * k) buffer)

-- word 1 of each of the first n answers: the refusal's number, or 0
unfoldable pub refusals_in : ℕ → List ℕ → List ℕ
refusals_in zero buffer = []
refusals_in (suc n) buffer = get_or buffer 1 0 ∷ refusals_in n (drop 20 buffer)

-- ---- the list runner

-- Twenty words say what the plain book answers to a call after some calls, and no other answer.
pub record SaysAnswer (earlier : List Call) (c : Call) (ws : List ℕ) : Type 0 where
  pub words : ws ≡ answer_words (answer_of paper (after paper earlier) c)
  pub only : (o : Outcome Reply) → AnswerFits o → ws ≡ answer_words o → o ≡ answer_of paper (after paper earlier) c
  -- "refused exactly when it is refused afresh, and by the same number": word 0 of a refusal is 1, and word 1 its number
  pub refused : get_or ws 0 0 ≡ 1 → 0 < refusal_of paper (after paper earlier) c
  pub refused_too : 0 < refusal_of paper (after paper earlier) c → get_or ws 0 0 ≡ 1
  pub number : get_or ws 1 0 ≡ refusal_of paper (after paper earlier) c

-- A list of calls was answered into a buffer: each call as the plain book answers it after the calls before it, and words after the
-- answers are kept.
pub record FromScratch (calls : List Call) (before written : List ℕ) : Type 0 where
  pub answers : written ≡ answers_of calls ++ drop (20 * length calls) before
  pub each : (earlier : List Call) (c : Call) (later : List Call) → calls ≡ earlier ++ (c ∷ later)
      → SaysAnswer earlier c (answer_at written (length earlier))
  pub refusals : refusals_in (length calls) written ≡ refusals_from paper fresh_book calls

-- These calls ran: `call_list::run` was given bytes whose calls they are and a buffer with twenty words for each, and this is what its
-- contract promises.
pub record CallsRan (calls : List Call) (bytes before written : List ℕ) (r : Listed) : Type 0 where
  pub promise : ListAnswered (words_in bytes) before written r
  pub said : calls_of (words_in bytes) ≡ calls
  pub room : 20 * length calls ≤ length before

-- What the plain book shows after a list of calls, named one by one: both best quotes, the milliseconds kept, the lapses (document
-- 02, W1), every series' count of failed quanta and the fee.
pub record Shows (b : Book) (r : Report) : Type 0 where
  pub bid : r.bid ≡ bid_in b.running
  pub ask : r.ask ≡ ask_in b.running
  pub kept : r.kept ≡ millis (kept_in b.running)
  pub lapses : r.lapses ≡ lapses_in b.running
  pub failures : r.failures ≡ all_failures paper b.cells
  pub fee : r.fee ≡ kopecks (fee paper b.cells)

-- The claim about a list of calls. `call_list::run` has no limit of its own; that of `quoting_calls` is in crates/quoting/proofs/Demand.
pub record Demand3 (calls : List Call) : Type 0 where
  -- it can be given: these are bytes, four for each word, and their calls are the list
  pub bytes : Bytes (bytes_for calls)
  pub four_each : length (bytes_for calls) ≡ 4 * length (script_of calls)
  pub said : calls_of (words_in (bytes_for calls)) ≡ calls
  -- whatever `call_list::run` promises on them, with a buffer that has room: all calls are made, and each is answered from scratch
  pub runs : (before written : List ℕ) (r : Listed) → ListAnswered (words_in (bytes_for calls)) before written r
      → 20 * length calls ≤ length before
      → (is_ok r ≡ true) × ((read_of r).calls ≡ length calls) × ((read_of r).words ≡ length (script_of calls)) × FromScratch calls before written
  -- any further call: what is written last where it follows the list
  pub next : (c : Call) → CallFits c → (before written : List ℕ) (r : Listed)
      → ListAnswered (words_in (bytes_for (calls ++ (c ∷ [])))) before written r → 20 * (length calls + 1) ≤ length before
      → SaysAnswer calls c (answer_at written (length calls))
  -- a report then shows these numbers
  pub report : (before written : List ℕ) (r : Listed)
      → ListAnswered (words_in (bytes_for (calls ++ (B.Report ∷ [])))) before written r → 20 * (length calls + 1) ≤ length before
      → (answer_at written (length calls) ≡ answer_words (shown_report (report_of paper (after paper calls))))
      × Shows (after paper calls) (report_of paper (after paper calls))

-- ---- a month by value

-- what a call handed back: the month, and what its answer shows
pub record Handed : Type 0 where
  pub month : Month
  pub shown : Outcome Reply

-- Calls made one after the other, each on the month that the one before handed back. They may hand back whatever their contract,
-- `Answered`, allows.
abbrev pub Made : Month → List Call → List Handed → Type 0
Made m [] [] = Unit {0}
Made m [] (h ∷ hs) = ⊥
Made m (c ∷ cs) [] = ⊥
Made m (c ∷ cs) (h ∷ hs) = Answered m c h.month h.shown × Made h.month cs hs

-- the month that the last one handed back
abbrev pub last_month : Month → List Handed → Month
last_month m [] = m
last_month m (h ∷ hs) = last_month h.month hs

-- The claim about a month by value, from the fresh one on.
pub record Demand3ByValue (calls : List Call) (last : Month) (handed : List Handed) : Type 0 where
  pub month : last ≡ month_of (after paper calls)
  pub reached : Reached last
  pub answers : map (λ (h : Handed). h.shown) handed ≡ answers_from paper fresh_book calls
  -- any further call
  pub next : (c : Call) (m : Month) (shown : Outcome Reply) → Answered last c m shown → shown ≡ answer_of paper (after paper calls) c
  pub report : (r : After Report) → Answered last B.Report r.month (shown_report r.answer) → Shows (after paper calls) r.answer
