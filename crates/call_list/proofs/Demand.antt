-- Demand 3, for every list of calls whose numbers fit their types:
--     demand_3            of what `call_list::run` promises on the bytes of the list
--     demand_3_by_value   of the months and answers that the calls hand back by value, from a fresh month on
use Rattle.std.specs.Prelude.{if◌then◌else◌, is_ok}
use Prim.Native.Nat.{ℕ, zero, suc, ◌+◌, ◌*◌, ◌≤◌, ◌<◌}
use native.Mathlib.Omega.{arith}
use mathlib.Core.Path.{◌≡◌, refl, sym, ap, subst, ◌∙◌}
use mathlib.Core.List.{List, [], ◌∷◌, ◌++◌, map, append_assoc, append-nil}
use mathlib.Core.Bool.{Bool, true}
use borrow.Author.Tests.{le-leb}
use lib.ListN.{length, get_or, take, drop, length-append, get_or-append}
use lib.Seq.{take_at, drop_at}
use Rattle.rules.specs.declared.Report.{Report}
use Rattle.rules.specs.Terms.{paper}
use Rattle.rules.specs.Answers.{Outcome, Reply, done, cell, asked, report, outlook, outcome_by, shown_report}
use Rattle.rules.specs.Calls.{Call, Book, fresh_book}
use Rattle.rules.specs.Calls as B
use Rattle.rules.specs.Causes.{first_number, causes, refusal_of}
use Rattle.rules.specs.Replies.{report_of, reply_of}
use Rattle.rules.specs.Book.{answer_of, step, run, after}
use Rattle.rules.specs.Histories.{refusals_from, answers_from}
use Rattle.rules.proofs.Answers.{report_shown}
use Rattle.rules.proofs.Bounds.{after-snoc}
use Rattle.words.specs.Bytes.{words_in}
use Rattle.words.proofs.Back.{bytes_length, all_bytes, words_back}
use Rattle.lent.specs.Words.{cell_words}
use Rattle.call_blocks.specs.Reading.{calls_of, words_read}
use Rattle.call_blocks.specs.Writing.{script_of, CallFits, AllFit}
use Rattle.call_blocks.proofs.Writing.{read_back, all_read, words_fit}
use Rattle.answer_words.specs.Words.{answer_words, AnswerFits}
use Rattle.answer_words.proofs.Back.{answers_apart}
use Rattle.answer_words.proofs.Fits.{answer_fits}
use Rattle.month.specs.declared.Month.{Month}
use Rattle.month.specs.declared.After.{After}
use Rattle.month.specs.Represents.{month_of, Answered}
use Rattle.call_list.specs.Listing.{list_words, answers_of, Listed, read_of, ListAnswered}
use Rattle.call_list.specs.Demand.{bytes_for, answer_at, refusals_in, SaysAnswer, FromScratch, CallsRan, Shows, Demand3, Handed, Made, last_month, Demand3ByValue}
use Rattle.call_list.proofs.Listing.{answer-length, answers_length}

-- ---- the bytes of a list of calls

module _ (calls : List Call) (h : AllFit calls) where
  words_are : words_in (bytes_for calls) ≡ script_of calls
  words_are = words_back (script_of calls) (words_fit calls h)

  -- their calls are the list
  pub calls-said : calls_of (words_in (bytes_for calls)) ≡ calls
  calls-said = ap calls_of words_are ∙ read_back calls h

  all_words : words_read (words_in (bytes_for calls)) ≡ length (script_of calls)
  all_words = ap words_read words_are ∙ all_read calls h

-- one call more fits too
one_more : (calls : List Call) (c : Call) → AllFit calls → CallFits c → AllFit (calls ++ (c ∷ []))
one_more [] c h k = (k, tt)
one_more (d ∷ calls) c h k = (h.0, one_more calls c h.1 k)

-- ---- the words of an answer

refusal-word : (r : Reply) (n : ℕ) → get_or (answer_words (outcome_by n r)) 1 0 ≡ n
unfolding answer_words cell_words
refusal-word done zero = refl
refusal-word (cell v) zero = refl
refusal-word (asked p) zero = refl
refusal-word (report r) zero = refl
refusal-word (outlook o) zero = refl
refusal-word r (suc n) = refl

kind_word : (r : Reply) (n : ℕ) → get_or (answer_words (outcome_by n r)) 0 0 ≡ 1 → 0 < n
unfolding answer_words cell_words
kind_word done zero e = absurd (omega arith)
kind_word (cell v) zero e = absurd (omega arith)
kind_word (asked p) zero e = absurd (omega arith)
kind_word (report r) zero e = absurd (omega arith)
kind_word (outlook o) zero e = absurd (omega arith)
kind_word r (suc n) e = omega arith

refused_kind : (r : Reply) (n : ℕ) → 0 < n → get_or (answer_words (outcome_by n r)) 0 0 ≡ 1
unfolding answer_words
refused_kind r zero h = absurd (omega arith)
refused_kind r (suc n) h = refl

module _ (b : Book) (c : Call) where
  number_is : get_or (answer_words (answer_of paper b c)) 1 0 ≡ refusal_of paper b c
  unfolding answer_of
  number_is = refusal-word (reply_of paper b c) (refusal_of paper b c)

  refused_is : get_or (answer_words (answer_of paper b c)) 0 0 ≡ 1 → 0 < refusal_of paper b c
  unfolding answer_of
  refused_is = kind_word (reply_of paper b c) (refusal_of paper b c)

  is_refused : 0 < refusal_of paper b c → get_or (answer_words (answer_of paper b c)) 0 0 ≡ 1
  unfolding answer_of
  is_refused = refused_kind (reply_of paper b c) (refusal_of paper b c)

pub says : (earlier : List Call) (c : Call) (ws : List ℕ) → ws ≡ answer_words (answer_of paper (after paper earlier) c) → SaysAnswer earlier c ws
says earlier c ws e =
    let b = after paper earlier in
    record {
      words = e;
      only = λ o fits is. answers_apart o (answer_of paper b c) fits (answer_fits earlier c) (sym is ∙ e);
      refused = λ one. refused_is b c (ap (λ (l : List ℕ). get_or l 0 0) (sym e) ∙ one);
      refused_too = λ some. ap (λ (l : List ℕ). get_or l 0 0) e ∙ is_refused b c some;
      number = ap (λ (l : List ℕ). get_or l 1 0) e ∙ number_is b c;
    }

-- ---- the words of a list's answers

-- the answers to a list: those to its front, that to one call, those to the rest
parts_from : (b : Book) (earlier : List Call) (c : Call) (later : List Call)
    → list_words (answers_from paper b (earlier ++ (c ∷ later)))
    ≡ list_words (answers_from paper b earlier)
    ++ (answer_words (answer_of paper (run paper b earlier) c) ++ list_words (answers_from paper (step paper (run paper b earlier) c) later))
unfolding answers_from list_words run
parts_from b [] c later = refl
parts_from b (d ∷ earlier) c later =
    ap (λ (l : List ℕ). answer_words (answer_of paper b d) ++ l) (parts_from (step paper b d) earlier c later)
    ∙ sym
    (append_assoc (answer_words (answer_of paper b d)) (list_words (answers_from paper (step paper b d) earlier))
    (answer_words (answer_of paper (run paper (step paper b d) earlier) c)
    ++ list_words (answers_from paper (step paper (run paper (step paper b d) earlier) c) later)))

module _ (earlier : List Call) (c : Call) (later : List Call) (rest : List ℕ) where
  abbrev this : List ℕ
  this = answer_words (answer_of paper (after paper earlier) c)

  abbrev others : List ℕ
  others = list_words (answers_from paper (step paper (after paper earlier) c) later)

  parts : answers_of (earlier ++ (c ∷ later)) ++ rest ≡ answers_of earlier ++ (this ++ (others ++ rest))
  unfolding answers_of after
  parts =
      ap (λ (l : List ℕ). l ++ rest) (parts_from fresh_book earlier c later)
      ∙ append_assoc (answers_of earlier) (this ++ others) rest
      ∙ ap (λ (l : List ℕ). answers_of earlier ++ l) (append_assoc this others rest)

  at_call : answer_at (answers_of (earlier ++ (c ∷ later)) ++ rest) (length earlier) ≡ this
  at_call =
      ap (λ (l : List ℕ). answer_at l (length earlier)) parts
      ∙ ap (take 20) (drop_at (answers_of earlier) (this ++ (others ++ rest)) (20 * length earlier) (answers_length earlier))
      ∙ take_at this (others ++ rest) 20 (answer-length (answer_of paper (after paper earlier) c))

-- word 1 of each answer
refusals_from_lem : (b : Book) (calls : List Call) (rest : List ℕ)
    → refusals_in (length calls) (list_words (answers_from paper b calls) ++ rest) ≡ refusals_from paper b calls
unfolding refusals_in answers_from list_words refusals_from
refusals_from_lem b [] rest = refl
refusals_from_lem b (c ∷ calls) rest =
    let this = answer_words (answer_of paper b c) in
    let others = list_words (answers_from paper (step paper b c) calls) in
    let whole = append_assoc this others rest in
    let number : get_or ((this ++ others) ++ rest) 1 0 ≡ refusal_of paper b c =
    ap (λ (l : List ℕ). get_or l 1 0) whole
    ∙ get_or-append this (others ++ rest) 0 1 (omega (arith, answer-length (answer_of paper b c)))
    ∙ number_is b c
    in
    let left : drop 20 ((this ++ others) ++ rest) ≡ others ++ rest =
    ap (drop 20) whole ∙ drop_at this (others ++ rest) 20 (answer-length (answer_of paper b c))
    in
    λ i. number i ∷ (ap (refusals_in (length calls)) left ∙ refusals_from_lem (step paper b c) calls rest) i

-- what is written, as words of the book's answers
pub answers_listed : (calls : List Call) → answers_of calls ≡ list_words (answers_from paper fresh_book calls)
unfolding answers_of
answers_listed calls = refl

pub from_scratch : (calls : List Call) (before written : List ℕ) → written ≡ answers_of calls ++ drop (20 * length calls) before
    → FromScratch calls before written
from_scratch calls before written e =
    record {
      answers = e;
      each = λ earlier c later is.
          says earlier c (answer_at written (length earlier))
          (ap (λ (l : List ℕ). answer_at l (length earlier))
          (e ∙ ap (λ (l : List Call). answers_of l ++ drop (20 * length calls) before) is)
          ∙ at_call earlier c later (drop (20 * length calls) before));
      refusals =
          ap (refusals_in (length calls)) (e ∙ ap (λ (l : List ℕ). l ++ drop (20 * length calls) before) (answers_listed calls))
          ∙ refusals_from_lem fresh_book calls (drop (20 * length calls) before);
    }

-- ---- what the runner promises

module _ (calls : List Call) (bytes before written : List ℕ) (r : Listed) (ran : CallsRan calls bytes before written r) where
  number : length (calls_of (words_in bytes)) ≡ length calls
  number = ap length ran.said

  pub ran-fits : is_ok r ≡ true
  ran-fits =
      ran.promise.fits
      ∙ le-leb (20 * length (calls_of (words_in bytes))) (length before) (omega (arith, number, ran.room))

  pub ran-calls : (read_of r).calls ≡ length calls
  ran-calls = ran.promise.calls ∙ number

  ran_answers : written ≡ answers_of calls ++ drop (20 * length calls) before
  ran_answers =
      ran.promise.answers
      ∙ ap {B = List ℕ} (λ (b : Bool). if b then answers_of (calls_of (words_in bytes)) ++ drop (20 * length (calls_of (words_in bytes))) before else before) ran-fits
      ∙ ap (λ (l : List Call). answers_of l ++ drop (20 * length l) before) ran.said

  pub ran_from_scratch : FromScratch calls before written
  ran_from_scratch = from_scratch calls before written ran_answers

-- one call more: what is written last
pub ran-next : (calls : List Call) (c : Call) (bytes before written : List ℕ) (r : Listed) → CallsRan (calls ++ (c ∷ [])) bytes before written r
    → SaysAnswer calls c (answer_at written (length calls))
ran-next calls c bytes before written r ran = (ran_from_scratch (calls ++ (c ∷ [])) bytes before written r ran).each calls c [] refl

-- ---- a report

-- it is never refused
report_answer : (b : Book) → answer_of paper b B.Report ≡ shown_report (report_of paper b)
unfolding answer_of refusal_of causes first_number
report_answer b = refl

shows : (b : Book) (r : Report) → r ≡ report_of paper b → Shows b r
unfolding report_of
shows b r e =
    record {
      bid = ap (λ (x : Report). x.bid) e;
      ask = ap (λ (x : Report). x.ask) e;
      kept = ap (λ (x : Report). x.kept) e;
      lapses = ap (λ (x : Report). x.lapses) e;
      failures = ap (λ (x : Report). x.failures) e;
      fee = ap (λ (x : Report). x.fee) e;
    }

-- ---- the claim

module _ (calls : List Call) (h : AllFit calls) where
  written_ran : (before written : List ℕ) (r : Listed) → ListAnswered (words_in (bytes_for calls)) before written r
      → 20 * length calls ≤ length before → CallsRan calls (bytes_for calls) before written r
  written_ran before written r promise room = record { promise = promise; said = calls-said calls h; room = room }

  longer-ran : (c : Call) → CallFits c → (before written : List ℕ) (r : Listed)
      → ListAnswered (words_in (bytes_for (calls ++ (c ∷ [])))) before written r → 20 * (length calls + 1) ≤ length before
      → CallsRan (calls ++ (c ∷ [])) (bytes_for (calls ++ (c ∷ []))) before written r
  longer-ran c k before written r promise room =
      record {
        promise = promise;
        said = calls-said (calls ++ (c ∷ [])) (one_more calls c h k);
        room = rw (length-append calls (c ∷ [])) room;
      }

  pub demand_3 : Demand3 calls
  demand_3 =
      record {
        bytes = all_bytes (script_of calls);
        four_each = bytes_length (script_of calls);
        said = calls-said calls h;
        runs = λ before written r promise room.
            let ran = written_ran before written r promise room in (
              ran-fits calls (bytes_for calls) before written r ran,
              ran-calls calls (bytes_for calls) before written r ran,
              promise.words ∙ all_words calls h,
              ran_from_scratch calls (bytes_for calls) before written r ran,
            );
        next = λ c k before written r promise room.
            ran-next calls c (bytes_for (calls ++ (c ∷ []))) before written r (longer-ran c k before written r promise room);
        report = λ before written r promise room.
            let last = ran-next calls B.Report (bytes_for (calls ++ (B.Report ∷ []))) before written r (longer-ran B.Report tt before written r promise room) in
            (last.words ∙ ap answer_words (report_answer (after paper calls)), shows (after paper calls) (report_of paper (after paper calls)) refl);
      }

-- ---- a month by value

-- from a month that some calls led to
made_from : (earlier calls : List Call) (m : Month) (handed : List Handed) → m ≡ month_of (after paper earlier) → Made m calls handed
    → (last_month m handed ≡ month_of (after paper (earlier ++ calls)))
    × (map (λ (h : Handed). h.shown) handed ≡ answers_from paper (after paper earlier) calls)
unfolding answers_from
made_from earlier [] m [] e made = (e ∙ ap (λ (l : List Call). month_of (after paper l)) (sym (append-nil earlier)), refl)
made_from earlier [] m (h ∷ handed) e made = absurd made
made_from earlier (c ∷ calls) m [] e made = absurd made
made_from earlier (c ∷ calls) m (h ∷ handed) e made =
    let later = made_from (earlier ++ (c ∷ [])) calls h.month handed (made.0.month earlier e) made.1 in (
      later.0 ∙ ap (λ (l : List Call). month_of (after paper l)) (append_assoc earlier (c ∷ []) calls),
      λ i. made.0.answer earlier e i ∷ (later.1 ∙ ap (λ (b : Book). answers_from paper b calls) (after-snoc paper earlier c)) i,
    )

fresh-book : after paper [] ≡ fresh_book
unfolding after run
fresh-book = refl

module _ (calls : List Call) (fresh : Month) (handed : List Handed) (is : fresh ≡ month_of (after paper [])) (made : Made fresh calls handed) where
  month_is : last_month fresh handed ≡ month_of (after paper calls)
  month_is = (made_from [] calls fresh handed is made).0

  report_is : (r : After Report) → Answered (last_month fresh handed) B.Report r.month (shown_report r.answer)
      → r.answer ≡ report_of paper (after paper calls)
  report_is r a =
      report_shown r.answer (report_of paper (after paper calls)) (a.answer calls month_is ∙ report_answer (after paper calls))

  pub demand_3_by_value : Demand3ByValue calls (last_month fresh handed) handed
  demand_3_by_value =
      record {
        month = month_is;
        reached = record { calls = calls; is = month_is };
        answers = (made_from [] calls fresh handed is made).1 ∙ ap (λ (b : Book). answers_from paper b calls) fresh-book;
        next = λ c m shown a. a.answer calls month_is;
        report = λ r a. shows (after paper calls) r.answer (report_is r a);
      }
