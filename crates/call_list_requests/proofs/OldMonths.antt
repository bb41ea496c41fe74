-- The theorem (document 02, W6), of what the list runner writes: by what `call_list::run` promises, the theorem about old months and the one
-- about larger charges.
use Prim.Native.Nat.{ℕ, ◌*◌}
use mathlib.Core.Path.{◌≡◌, refl, sym, ap, ◌∙◌}
use mathlib.Core.List.{List, [], ◌∷◌, ◌++◌, map}
use lib.ListN.{length, drop, length-map}
use Rattle.lists.specs.Lists.{All}
use Rattle.rules.specs.Terms.{paper}
use Rattle.rules.specs.Answers.{Outcome, Reply, shown_report}
use Rattle.rules.specs.Calls.{Call, fresh_book}
use Rattle.rules.specs.Causes.{first_number, causes, refusal_of}
use Rattle.rules.specs.Replies.{report_of}
use Rattle.rules.specs.Book.{answer_of, after}
use Rattle.rules.specs.Calls as B
use Rattle.rules.specs.Histories.{refusals_from, answers_from}
use Rattle.requests.specs.Before.{charge_before, percents, tenths}
use Rattle.requests.specs.OldMonths.{AtMost79, tenfold, tenfold_answer, SameInTenths}
use Rattle.requests.specs.OldCharges.{NotPast, SameAnswers}
use Rattle.requests.proofs.OldMonths.{old_months}
use Rattle.requests.proofs.OldCharges.{not_past_tenfold, none_past_tenfold}
use Rattle.answer_words.specs.Words.{answer_words}
use Rattle.call_list.specs.Listing.{Listed}
use Rattle.call_list.specs.Listing.{list_words, answers_of}
use Rattle.call_list.specs.Demand.{answer_at, refusals_in, CallsRan}
use Rattle.call_list.proofs.Demand.{answers_listed, ran_from_scratch, ran-next}
use Rattle.call_list_requests.specs.OldMonths.{AsInPercents}
use Rattle.call_list_requests.proofs.OldCharges.{limit_raised}

report_answer : (b : B.Book) → tenfold_answer (answer_of (percents charge_before) b B.Report) ≡ shown_report (report_of (percents charge_before) b)
unfolding answer_of refusal_of causes first_number
report_answer b = refl

module _ (old : List Call) (bytes before written : List ℕ) (r : Listed) (ran : CallsRan (map tenfold old) bytes before written r)
    (rows : All AtMost79 old) (past : All (NotPast charge_before) old) where
  -- the terms of now are those in tenths with a larger greatest charge (W8), which no call of the list needs
  raised : SameAnswers (tenths charge_before) paper (map tenfold old)
  raised = limit_raised (map tenfold old) (none_past_tenfold charge_before old past)

  -- the terms in percent and those in tenths have the same greatest charge
  same : SameInTenths charge_before old
  same = old_months charge_before old rows

  long : length (map tenfold old) ≡ length old
  long = length-map old tenfold

  answers : written ≡ list_words (map tenfold_answer (answers_from (percents charge_before) fresh_book old)) ++ drop (20 * length old) before
  answers =
      let words = answers_listed (map tenfold old) ∙ ap list_words (raised.answers ∙ same.answers) in
      (ran_from_scratch (map tenfold old) bytes before written r ran).answers ∙ λ i. words i ++ drop (20 * long i) before

  refusals : refusals_in (length old) written ≡ refusals_from (percents charge_before) fresh_book old
  refusals =
      ap (λ (n : ℕ). refusals_in n written) (sym long)
      ∙ (ran_from_scratch (map tenfold old) bytes before written r ran).refusals
      ∙ raised.refusals
      ∙ same.refusals

  next : (c : Call) → AtMost79 c → NotPast charge_before c → (bytes buffer longer : List ℕ) (r : Listed)
      → CallsRan (map tenfold old ++ (tenfold c ∷ [])) bytes buffer longer r
      → answer_at longer (length old) ≡ answer_words (tenfold_answer (answer_of (percents charge_before) (after (percents charge_before) old) c))
  next c h p bytes buffer longer r more =
      ap (answer_at longer) (sym long)
      ∙ (ran-next (map tenfold old) (tenfold c) bytes buffer longer r more).words
      ∙ ap answer_words (raised.next (tenfold c) (not_past_tenfold charge_before c p) ∙ same.next c h)

  pub as_in_percents : AsInPercents old before written
  as_in_percents =
      record {
        answers = answers;
        refusals = refusals;
        next = next;
        report = λ bytes buffer longer r more.
            next B.Report tt tt bytes buffer longer r more ∙ ap answer_words (report_answer (after (percents charge_before) old));
      }
