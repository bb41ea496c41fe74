-- The theorem (document 02, W8), of what the list runner writes: by what `call_list::run` promises, and since a larger limit changes nothing for
-- such a list.
use Prim.Native.Nat.{ℕ, ◌*◌}
use native.Mathlib.Omega.{arith}
use mathlib.Core.Path.{◌≡◌, refl, ap, ◌∙◌}
use mathlib.Core.List.{List, [], ◌∷◌, ◌++◌}
use lib.ListN.{length, drop}
use Rattle.lists.specs.Lists.{All}
use Rattle.rules.specs.Terms.{paper}
use Rattle.rules.specs.Answers.{Outcome, Reply, shown_report}
use Rattle.rules.specs.Calls.{Call, Book, fresh_book}
use Rattle.rules.specs.Causes.{first_number, causes, refusal_of}
use Rattle.rules.specs.Replies.{report_of}
use Rattle.rules.specs.Book.{answer_of, after}
use Rattle.rules.specs.Calls as B
use Rattle.rules.specs.Histories.{answers_from}
use Rattle.requests.specs.Before.{charge_before, tenths}
use Rattle.requests.specs.OldCharges.{NotPast, SameAnswers}
use Rattle.requests.proofs.OldCharges.{larger_charges}
use Rattle.answer_words.specs.Words.{answer_words}
use Rattle.call_list.specs.Listing.{Listed}
use Rattle.call_list.specs.Listing.{list_words, answers_of}
use Rattle.call_list.specs.Demand.{answer_at, CallsRan}
use Rattle.call_list.proofs.Demand.{answers_listed, ran_from_scratch, ran-next}
use Rattle.call_list_requests.specs.OldCharges.{AsWithOldLimit}

-- the terms of now are those of before with the larger limit
pub limit_raised : (calls : List Call) → All (NotPast charge_before) calls → SameAnswers (tenths charge_before) paper calls
limit_raised calls h = larger_charges (tenths charge_before) paper.most_charge (omega arith) calls h

report_answer : (b : Book) → answer_of (tenths charge_before) b B.Report ≡ shown_report (report_of (tenths charge_before) b)
unfolding answer_of refusal_of causes first_number
report_answer b = refl

module _ (calls : List Call) (bytes before written : List ℕ) (r : Listed) (ran : CallsRan calls bytes before written r)
    (past : All (NotPast charge_before) calls) where
  same : SameAnswers (tenths charge_before) paper calls
  same = limit_raised calls past

  next : (c : Call) → NotPast charge_before c → (bytes buffer longer : List ℕ) (r : Listed) → CallsRan (calls ++ (c ∷ [])) bytes buffer longer r
      → answer_at longer (length calls) ≡ answer_words (answer_of (tenths charge_before) (after (tenths charge_before) calls) c)
  next c h bytes buffer longer r more = (ran-next calls c bytes buffer longer r more).words ∙ ap answer_words (same.next c h)

  pub as_with-old_limit : AsWithOldLimit calls before written
  as_with-old_limit =
      record {
        answers =
            (ran_from_scratch calls bytes before written r ran).answers
            ∙ ap (λ (l : List ℕ). l ++ drop (20 * length calls) before) (answers_listed calls ∙ ap list_words same.answers);
        refusals = (ran_from_scratch calls bytes before written r ran).refusals ∙ same.refusals;
        next = next;
        report = λ bytes buffer longer r more.
            next B.Report tt bytes buffer longer r more ∙ ap answer_words (report_answer (after (tenths charge_before) calls));
      }
