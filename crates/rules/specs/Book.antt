-- Document 01, "Afresh": the plain book, fed the calls in their order.
use Rattle.std.specs.Prelude.{ℕ, zero, suc, List, [], ◌∷◌}
use Rattle.rules.specs.Terms.{Terms}
use Rattle.rules.specs.Answers.{Outcome, outcome_by, Reply}
use Rattle.rules.specs.Calls.{Call, Book, fresh_book}
use Rattle.rules.specs.Causes.{refusal_of}
use Rattle.rules.specs.Changes.{changed}
use Rattle.rules.specs.Replies.{reply_of}

module _ (terms : Terms) where
  -- "the call is refused by the lowest number and the book stays as it is; else the call is accepted"
  unfoldable pub answer_of : Book → Call → Outcome Reply
  answer_of b c = outcome_by (refusal_of terms b c) (reply_of terms b c)

  abbrev pub step_by : ℕ → Book → Call → Book
  step_by zero b c = changed b c
  step_by (suc n) b c = b

  unfoldable pub step : Book → Call → Book
  step b c = step_by (refusal_of terms b c) b c

  -- "It is fed the calls in their order"
  unfoldable pub run : Book → List Call → Book
  run b [] = b
  run b (c ∷ cs) = run (step b c) cs

  unfoldable pub after : List Call → Book
  after calls = run fresh_book calls
