-- The words of a month, and what a call promises of them, in place.
use Rattle.std.specs.Prelude.{ℕ, ◌≡◌, List, [], ◌∷◌, ◌++◌, drop}
use Rattle.rules.specs.Terms.{paper}
use Rattle.rules.specs.Answers.{Outcome, Reply, outcome_by, done}
use Rattle.rules.specs.Calls.{Call}
use Rattle.rules.specs.Book.{after, answer_of}
use Rattle.month.specs.Words.{words_after, OfWords}

-- What a call that shows nothing promises of a month's words: for every list of calls whose month they are, the words of the longer list,
-- with the words after them kept, and the number by which the plain book refuses it, or 0.
pub record ChangesMonth (words : List ℕ) (c : Call) (words' : List ℕ) (n : ℕ) : Type 0 where
  pub month : OfWords words (λ calls. words' ≡ words_after (calls ++ (c ∷ [])) ++ drop 2464 words)
  pub answer : OfWords words (λ calls. outcome_by n done ≡ answer_of paper (after paper calls) c)

-- What a call that changes nothing promises of a month's words: for every list of calls whose month they are, they are the words of the
-- longer list too, and what it shows is the plain book's answer.
pub record ShowsMonth (words : List ℕ) (c : Call) (shown : Outcome Reply) : Type 0 where
  pub month : OfWords words (λ calls. words ≡ words_after (calls ++ (c ∷ [])) ++ drop 2464 words)
  pub answer : OfWords words (λ calls. shown ≡ answer_of paper (after paper calls) c)
