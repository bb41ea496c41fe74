-- What is promised of a list of calls that runs from a fresh month, with each call's whole answer.
use Rattle.std.specs.Prelude.{ℕ, ◌*◌, ◌≡◌, List, [], ◌∷◌, ◌++◌, Result, Ok, Err, is_ok, leb, length, drop, if◌then◌else◌}
use Rattle.rules.specs.Terms.{paper}
use Rattle.rules.specs.Answers.{Outcome, Reply}
use Rattle.rules.specs.Calls.{Call, fresh_book}
use Rattle.rules.specs.Histories.{answers_from}
use Rattle.answer_words.specs.Words.{answer_words}
use Rattle.call_blocks.specs.Reading.{calls_of, words_read}
use Rattle.call_blocks.specs.declared.Measured.{Measured}
use Rattle.call_list.specs.declared.AnswersShort.{AnswersShort}

-- answers as words, twenty each, one after the other
unfoldable pub list_words : List (Outcome Reply) → List ℕ
list_words [] = []
list_words (answer ∷ rest) = answer_words answer ++ list_words rest

-- what the plain book answers to each call, as words
unfoldable pub answers_of : List Call → List ℕ
answers_of calls = list_words (answers_from paper fresh_book calls)

-- what is answered of a whole list: how many calls and words were read, and, as an error, that the buffer is too short for their answers
abbrev pub Listed : Type 0
Listed = Result Measured AnswersShort

-- how many were read, either way
abbrev pub read_of : Listed → Measured
read_of (Ok list) = list
read_of (Err short) = short.list

-- The words of a list, the lent buffer before and after, and the answer. Whatever the list: as many calls as it has, from the first word
-- on until the words are no call, are answered as the plain book answers them; words after the answers keep their contents. A buffer
-- with fewer than twenty words a call is answered as too short, and nothing is written.
pub record ListAnswered (ws before behind : List ℕ) (r : Listed) : Type 0 where
  pub calls : (read_of r).calls ≡ length (calls_of ws)
  pub words : (read_of r).words ≡ words_read ws
  pub fits : is_ok r ≡ leb (20 * length (calls_of ws)) (length before)
  pub answers : behind ≡ (if is_ok r then answers_of (calls_of ws) ++ drop (20 * length (calls_of ws)) before else before)
