-- A whole list of calls from a fresh month, for C.
use Rattle.std.specs.Prelude.{ℕ, ◌*◌, ◌≡◌, Bool, List, ◌++◌, leb, length, drop, if◌then◌else◌}
use Rattle.rules.specs.Answers.{Outcome, accepted, refused}
use Rattle.rules.specs.Calls.{Call}
use Rattle.words.specs.Bytes.{words_in}
use Rattle.call_blocks.specs.Reading.{calls_of, words_read}
use Rattle.call_list.specs.Listing.{answers_of}
use Rattle.c_answers.specs.Answers.{refused_number}

-- a list of so many bytes has more words, and could have more calls, than can be answered: 3
abbrev pub too_many : ℕ → Bool
too_many bytes = leb 17179869184 bytes

-- the calls that are answered, from the first on until the words are no call; 16, there are not twenty words for each
abbrev pub answered_calls : ℕ → ℕ → List Call → Outcome (List Call)
answered_calls bytes room calls =
    if too_many bytes then refused 3 else if leb (20 * length calls) room then accepted calls else refused 16

abbrev pub calls_number : Outcome (List Call) → ℕ
calls_number (accepted calls) = length calls
calls_number (refused n) = refused_number n

abbrev pub calls_buffer : List ℕ → Outcome (List Call) → List ℕ
calls_buffer before (accepted calls) = answers_of calls ++ drop (20 * length calls) before
calls_buffer before (refused n) = before

pub record AnswersCalls (bytes before behind : List ℕ) (r : ℕ) : Type 0 where
  pub number : r ≡ calls_number (answered_calls (length bytes) (length before) (calls_of (words_in bytes)))
  pub buffer : behind ≡ calls_buffer before (answered_calls (length bytes) (length before) (calls_of (words_in bytes)))

-- how many words of a list are calls, from the first on
abbrev pub words_outcome : List ℕ → Outcome ℕ
words_outcome bytes = if too_many (length bytes) then refused 3 else accepted (words_read (words_in bytes))
