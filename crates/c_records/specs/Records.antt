-- Event records on a month in lent words, for C.
use Rattle.std.specs.Prelude.{ℕ, ◌+◌, ◌≤◌, ◌<◌, ◌≡◌, Bool, List, ◌++◌, leb, length, take, drop, if◌then◌else◌}
use Rattle.rules.specs.Terms.{paper}
use Rattle.rules.specs.Answers.{outcome_by, done}
use Rattle.rules.specs.Calls.{Call}
use Rattle.rules.specs.Book.{after}
use Rattle.answer_words.specs.Words.{answer_words}
use Rattle.month.specs.Words.{words_after}
use Rattle.month_in_place.specs.Entry.{may_be_month}
use Rattle.records_in_place.specs.Records.{records_sent}
use Rattle.c_answers.specs.Answers.{refused_number}

-- What refuses the lent buffers, 0 where nothing does: 16 at the place of the first one that is too short, 1 the month's words, 2 the hints, 3
-- the answer; 3 at place 1, the words are no month's by the tests on entry, which needs all of them.
abbrev pub entry_number : Bool → Bool → Bool → Bool → ℕ
entry_number words month hints answer =
    if words
    then (if month then (if hints then (if answer then 0 else refused_number 16 + 3) else refused_number 16 + 2) else refused_number 3 + 1)
    else refused_number 16 + 1

abbrev pub entry_of : List ℕ → List ℕ → List ℕ → ℕ
entry_of words hints out = entry_number (leb 2464 (length words)) (may_be_month words) (leb 2048 (length hints)) (leb 20 (length out))

-- For every list of calls whose month the words are: they are those of the list with the taken records' event calls after it, and r is how many
-- these are; the answer's words are an accepted call's, or those of a call that is refused by what refuses the next record. What follows
-- the words and the answer is kept. r fits 32 bits, so it is never a refusal. Where no record is taken the hints are as they were; else the
-- first 2,048 bytes are free, as an event call leaves them.
pub record RecordsTaken (words hints out records words' hints' out' : List ℕ) (r : ℕ) : Type 0 where
  pub month : (calls : List Call) → take 2464 words ≡ words_after calls
      → words' ≡ words_after (calls ++ (records_sent (after paper calls) records).calls) ++ drop 2464 words
  pub count : (calls : List Call) → take 2464 words ≡ words_after calls → r ≡ length (records_sent (after paper calls) records).calls
  pub answer : (calls : List Call) → take 2464 words ≡ words_after calls
      → out' ≡ answer_words (outcome_by (records_sent (after paper calls) records).refusal done) ++ drop 20 out
  pub few : r ≤ 4000000000
  pub none : r ≡ 0 → hints' ≡ hints
  pub rest : drop 2048 hints' ≡ drop 2048 hints

-- The month's words, the hints, the answer's words and the records before; the words, the hints and the answer after; and the number.
pub record RecordsMonth (words hints out records words' hints' out' : List ℕ) (r : ℕ) : Type 0 where
  pub refused : 0 < entry_of words hints out → (r ≡ entry_of words hints out) × (words' ≡ words) × (hints' ≡ hints) × (out' ≡ out)
  pub done : entry_of words hints out ≡ 0 → RecordsTaken words hints out records words' hints' out' r
