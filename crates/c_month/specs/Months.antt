-- A month in lent words for C, one call at a time.
use Rattle.std.specs.Prelude.{ℕ, ◌+◌, ◌≡◌, Bool, List, leb, length, if◌then◌else◌}
use Rattle.month_in_place.specs.Entry.{may_be_month}
use Rattle.month_words.specs.Calling.{is_call, Performs, LeavesHints}
use Rattle.c_answers.specs.Answers.{refused_number}

-- 3, the bytes are no call; 3 at place 1, the words are no month's by the tests on entry, which needs all of them; 16 at the place of the
-- first lent buffer that is too short: 1 the month's words, 2 the hints, 3 the answer. Else twenty words of answer are written, and their
-- kind says whether the book accepted the call.
abbrev pub call_number : Bool → Bool → Bool → Bool → Bool → ℕ
call_number words month hints answer call =
    if call
    then (if words
    then (if month then (if hints then (if answer then 20 else refused_number 16 + 3) else refused_number 16 + 2) else refused_number 3 + 1)
    else refused_number 16 + 1)
    else refused_number 3

-- The month's words, the hints, the answer's words and the call's bytes before; the words, the hints and the answer after; and the number.
-- For every list of calls whose month the words are, `Performs` says what they and the answer become, whatever the hints contain, and
-- `LeavesHints` that a refused call leaves the hints, as it leaves the rest. What an accepted event or ask leaves in the first 2,048 bytes
-- is free.
pub record CallsMonth (words hints out bytes words' hints' out' : List ℕ) (r : ℕ) : Type 0 where
  pub number : r ≡ call_number (leb 2464 (length words)) (may_be_month words) (leb 2048 (length hints)) (leb 20 (length out)) (is_call bytes)
  pub done : r ≡ 20 → Performs words out bytes words' out'
  pub kept : (r ≡ 20 → ⊥) → (words' ≡ words) × (hints' ≡ hints) × (out' ≡ out)
  pub leaves : LeavesHints words hints bytes hints'
