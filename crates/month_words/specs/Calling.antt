-- What a call promises on a month whose words are lent.
use Rattle.std.specs.Prelude.{ℕ, ◌%◌, ◌≡◌, Result, Ok, Err, OnOk, OnErr, Bool, true, false, not, ◌&&◌, List, [], ◌∷◌, ◌++◌, eqb, leb, length, take, drop, if◌then◌else◌}
use Rattle.rules.specs.Terms.{paper}
use Rattle.rules.specs.Answers.{refused}
use Rattle.rules.specs.Calls as C
use Rattle.rules.specs.Calls.{Call}
use Rattle.rules.specs.Book.{after, answer_of}
use Rattle.words.specs.Bytes.{words_in}
use Rattle.call_blocks.specs.Kinds.{block_size, call_of}
use Rattle.answer_words.specs.Words.{answer_words}
use Rattle.month.specs.Words.{words_after}
use Rattle.month_in_place.specs.Entry.{may_be_month}
use Rattle.month_words.specs.declared.CallError.{CallError}
use Rattle.month_words.specs.declared.CallError.TheVariants.{WordsShort, NoMonth, HintsShort, AnswerShort, NoCall}

-- one call's block, and nothing more
unfoldable pub is_call : List ℕ → Bool
is_call bytes =
    let size = block_size (words_in bytes) in
    (not (eqb size 0) && eqb size (length (words_in bytes))) && eqb (length bytes % 4) 0

-- what became of a call
abbrev pub called_by : Bool → Bool → Bool → Bool → Bool → Result (Unit {0}) CallError
called_by words month hints answer call =
    if words
    then (if month then (if hints then (if answer then (if call then Ok tt else Err NoCall) else Err AnswerShort) else Err HintsShort) else Err NoMonth)
    else Err WordsShort

-- For every list of calls whose month these words are: they are those of the longer list, and the answer's words are the plain book's
-- answer, of refused calls too. The contents after the words and after the answer are kept.
pub record Performs (words out bytes words' out' : List ℕ) : Type 0 where
  pub month : (calls : List Call) → take 2464 words ≡ words_after calls
      → words' ≡ words_after (calls ++ (call_of (words_in bytes) ∷ [])) ++ drop 2464 words
  pub answer : (calls : List Call) → take 2464 words ≡ words_after calls
      → out' ≡ answer_words (answer_of paper (after paper calls) (call_of (words_in bytes))) ++ drop 20 out

-- the calls that may note in the hints where an order is
abbrev pub notes : Call → Bool
notes (C.Open row day opening) = false
notes (C.Send e) = true
notes (C.Message start message) = true
notes (C.Ask a) = true
notes (C.Commit a ticket) = true
notes (C.Close a p) = false
notes C.Drop = false
notes (C.Charge day expiry quantum a p) = false
notes (C.Withdraw day expiry quantum) = false
notes (C.Look day expiry quantum) = false
notes C.Report = false
notes C.Outlook = false

-- Demand 1 of the hints, "A refused call leaves the month and each lent buffer with the contents it had": for every list of calls whose
-- month these words are, where the plain book refuses the call, the hints are as they were. A call that is neither an event, a message, an
-- ask nor a commit leaves them in any case, and no call changes a byte after the first 2,048.
pub record LeavesHints (words hints bytes hints' : List ℕ) : Type 0 where
  pub refusal : (calls : List Call) → take 2464 words ≡ words_after calls → (n : ℕ)
      → answer_of paper (after paper calls) (call_of (words_in bytes)) ≡ refused n → hints' ≡ hints
  pub others : notes (call_of (words_in bytes)) ≡ false → hints' ≡ hints
  pub rest : drop 2048 hints' ≡ drop 2048 hints

-- Too few words for a month, words that are no month's by the tests on entry, too few hints, too few words for an answer, and bytes that are
-- no call, are answered as such, and then nothing is changed, nor are the hints. The hints are no function of the month, and what is answered and left in the words is the same
-- whatever they contain. What an accepted event, message, ask or commit leaves in the first 2,048 bytes is free.
pub record Calling (words hints out bytes words' hints' out' : List ℕ) (r : Result (Unit {0}) CallError) : Type 0 where
  pub called : r ≡ called_by (leb 2464 (length words)) (may_be_month words) (leb 2048 (length hints)) (leb 20 (length out)) (is_call bytes)
  pub done : OnOk r (Performs words out bytes words' out')
  pub kept : OnErr r ((words' ≡ words) × (hints' ≡ hints) × (out' ≡ out))
  pub leaves : LeavesHints words hints bytes hints'
