-- What the functions of a list's run promise to each other.
use Rattle.std.specs.Prelude.{ℕ, ◌+◌, ◌≡◌, List, [], ◌∷◌, ◌++◌, drop}
use Rattle.rules.specs.Terms.{paper}
use Rattle.rules.specs.Calls.{Call}
use Rattle.rules.specs.Book.{after, answer_of}
use Rattle.month.specs.Words.{words_after}
use Rattle.call_blocks.specs.Kinds.{block_size, call_of}
use Rattle.answer_words.specs.Words.{answer_words}

-- One call of a list, that of the block at a place of the words: for every list of calls whose month the month's words are, they are
-- those of the longer list, the answer's words are the plain book's answer, and the next place is after the block.
pub record NextCalled (month ws : List ℕ) (at : ℕ) (month' out : List ℕ) (r : ℕ) : Type 0 where
  pub place : r ≡ at + block_size (drop at ws)
  pub month_after : (calls : List Call) → month ≡ words_after calls → month' ≡ words_after (calls ++ (call_of (drop at ws) ∷ []))
  pub answer : (calls : List Call) → month ≡ words_after calls → out ≡ answer_words (answer_of paper (after paper calls) (call_of (drop at ws)))
