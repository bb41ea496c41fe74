-- The state now, for C: a view of the open quantum of a month's words.
use Rattle.std.specs.Prelude.{ℕ, ◌+◌, ◌≤◌, ◌<◌, ◌≡◌, false, List, ◌++◌, leb, length, take, drop, if◌then◌else◌}
use Rattle.rules.specs.Terms.{paper}
use Rattle.rules.specs.Calls.{Call}
use Rattle.rules.specs.Book.{after}
use Rattle.month.specs.Words.{words_after}
use Rattle.month_in_place.specs.Entry.{may_be_month}
use Rattle.month_view.specs.Views.{view_words}
use Rattle.c_answers.specs.Answers.{refused_number}

-- a view in a lent buffer: its words at the front, with what is after them kept, and their number; 16 at place 2 where the buffer is too
-- short, and nothing is written
pub record ShowsView (view before behind : List ℕ) (r : ℕ) : Type 0 where
  pub number : r ≡ (if leb (length view) (length before) then length view else refused_number 16 + 2)
  pub buffer : behind ≡ (if leb (length view) (length before) then view ++ drop (length view) before else before)

-- The month's words, the buffer before and after, and the number: 16 at place 1 for too few words, 3 at place 1 for words that are no month's
-- by the tests on entry; else, for every list of calls whose month they are, the plain book's view.
pub record ViewsMonth (words before behind : List ℕ) (r : ℕ) : Type 0 where
  pub short : length words < 2464 → (r ≡ refused_number 16 + 1) × (behind ≡ before)
  pub foreign : 2464 ≤ length words → may_be_month words ≡ false → (r ≡ refused_number 3 + 1) × (behind ≡ before)
  pub shown : (calls : List Call) → take 2464 words ≡ words_after calls → ShowsView (view_words (after paper calls).running) before behind r
