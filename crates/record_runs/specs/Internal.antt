-- What a run over records goes by, whatever it gathers: the words that it has written, what a record says, and the book of its events.
use Rattle.std.specs.Prelude.{ℕ, ◌+◌, ◌≤◌, ◌≡◌, List, [], ◌∷◌, ◌++◌, leb, length, drop, if◌then◌else◌}
use Rattle.std.proofs.lemmas.List.Edits.{sets}
use Rattle.rules.specs.declared.Row.{Row}
use Rattle.rules.specs.declared.SpreadRule.{SpreadRule}
use Rattle.rules.specs.declared.Event.{Event}
use Rattle.rules.specs.Cells.{blank_cells}
use Rattle.rules.specs.Answers.{Outcome, accepted, refused}
use Rattle.rules.specs.Calls.{Quoting, Book}
use Rattle.rules.specs.Causes.{event_refusal}
use Rattle.rules.specs.Changes.{following}
use Rattle.rules.specs.Accounts.{no_limit}

-- ---- the words

-- a buffer that was base at first and has these words at its front, where they fit
pub record Front (base front buffer : List ℕ) : Type 0 where
  pub size : length buffer ≡ length base
  pub words : length front ≤ length base → buffer ≡ front ++ drop (length front) base

-- words written from a place on, where they fit
unfoldable pub put_words : List ℕ → ℕ → List ℕ → List ℕ
put_words buffer at new = if leb (at + length new) (length buffer) then sets buffer at new else buffer

-- ---- the records

-- what a record says: the number that refuses it, and the events with it
abbrev pub refusal_by : Row → List Event → Outcome Event → ℕ
refusal_by row es (refused n) = n
refusal_by row es (accepted e) = event_refusal row es e

abbrev pub followed : List Event → Outcome Event → List Event
followed es (refused n) = es
followed es (accepted e) = es ++ (e ∷ [])

-- the count of accepted calls, from n on, when these events are accepted
abbrev pub count_from : ℕ → List Event → ℕ
count_from n [] = n
count_from n (e ∷ es) = count_from (following n) es

-- the book with an open quantum of a fresh month
abbrev pub book_of : ℕ → Row → SpreadRule → List Event → Book
book_of cell row sp es = record { running = Quoting cell row (no_limit sp) es; cells = blank_cells; count = count_from (following 0) es }
