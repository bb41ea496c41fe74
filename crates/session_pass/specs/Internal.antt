-- What a run to the quantum's end answers, and what a pass over the records has found and written.
use Rattle.std.specs.Prelude.{ℕ, ◌*◌, ◌≤◌, ◌≡◌, List, ◌++◌, true, length, drop, Result, Ok}
use Rattle.rules.specs.declared.Steps.{Steps}
use Rattle.rules.specs.declared.Row.{Row}
use Rattle.rules.specs.declared.SpreadRule.{SpreadRule}
use Rattle.rules.specs.declared.SpreadRule.TheVariants.{Settled}
use Rattle.rules.specs.declared.Event.{Event}
use Rattle.rules.specs.declared.Finished.{Finished}
use Rattle.rules.specs.declared.Stopped.{Stopped}
use Rattle.rules.specs.Terms.{paper}
use Rattle.rules.specs.Rows.{good_row}
use Rattle.rules.specs.Kept.{kept_at, kept_below}
use Rattle.rules.specs.Stretches.{Stretch, kept_stretches, pair_words}
use Rattle.rules.specs.Pay.{weight}
use Rattle.rules.specs.Calls.{Book}
use Rattle.rules.specs.Bounds.{EventBounds}
use Rattle.rules.specs.Session.{Ran, shown_session, Session}
use Rattle.clock.specs.Clocks.{clock_of}
use Rattle.record_runs.specs.declared.Run.{Run}
use Rattle.record_runs.specs.Internal.{book_of}
use Rattle.kept_pairs.specs.declared.Marks.{Marks}
use Rattle.kept_pairs.specs.Internal.{marks_at}

-- ---- a run to the quantum's end

-- of that row
pub record ReachedEnd (run : Run Marks) (row : Row) : Type 0 where
  pub sp : SpreadRule
  pub events : List Event
  pub good : good_row paper row ≡ true
  pub bounds : EventBounds row events
  pub clock_is : run.clock ≡ clock_of row sp events
  pub marks_are : run.marks ≡ marks_at (kept_at row sp events) row.length.0

-- what the end promises
abbrev pub FinalAnswer : Run Marks → Row → Finished → Type 0
FinalAnswer run row r =
    (sp : SpreadRule) (es : List Event) → EventBounds row es → run.clock ≡ clock_of row sp es → run.marks ≡ marks_at (kept_at row sp es) row.length.0
    → shown_session (Ok r) ≡ Ran.accepted (kept_below row sp es row.length.0) (weight paper (kept_below row sp es row.length.0) row.length.0 row.share) (length (kept_stretches row sp es))

-- ---- a whole pass

abbrev pub book_with : ℕ → Row → Steps → List Event → Book
book_with cell row sp es = book_of cell row (Settled sp) es

-- K, w and the number of pairs, or the refusal and its place, whatever the buffer
unfoldable pub counted : Session → Ran
counted (Session.accepted kept weight pairs) = Ran.accepted kept weight (length pairs)
counted (Session.refused number place) = Ran.refused number place

-- what a pass over the records promises
pub record Passed (s : Session) (entry exit : List ℕ) (r : Result Finished Stopped) : Type 0 where
  pub answer : shown_session r ≡ counted s
  pub words : (kept weight : ℕ) (pairs : List Stretch) → s ≡ Session.accepted kept weight pairs → 2 * length pairs ≤ length entry
      → exit ≡ pair_words pairs ++ drop (2 * length pairs) entry
