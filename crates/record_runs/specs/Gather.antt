-- What a run over records gathers as time runs on, whatever it is: what the trait's functions promise, and what a whole run does.
use Rattle.std.specs.Prelude.{ℕ, zero, suc, ◌+◌, ◌≤◌, ◌<◌, ◌≡◌, List, [], ◌∷◌, true, ltb, length, if◌then◌else◌}
use Rattle.rules.specs.declared.Millis.{Millis}
use Rattle.rules.specs.declared.Row.{Row}
use Rattle.rules.specs.declared.SpreadRule.{SpreadRule}
use Rattle.rules.specs.declared.Event.{Event}
use Rattle.rules.specs.Terms.{paper}
use Rattle.rules.specs.Rows.{good_row_for}
use Rattle.rules.specs.Orders.{present}
use Rattle.rules.specs.Answers.{Outcome}
use Rattle.rules.specs.Bounds.{EventBounds}
use Rattle.rules.specs.Records.{read_record}
use Rattle.rules.specs.Session.{records_of}
use Rattle.clock.specs.declared.Duty.{Duty}
use Rattle.clock.specs.declared.Clock.{Clock}
use Rattle.clock.specs.Clocks.{clock_of}
use Rattle.events.specs.Represents.{Represents}
use Rattle.record_runs.specs.declared.Run.{Run}
use Rattle.record_runs.specs.declared.RunAfter.{RunAfter}
use Rattle.record_runs.specs.Internal.{refusal_by, followed}

-- ---- what is gathered

-- These accepted events left this clock and what holds from now on, and of the time up to the present this was gathered: it stands in the
-- marks, and in the buffer, which was base at first. Time runs on to a time of the quantum.
pub record Growth {M S : Type 0} (state_of : Row → SpreadRule → List Event → S) (gathered : Row → SpreadRule → List Event → ℕ → M → List ℕ → List ℕ → Type 0)
    (marks : M) (clock : Clock) (state : S) (to : Millis) (buffer : List ℕ) (row : Row) (sp : SpreadRule) (es : List Event) (base : List ℕ) : Type 0 where
  pub good : good_row_for paper sp row ≡ true
  pub bounds : EventBounds row es
  pub clock_is : clock ≡ clock_of row sp es
  pub state_is : state ≡ state_of row sp es
  pub onward : present es ≤ to.0
  pub inside : to.0 ≤ row.length.0
  pub so_far : gathered row sp es (present es) marks base buffer

-- some events did
pub record MayGrow {M S : Type 0} (state_of : Row → SpreadRule → List Event → S) (gathered : Row → SpreadRule → List Event → ℕ → M → List ℕ → List ℕ → Type 0)
    (marks : M) (clock : Clock) (state : S) (to : Millis) (buffer : List ℕ) : Type 0 where
  pub row : Row
  pub sp : SpreadRule
  pub events : List Event
  pub base : List ℕ
  pub grows : Growth state_of gathered marks clock state to buffer row sp events base

-- some events led to the duty, the clock and the table
pub record Reached (duty : Duty) (clock : Clock) (table : List ℕ) : Type 0 where
  pub row : Row
  pub sp : SpreadRule
  pub events : List Event
  pub good : good_row_for paper sp row ≡ true
  pub represents : Represents row sp events duty clock table

-- ---- a run so far

-- these events led to it
pub record Gathers {M : Type 0} (gathered : Row → SpreadRule → List Event → ℕ → M → List ℕ → List ℕ → Type 0)
    (row : Row) (sp : SpreadRule) (es : List Event) (base : List ℕ) (run : Run M) (duty : Duty) (table buffer : List ℕ) : Type 0 where
  pub represents : Represents row sp es duty run.clock table
  pub so_far : gathered row sp es (present es) run.marks base buffer

pub record ReachedRun {M : Type 0} (gathered : Row → SpreadRule → List Event → ℕ → M → List ℕ → List ℕ → Type 0)
    (run : Run M) (duty : Duty) (table hints buffer : List ℕ) : Type 0 where
  pub row : Row
  pub sp : SpreadRule
  pub events : List Event
  pub base : List ℕ
  pub good : good_row_for paper sp row ≡ true
  pub gathers : Gathers gathered row sp events base run duty table buffer
  pub hinted : length hints ≡ 2048

-- what a record promises
pub record Advanced {M : Type 0} (gathered : Row → SpreadRule → List Event → ℕ → M → List ℕ → List ℕ → Type 0)
    (run : Run M) (duty : Duty) (o : Outcome Event) (r : RunAfter M) (table next entry exit : List ℕ) : Type 0 where
  pub number : (row : Row) (sp : SpreadRule) (es : List Event) → Represents row sp es duty run.clock table → r.refusal ≡ refusal_by row es o
  pub goes : (row : Row) (sp : SpreadRule) (es : List Event) (base : List ℕ) → good_row_for paper sp row ≡ true → Gathers gathered row sp es base run duty table entry
      → refusal_by row es o ≡ 0 → Gathers gathered row sp (followed es o) base r.run duty next exit

-- ---- a whole run

-- the records of some bytes: the first that is refused, by its number and its place, or their events
pub data Walked : Type 0 where
  stopped : ℕ → ℕ → Walked
  through : List Event → Walked

abbrev pub walked_by : ℕ → ℕ → Walked → Walked
walked_by zero place rest = rest
walked_by (suc n) place rest = Walked.stopped (suc n) place

-- from a place on, after some accepted events
unfoldable pub walked : ℕ → Row → ℕ → List Event → List (List ℕ) → Walked
walked most row place es [] = Walked.through es
walked most row place es (r ∷ rs) =
    if ltb most place then Walked.stopped 15 place else walked_by (refusal_by row es (read_record r)) place (walked most row (suc place) (followed es (read_record r)) rs)

-- what it comes to, by what a stop and the events come to
abbrev pub ended : {R : Type 0} → (ℕ → ℕ → R) → (List Event → R) → Walked → R
ended halted end (Walked.stopped n place) = halted n place
ended halted end (Walked.through es) = end es

-- what a run over all records promises: their events, and what was gathered to the end of the quantum
pub record RunEnds {M : Type 0} (gathered : Row → SpreadRule → List Event → ℕ → M → List ℕ → List ℕ → Type 0)
    (most : ℕ) (row : Row) (sp : SpreadRule) (bytes base : List ℕ) (run : Run M) (exit : List ℕ) : Type 0 where
  pub events : List Event
  pub all : walked most row 1 [] (records_of bytes) ≡ Walked.through events
  pub bounds : EventBounds row events
  pub clock_is : run.clock ≡ clock_of row sp events
  pub ends : gathered row sp events row.length.0 run.marks base exit
