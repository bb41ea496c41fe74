-- What the functions promise to each other: records on an open quantum, by its accepted events alone.
use Rattle.std.specs.Prelude.{ℕ, zero, suc, ◌+◌, ◌*◌, ◌/◌, ◌≡◌, List, [], ◌∷◌, ◌++◌, ltb, length, drop, if◌then◌else◌}
use Rattle.rules.specs.declared.Row.{Row}
use Rattle.rules.specs.declared.SpreadRule.{SpreadRule}
use Rattle.rules.specs.declared.Event.{Event}
use Rattle.rules.specs.Answers.{Outcome, accepted, refused}
use Rattle.rules.specs.Bounds.{EventBounds}
use Rattle.rules.specs.Records.{read_record}
use Rattle.rules.specs.Session.{records_of}
use Rattle.record_runs.specs.Internal.{refusal_by, followed}
use Rattle.quantum.specs.Represents.{quantum_of}
use Rattle.quantum.specs.Words.{quantum_words}
use Rattle.quantum_in_place.specs.Events.{OfWords}
use Rattle.records_in_place.specs.declared.Taken.{Taken}
use Rattle.records_in_place.specs.Records.{most_sent}

-- the events of the records that are taken, and the number that refuses the next
pub record Gone : Type 0 where
  pub events : List Event
  pub refusal : ℕ

abbrev pub gone : List Event → ℕ → Gone
gone events n = record { events = events; refusal = n }

abbrev pub events_in : Outcome Event → List Event
events_in (accepted e) = e ∷ []
events_in (refused n) = []

abbrev pub gone_before : ℕ → Outcome Event → Gone → Gone
gone_before zero said next = gone (events_in said ++ next.events) next.refusal
gone_before (suc n) said next = gone [] (suc n)

abbrev pub gone_after : List Event → Gone → Gone
gone_after events next = gone (events ++ next.events) next.refusal

-- what refuses the record of a place, when these events were accepted before it
abbrev pub refusal_at : Row → ℕ → List Event → Outcome Event → ℕ
refusal_at row place es said = if ltb most_sent place then 15 else refusal_by row es said

unfoldable pub events_from : Row → ℕ → List Event → List (List ℕ) → Gone
events_from row place es [] = gone [] 0
events_from row place es (r ∷ rs) =
    let next = events_from row (suc place) (followed es (read_record r)) rs in
    gone_before (refusal_at row place es (read_record r)) (read_record r) next

-- what records promise of an open quantum's words: for all accepted events that led to them, the words with the taken ones', and how it ends
pub record RunsQuantum (words records words' : List ℕ) (r : Taken) : Type 0 where
  pub words_after : OfWords words (λ row sp es. words' ≡ quantum_words (quantum_of row sp (es ++ (events_from row 1 es (records_of records)).events)))
  pub count : OfWords words (λ row sp es. r.count ≡ length (events_from row 1 es (records_of records)).events)
  pub refusal : OfWords words (λ row sp es. r.refusal ≡ (events_from row 1 es (records_of records)).refusal)

-- in the loop over the records, at a byte: the events taken so far
pub record RunState (row : Row) (sp : SpreadRule) (es : List Event) (bytes words : List ℕ) (at : ℕ) : Type 0 where
  pub events : List Event
  pub bounds : EventBounds row (es ++ events)
  pub is : words ≡ quantum_words (quantum_of row sp (es ++ events))
  pub many : 20 * length events ≡ at
  pub runs : events_from row 1 es (records_of bytes) ≡ gone_after events (events_from row (at / 20 + 1) (es ++ events) (records_of (drop at bytes)))

-- .. for all events that led to the words at its start
abbrev pub RunStates : List ℕ → List ℕ → List ℕ → ℕ → Type 0
RunStates start bytes words at = OfWords start (λ row sp es. RunState row sp es bytes words at)
