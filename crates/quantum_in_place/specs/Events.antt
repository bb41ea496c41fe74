-- The words of an open quantum, and what an event promises of them, in place.
use Rattle.std.specs.Prelude.{ℕ, ◌≡◌, List, ◌∷◌, ◌++◌}
use Rattle.rules.specs.declared.Row.{Row}
use Rattle.rules.specs.declared.SpreadRule.{SpreadRule}
use Rattle.rules.specs.declared.Event.{Event}
use Rattle.rules.specs.Answers.{Outcome, accepted, refused}
use Rattle.rules.specs.Causes.{event_refusal}
use Rattle.rules.specs.Bounds.{EventBounds}
use Rattle.record.specs.declared.Fields.{Fields}
use Rattle.record.specs.Fields.{fields_for}
use Rattle.quantum.specs.declared.Quantum.{Quantum}
use Rattle.quantum.specs.Represents.{quantum_of, Reached}
use Rattle.events.specs.Represents.{taken}
use Rattle.clock.specs.Words.{duty_words, clock_words}
use Rattle.quantum.specs.Words.{quantum_words}

-- the words of a quantum that a call handed back
pub record HoldsQuantum (words : List ℕ) : Type 0 where
  pub quantum : Quantum
  pub reached : Reached quantum
  pub is : words ≡ quantum_words quantum

-- it holds of every row, spread rule and accepted events whose quantum's words these are
abbrev pub OfWords : List ℕ → (Row → SpreadRule → List Event → Type 0) → Type 0
OfWords words Holds =
    (row : Row) (sp : SpreadRule) (events : List Event) → EventBounds row events → words ≡ quantum_words (quantum_of row sp events) → Holds row sp events

-- its words before its notes, and those of a quantum that a call handed back
abbrev pub front_words : Quantum → List ℕ
front_words q = duty_words q.duty ++ clock_words q.clock ++ (0 ∷ 0 ∷ q.table)

pub record HoldsFront (words : List ℕ) : Type 0 where
  pub quantum : Quantum
  pub reached : Reached quantum
  pub is : words ≡ front_words quantum

-- fields that say an event
pub record SaysEvent (f : Fields) : Type 0 where
  pub event : Event
  pub is : f ≡ fields_for event

-- What an event promises of a quantum's words before its notes, ..
pub record StepsFront (words : List ℕ) (e : Event) (words' : List ℕ) (n : ℕ) : Type 0 where
  pub number : (row : Row) (sp : SpreadRule) (events : List Event) → EventBounds row events → words ≡ front_words (quantum_of row sp events)
      → n ≡ event_refusal row events e
  pub words_after : (row : Row) (sp : SpreadRule) (events : List Event) → EventBounds row events → words ≡ front_words (quantum_of row sp events)
      → words' ≡ front_words (quantum_of row sp (taken (event_refusal row events e) events e))

-- .. what fields promise of them: those that say an event what it promises; others their refusal, with the words as they were; ..
abbrev pub StepsFrontRead : List ℕ → Outcome Event → List ℕ → ℕ → Type 0
StepsFrontRead words (accepted e) words' n = StepsFront words e words' n
StepsFrontRead words (refused k) words' n = (n ≡ k) × (words' ≡ words)

-- .. and of all of them: for all accepted events that led to them, the book's number, and the words with this
-- event taken or refused.
pub record StepsWords (words : List ℕ) (e : Event) (words' : List ℕ) (n : ℕ) : Type 0 where
  pub number : OfWords words (λ row sp events. n ≡ event_refusal row events e)
  pub words_after : OfWords words (λ row sp events. words' ≡ quantum_words (quantum_of row sp (taken (event_refusal row events e) events e)))

-- what fields promise of all of them
abbrev pub StepsRead : List ℕ → Outcome Event → List ℕ → ℕ → Type 0
StepsRead words (accepted e) words' n = StepsWords words e words' n
StepsRead words (refused k) words' n = (n ≡ k) × (words' ≡ words)
