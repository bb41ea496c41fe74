-- What the functions of a message promise to each other.
use Rattle.std.specs.Prelude.{ℕ, ◌≡◌, Bool, false, List, [], ◌∷◌, Err}
use Rattle.rules.specs.declared.Event.{Event}
use Rattle.rules.specs.declared.Refusal.{Refusal}
use Rattle.rules.specs.Answers.{Outcome, accepted, refused}
use Rattle.rules.specs.Dates.{Moment, at}
use Rattle.rules.specs.Messages.{Message, time_of}
use Rattle.rules.specs.MessageCalls.{message_in, events_at}
use Rattle.rules.specs.Causes.{other_side_in}
use Rattle.rules.specs.Calls as B
use Rattle.quantum.specs.declared.Quantum.{Quantum}
use Rattle.fix_events.specs.declared.AfterMessage.{AfterMessage}
use Rattle.fix_events.specs.Answers.{InBook, Answered}

-- a refusal, and the quantum as it was
abbrev pub unchanged : Quantum → Refusal → AfterMessage
unchanged q f = record { quantum = q; answer = Err f; second = false }

-- the message at a time, or why its time is none
abbrev pub at_time : (Moment → Message Moment) → Outcome Moment → Outcome (Message Moment)
at_time say (refused n) = refused n
at_time say (accepted t) = accepted (say t)

-- the answer to every message that, with its start, is read as this one at this time
abbrev pub MessageAnswered : Quantum → Bool → (Moment → Message Moment) → Outcome Moment → AfterMessage → Type 0
MessageAnswered q running say when r =
    (start bytes : List ℕ) → message_in start bytes ≡ at_time say when → Answered q running (B.Message start bytes) r

-- the answer to every message that, with its start, is this one
abbrev pub TimedAnswered : Quantum → Bool → Message Moment → AfterMessage → Type 0
TimedAnswered q running m r = (start bytes : List ℕ) → message_in start bytes ≡ accepted m → Answered q running (B.Message start bytes) r

-- the answer to every message that means these two events, on a book in which its side is right
abbrev pub BothOrNeither : Quantum → Bool → Event → Event → AfterMessage → Type 0
BothOrNeither q running first second r =
    (start bytes : List ℕ) (message : Message Moment) (t : ℕ) → message_in start bytes ≡ accepted message → time_of message ≡ at t
    → events_at message t ≡ first ∷ second ∷ [] → ((b : B.Book) → InBook q running b → other_side_in b.running message ≡ false)
    → Answered q running (B.Message start bytes) r
