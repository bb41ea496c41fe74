-- What the functions of a message and of a commit promise to each other.
use Rattle.std.specs.Prelude.{ℕ, zero, suc, ◌≡◌, List, [], ◌∷◌, ◌++◌, Bool, false, eqb, ltb, take, if◌then◌else◌}
use Rattle.rules.specs.declared.Millis.{Millis}
use Rattle.rules.specs.declared.Order.{Order}
use Rattle.rules.specs.declared.Refusal.{Refusal}
use Rattle.rules.specs.declared.Row.{Row}
use Rattle.rules.specs.declared.SpreadRule.{SpreadRule}
use Rattle.rules.specs.declared.Event.{Event}
use Rattle.rules.specs.declared.Event.TheVariants.{Add}
use Rattle.rules.specs.Terms.{paper}
use Rattle.rules.specs.Answers.{Outcome, accepted, number_of}
use Rattle.rules.specs.Dates.{Moment, at}
use Rattle.rules.specs.Messages.{Message, new_order, replace_order}
use Rattle.rules.specs.MessageCalls.{message_in}
use Rattle.rules.specs.Calls as B
use Rattle.rules.specs.Orders.{present}
use Rattle.rules.specs.Causes.{event_refusal, other_side_in}
use Rattle.rules.specs.Book.{after}
use Rattle.rules.specs.Bounds.{EventBounds}
use Rattle.quantum.specs.Represents.{quantum_of}
use Rattle.quantum.specs.Words.{quantum_words}
use Rattle.fix_events.specs.Internal.{at_time}
use Rattle.month.specs.Words.{words_after}
use Rattle.month_in_place.specs.Events.{ChangesMonth}

-- ---- numbers

-- the first of two that is not 0
abbrev pub first_of_two : ℕ → ℕ → ℕ
first_of_two zero b = b
first_of_two (suc a) b = suc a

-- a refusal's number where its cause applies, else 0
abbrev pub number_where : Bool → Refusal → ℕ
number_where applies refusal = if applies then number_of refusal else 0

-- with no quantum open 7 comes first: the flag is the month's first word
abbrev pub none_open_or : ℕ → ℕ → ℕ
none_open_or flag n = if eqb flag 0 then 7 else n

-- ---- an open quantum

-- of all accepted events that the words of an open quantum represent
abbrev pub OfEvents : List ℕ → (Row → List Event → Type 0) → Type 0
OfEvents words P =
    (row : Row) (sp : SpreadRule) (events : List Event) → EventBounds row events → words ≡ quantum_words (quantum_of row sp events) → P row events

-- the time's causes, 8 and 9
abbrev pub untimely : Row → List Event → ℕ → ℕ
untimely row events t = first_of_two (if ltb t (present events) then 8 else 0) (if ltb row.length.0 t then 9 else 0)

-- what refuses an event
abbrev pub Refuses : List ℕ → Event → ℕ → Type 0
Refuses words e n = OfEvents words (λ row events. n ≡ event_refusal row events e)

-- what refuses the second of two events, where the first is taken
abbrev pub RefusesThen : List ℕ → Event → Event → ℕ → Type 0
RefusesThen words first second n =
    OfEvents words (λ row events. event_refusal row events first ≡ 0 → n ≡ event_refusal row (events ++ (first ∷ [])) second)

-- an order as an add
abbrev pub add_of : Millis → Order → Event
add_of t o = Add t o.id o.side o.price o.volume

-- ---- messages

-- the three messages of an order and of the id that 41 names, at a time
abbrev pub new_at : Order → Moment → Message Moment
new_at o t = new_order o.id o.side o.volume o.price t

abbrev pub replaced_at : Order → ℕ → Moment → Message Moment
replaced_at o orig t = replace_order o.id orig o.side o.volume o.price t

-- what every message that, with its start, is read as this one at this time promises of a month's words
abbrev pub MessageChanges : List ℕ → (Moment → Message Moment) → Outcome Moment → List ℕ → ℕ → Type 0
MessageChanges words say when words' n =
    (start bytes : List ℕ) → message_in start bytes ≡ at_time say when → ChangesMonth words (B.Message start bytes) words' n

-- what every message that, with its start, is this one promises
abbrev pub TimedChanges : List ℕ → Message Moment → List ℕ → ℕ → Type 0
TimedChanges words m words' n = (start bytes : List ℕ) → message_in start bytes ≡ accepted m → ChangesMonth words (B.Message start bytes) words' n

-- and what a G whose side is right promises, at a time that is one
abbrev pub BothOrNeither : List ℕ → Millis → ℕ → Order → List ℕ → ℕ → Type 0
BothOrNeither words t orig o words' n =
    (start bytes : List ℕ) → message_in start bytes ≡ accepted (replaced_at o orig (at t.0))
    → ((calls : List B.Call) → take 2464 words ≡ words_after calls → other_side_in (after paper calls).running (replaced_at o orig (at t.0)) ≡ false)
    → ChangesMonth words (B.Message start bytes) words' n
