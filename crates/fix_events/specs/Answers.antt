-- What a call promises of the quantum that a book has, open or idle: the month's promise without its cells.
use Rattle.std.specs.Prelude.{◌≤◌, ◌≡◌, Bool, if◌then◌else◌}
use Rattle.rules.specs.Terms.{paper}
use Rattle.rules.specs.Answers.{shown_answer}
use Rattle.rules.specs.Calls.{Call, Running, Idle, Quoting, Book, is_open, counts}
use Rattle.rules.specs.Causes.{refusal_of}
use Rattle.rules.specs.Book.{answer_of, step}
use Rattle.rules.specs.Bounds.{EventBounds}
use Rattle.quantum.specs.declared.Quantum.{Quantum}
use Rattle.quantum.specs.Represents.{quantum_in}
use Rattle.fix_events.specs.declared.AfterMessage.{AfterMessage}

-- the accepted events of an open quantum, in their bounds
abbrev pub EventsBounded : Running → Type 0
EventsBounded Idle = Unit {0}
EventsBounded (Quoting place row opening events) = (1 ≤ row.minimum.0) × EventBounds row events

-- a book whose quantum this is, open or not
pub record InBook (q : Quantum) (running : Bool) (b : Book) : Type 0 where
  pub bounded : EventsBounded b.running
  pub is : q ≡ quantum_in b.running
  pub open_is : running ≡ is_open b.running

pub record Reached (q : Quantum) (running : Bool) : Type 0 where
  pub book : Book
  pub in_book : InBook q running book

-- for every such book: what it answers, the quantum that it has after the call, and where the call is accepted for how many it counts
pub record Answered (q : Quantum) (running : Bool) (c : Call) (r : AfterMessage) : Type 0 where
  pub answer : (b : Book) → InBook q running b → shown_answer r.answer ≡ answer_of paper b c
  pub quantum : (b : Book) → InBook q running b → r.quantum ≡ quantum_in (step paper b c).running
  pub second : (b : Book) → InBook q running b → refusal_of paper b c ≡ 0 → counts c ≡ (if r.second then 2 else 1)
