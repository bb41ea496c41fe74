-- The one value of the struct that represents a book, and what the month's calls promise.
use Rattle.std.specs.Prelude.{ℕ, ◌≡◌, List, [], ◌∷◌, ◌++◌}
use Rattle.rules.specs.Terms.{paper}
use Rattle.rules.specs.Answers.{Outcome, Reply}
use Rattle.rules.specs.Calls.{Call, Running, Idle, Quoting, Book, is_open}
use Rattle.rules.specs.Book.{after, answer_of}
use Rattle.quantum.specs.Represents.{quantum_in}
use Rattle.month.specs.declared.Month.{Month}

abbrev pub place_in : Running → ℕ
place_in Idle = 0
place_in (Quoting place row opening events) = place

abbrev pub share_in : Running → ℕ
share_in Idle = 0
share_in (Quoting place row opening events) = row.share

abbrev pub allowed_in : Running → ℕ
allowed_in Idle = 0
allowed_in (Quoting place row opening events) = opening.allowed

unfoldable pub month_of : Book → Month
month_of b =
    record {
      running = is_open b.running;
      place = place_in b.running;
      share = share_in b.running;
      allowed = allowed_in b.running;
      count = b.count;
      quantum = quantum_in b.running;
      cells = b.cells;
    }

-- it holds of every list of calls that led to m
abbrev pub OfCalls : Month → (List Call → Type 0) → Type 0
OfCalls m Holds = (calls : List Call) → m ≡ month_of (after paper calls) → Holds calls

-- "A month is the fresh one or what a call handed back": the month of some list of calls
pub record Reached (m : Month) : Type 0 where
  pub calls : List Call
  pub is : m ≡ month_of (after paper calls)

-- What a call promises: for every list of calls that led to the month m, the month that it hands back is the month of the longer list,
-- and what its answer shows is what the plain book answers to this call after that list. It speaks of each such list, not of one that
-- the proof picks, and there is one, since every call asks that m is `Reached`: so month and answer are fixed.
pub record Answered (m : Month) (c : Call) (next : Month) (shown : Outcome Reply) : Type 0 where
  pub month : OfCalls m (λ calls. next ≡ month_of (after paper (calls ++ (c ∷ []))))
  pub answer : OfCalls m (λ calls. shown ≡ answer_of paper (after paper calls) c)
