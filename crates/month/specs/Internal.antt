-- What the month's private functions promise to each other.
use Rattle.std.specs.Prelude.{ℕ, false, List, set, ◌≡◌}
use Rattle.rules.specs.declared.Cell.{Cell}
use Rattle.rules.specs.declared.Amendment.{Amendment}
use Rattle.rules.specs.declared.Preview.{Preview}
use Rattle.rules.specs.Orders.{live}
use Rattle.rules.specs.Kept.{best_bid, best_ask}
use Rattle.quantum.specs.declared.Quantum.{Quantum}
use Rattle.quantum.specs.Represents.{OfEvents}
use Rattle.rules.specs.Calls.{Idle}
use Rattle.rules.specs.Changes.{following}
use Rattle.month.specs.declared.Month.{Month}
use Rattle.rules.specs.Calls as B
use Rattle.quantum.specs.Represents.{quantum_in}

-- the month with another cell at a place
abbrev pub with_cell : Month → ℕ → Cell → Month
with_cell m place cell =
    record {
      running = m.running;
      place = m.place;
      share = m.share;
      allowed = m.allowed;
      count = m.count;
      quantum = m.quantum;
      cells = set m.cells place cell;
    }

-- the month with one more accepted call
abbrev pub counted : Month → Month
counted m =
    record {
      running = m.running;
      place = m.place;
      share = m.share;
      allowed = m.allowed;
      count = following m.count;
      quantum = m.quantum;
      cells = m.cells;
    }

-- the month with no quantum open
abbrev pub without_quantum : Month → Month
without_quantum m =
    record { running = false; place = 0; share = 0; allowed = 0; count = m.count; quantum = quantum_in Idle; cells = m.cells }

-- what an ask shows of a quantum with the amendment taken: its best quotes, and the ticket
pub record Previewed (q : Quantum) (a : Amendment) (count : ℕ) (p : Preview) : Type 0 where
  pub bid : OfEvents q (λ row sp events. p.bid ≡ best_bid row (live events))
  pub ask : OfEvents q (λ row sp events. p.ask ≡ best_ask row (live events))
  pub ticket : p.ticket ≡ record { amendment = a; count = count }
