-- Document 02, W9, of what the list runner writes: "Fee, failure counts and all cells must be equal."
use Rattle.std.specs.Prelude.{ℕ, ◌≡◌, List, [], ◌∷◌, ◌++◌, length, replicate}
use Rattle.rules.specs.Terms.{paper}
use Rattle.rules.specs.Calls.{Call}
use Rattle.rules.specs.Book.{after}
use Rattle.requests.specs.DayOrder.{Whole, joined}
use Rattle.call_list.specs.Listing.{Listed}
use Rattle.call_list.specs.Demand.{answer_at, refusals_in, CallsRan}

-- these "whole quanta" have run from a fresh month, "none refused": the refusal's number in every answer is 0
pub record Fills (quanta : List Whole) (bytes before written : List ℕ) (r : Listed) : Type 0 where
  pub ran : CallsRan (joined quanta) bytes before written r
  pub accepted : refusals_in (length (joined quanta)) written ≡ replicate (length (joined quanta)) 0

-- the books are the same, and any further call, a report or a look at any cell among them, is answered with the same words after either list
pub record SameAfter (first second : List Whole) : Type 0 where
  pub book : after paper (joined first) ≡ after paper (joined second)
  pub next : (c : Call) (bytes before written : List ℕ) (r : Listed) → CallsRan (joined first ++ (c ∷ [])) bytes before written r
      → (bytes' before' written' : List ℕ) (r' : Listed) → CallsRan (joined second ++ (c ∷ [])) bytes' before' written' r'
      → answer_at written (length (joined first)) ≡ answer_at written' (length (joined second))
