-- A quantum's cell in any month in which its place is blank is the one that it leaves in a fresh month: what else the month holds makes no
-- difference to it, and the quantum makes none to the other cells. So quanta with different places leave the same cells in any order. W9 of
-- document 02 says this of quanta of which no call is refused (DayOrder); here any call may be refused. proofs/OwnMonth shows it.
use Rattle.std.specs.Prelude.{ℕ, ◌≡◌, ◌≢◌, true, false}
use mathlib.Core.List.{List, [], ◌∷◌, ◌++◌, Memᴰ, Permᴰ}
use Rattle.lists.specs.Lists.{All}
use Rattle.rules.specs.Terms.{Terms}
use Rattle.rules.specs.Cells.{blank_cell, cell_at}
use Rattle.rules.specs.Pay.{all_failures, fee}
use Rattle.rules.specs.Calls.{Call, Idle, Book, fresh_book}
use Rattle.rules.specs.Causes.{good_charges}
use Rattle.rules.specs.Book.{after}
use Rattle.rules.specs.Histories.{refusals_from}
use Rattle.requests.specs.DayOrder.{Whole, calls_in, joined, place_in, Anywhere}

-- the calls of one quantum after any others, and alone in a fresh month
pub record SameAlone (terms : Terms) (before : List Call) (q : Whole) : Type 0 where
  -- its cell is the same
  pub cell : cell_at (after terms (before ++ calls_in q)).cells (place_in q) ≡ cell_at (after terms (calls_in q)).cells (place_in q)
  -- every other cell is as it was before the quantum
  pub others : (i : ℕ) → place_in q ≢ i → cell_at (after terms (before ++ calls_in q)).cells i ≡ cell_at (after terms before).cells i
  -- the same of its calls are refused, by the same numbers
  pub refusals : refusals_from terms fresh_book (before ++ calls_in q) ≡ refusals_from terms fresh_book before ++ refusals_from terms fresh_book (calls_in q)
  -- where its close is refused, the same quantum is left open, with the same events
  pub running : (after terms (before ++ calls_in q)).running ≡ (after terms (calls_in q)).running

-- for any calls after which no quantum is open and the quantum's place is blank; with neither a commit nor a look in the quantum, which
-- the month's count and its other cells can refuse
abbrev pub CellAsAlone : Terms → Type 0
CellAsAlone terms = (before : List Call) (q : Whole) → Anywhere q → (after terms before).running ≡ Idle
    → (cell_at (after terms before).cells (place_in q)).filled ≡ false → SameAlone terms before q

-- ---- a month of quanta, one after the other

-- no two of them name the same place
abbrev pub Apart : List Whole → Type 0
Apart [] = Unit {0}
Apart (q ∷ qs) = All (λ (p : Whole). place_in q ≢ place_in p) qs × Apart qs

-- A and P of its close are in their range
abbrev pub Chargeable : Terms → Whole → Type 0
Chargeable terms q = good_charges terms q.active q.passive ≡ true

-- what refuses the calls of each in a fresh month of its own, one quantum after the other
unfoldable pub refusals_alone : Terms → List Whole → List ℕ
refusals_alone terms [] = []
refusals_alone terms (q ∷ qs) = refusals_from terms fresh_book (calls_in q) ++ refusals_alone terms qs

pub record MonthAsAlone (terms : Terms) (qs : List Whole) : Type 0 where
  -- each quantum's cell is the one that it leaves in a fresh month
  pub cells : (q : Whole) → Memᴰ q qs
      → cell_at (after terms (joined qs)).cells (place_in q) ≡ cell_at (after terms (calls_in q)).cells (place_in q)
  -- a place that none of them names is blank
  pub others : (i : ℕ) → All (λ (q : Whole). place_in q ≢ i) qs → cell_at (after terms (joined qs)).cells i ≡ blank_cell
  pub refusals : refusals_from terms fresh_book (joined qs) ≡ refusals_alone terms qs
  pub idle : (after terms (joined qs)).running ≡ Idle

abbrev pub EachAsAlone : Terms → Type 0
EachAsAlone terms = (qs : List Whole) → All Anywhere qs → All (Chargeable terms) qs → Apart qs → MonthAsAlone terms qs

-- "Fee, failure counts and all cells must be equal" (W9), with refused calls too
pub record SameCells (terms : Terms) (first second : Book) : Type 0 where
  pub cells : first.cells ≡ second.cells
  pub failures : all_failures terms first.cells ≡ all_failures terms second.cells
  pub fee : fee terms first.cells ≡ fee terms second.cells

-- such a month of quanta in any other order
abbrev pub AnyOrder : Terms → Type 0
AnyOrder terms = (first second : List Whole) → Permᴰ first second → All Anywhere first → All (Chargeable terms) first → Apart first
    → SameCells terms (after terms (joined first)) (after terms (joined second))
