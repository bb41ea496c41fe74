-- The notes of a quantum that opens, and after an event.
use Prim.Native.Nat.{ℕ, ◌≤◌}
use native.Mathlib.Omega.{arith}
use mathlib.Core.Path.{◌≡◌, refl, ap, ◌∙◌}
use mathlib.Core.List.{List, [], ◌∷◌, ◌++◌, append-nil}
use lib.ListN.{length, get_or, replicate, length-append, length-map}
use Rattle.rules.specs.declared.Row.{Row}
use Rattle.rules.specs.declared.Order.{Order}
use Rattle.rules.specs.declared.SpreadRule.{SpreadRule}
use Rattle.rules.specs.declared.SpreadRule.TheVariants.{Settled, OfStrike}
use Rattle.order_side.specs.Slots.{column}
use Rattle.order_side.proofs.Columns.{column-length}
use Rattle.order_arrivals.specs.Arrivals.{ids_in, arrivals_of}
use Rattle.order_arrivals.specs.Notes.{row_words, spread_words, notes_of}

-- five words, one by one
abbrev pub five_of : List ℕ → List ℕ
five_of five = get_or five 0 0 ∷ get_or five 1 0 ∷ get_or five 2 0 ∷ get_or five 3 0 ∷ get_or five 4 0 ∷ []

five_back : (spread : SpreadRule) → five_of (spread_words spread) ≡ spread_words spread
five_back (Settled sp) = refl
five_back (OfStrike s) = refl

-- no ids, then the row and the spread rule
pub laid : (row : Row) (spread : SpreadRule) (five twelve : List ℕ) → five ≡ spread_words spread → twelve ≡ row_words row ++ five_of five
    → replicate 64 0 ++ (twelve ++ []) ≡ notes_of row spread []
unfolding notes_of arrivals_of column
laid row spread five twelve f t =
    ap (λ (l : List ℕ). replicate 64 0 ++ l) (append-nil twelve ∙ t ∙ ap (λ (l : List ℕ). row_words row ++ l) (ap five_of f ∙ five_back spread))

pub arrivals_length : (orders : List Order) → length orders ≤ 64 → length (arrivals_of orders) ≡ 64
unfolding arrivals_of
arrivals_length orders h = column-length (ids_in orders) (omega (arith, length-map orders (λ (o : Order). o.id)))

pub notes-length : (row : Row) (spread : SpreadRule) (orders : List Order) → length orders ≤ 64 → length (notes_of row spread orders) ≡ 76
unfolding notes_of
notes-length row spread orders h =
    omega (arith, length-append (arrivals_of orders) (row_words row ++ spread_words spread), arrivals_length orders h, spread-length spread)
  where
    spread-length : (s : SpreadRule) → length (spread_words s) ≡ 5
    spread-length (Settled sp) = refl
    spread-length (OfStrike s) = refl
