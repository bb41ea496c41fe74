-- What the best key of a small side is found for: a side of at most four orders, after some change.
use Rattle.std.specs.Prelude.{ℕ, ◌≤◌, List, get_or}
use Rattle.order_side.specs.declared.Change.{Change}
use Rattle.order_side.specs.Internal.{StaleLevel}
use Rattle.best_level.specs.declared.Requoted.{Requoted}
use Rattle.best_level.specs.Requotes.{Requotes}

pub record SmallSide (words : List ℕ) (minimum : ℕ) : Type 0 where
  pub change : Change
  pub stale : StaleLevel words change minimum
  pub few : get_or words 192 0 ≤ 4
  pub some : 1 ≤ minimum

-- its best level moved, whichever the change
abbrev pub SmallMoved : List ℕ → ℕ → List ℕ → Requoted → Type 0
SmallMoved words minimum exit r = (change : Change) (m : StaleLevel words change minimum) → Requotes minimum m.before m.after change exit r
