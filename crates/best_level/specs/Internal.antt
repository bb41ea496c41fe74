-- What the functions on the best level promise to each other.
use Rattle.std.specs.Prelude.{ℕ, ◌+◌, ◌≤◌, ◌≡◌, ◌⊎◌, List, leb, ltb, eqb, get_or, set, if◌then◌else◌}
use Rattle.best_quote.specs.declared.Level.{Level}
use Rattle.best_quote.specs.Levels.{held, enough, level_at, level_of}
use Rattle.best_quote.specs.Sums.{key_sums}
use Rattle.order_side.specs.declared.Change.{Change}
use Rattle.order_side.specs.Slots.{Slot, level_in, GoodSlots}
use Rattle.order_side.specs.Internal.{Changed, StaleLevel}
use Rattle.best_level.specs.declared.Guess.{Guess}
use Rattle.best_level.specs.declared.LevelFound.{LevelFound}
use Rattle.best_level.specs.Candidates.{next_key, falls_short, can_be_best}
use Rattle.best_level.specs.CandidateKeys.{keys_from}

-- ---- a level

-- the level in a side's words, and the words with another
abbrev pub level_read : List ℕ → Level
level_read words = record { key = get_or words 193 0; before = get_or words 194 0; at = get_or words 195 0 }

abbrev pub put_level : Level → List ℕ → List ℕ
put_level l words = set (set (set words 193 l.key) 194 l.before) 195 l.at

-- a level as the orders have it
abbrev pub IsLevel : List Slot → Level → Type 0
IsLevel slots l = l ≡ level_in slots l.key

-- a level of the orders before a change
pub record LevelBefore (l : Level) (c : Change) : Type 0 where
  pub before : List Slot
  pub after : List Slot
  pub good_before : GoodSlots before
  pub good : GoodSlots after
  pub changed : Changed c before after
  pub is : IsLevel before l

-- what a sum loses is in it, and what stays is at most what a side holds
pub record SumFits (sum gained lost : ℕ) : Type 0 where
  pub enough : lost ≤ sum + gained
  pub small : sum + gained ≤ lost + 64000000

-- ---- guesses

-- the best key found to qualify, after one level more
abbrev pub found_at : ℕ → ℕ → Level → ℕ
found_at minimum start l = if leb minimum (l.before + l.at) then l.key else start

-- a sum is made for each key but that of none
abbrev pub with_level : Guess → Level → ℕ → Guess
with_level g l minimum =
    record { level = l; start = found_at minimum g.start l; sums = g.sums + (if ltb 0 l.key then 1 else 0) }

-- the level next to one
abbrev pub next_level : ℕ → List ℕ → List ℕ → Level → Level
next_level minimum ks vs l = level_at ks vs (next_key minimum ks l)

-- one step more, or none where it is not worth it
abbrev pub step_farther : ℕ → List ℕ → List ℕ → Guess → Guess
step_farther minimum ks vs g = if falls_short g.level minimum then g else with_level g (next_level minimum ks vs g.level) minimum

-- a key is tried where the best level can be there
abbrev pub at_change : ℕ → List ℕ → List ℕ → Guess → ℕ → Guess
at_change minimum ks vs g key = if can_be_best g.level key minimum then with_level g (level_at ks vs key) minimum else g

-- where a search may start: from none, or from a price with enough before it; and no order has the key of none
pub record Open (minimum : ℕ) (ks vs : List ℕ) (start : ℕ) : Type 0 where
  pub none : held (eqb 0) ks vs ≡ 0
  pub below : (start ≡ 0) ⊎ (minimum ≤ held (ltb start) ks vs)

-- what the search finds from a start, after so many sums
pub record Searches (minimum : ℕ) (ks vs : List ℕ) (start before : ℕ) (r : LevelFound) : Type 0 where
  pub level : r.level ≡ level_of minimum ks vs
  pub sums : r.sums ≡ before + key_sums (enough minimum ks vs) start ks

-- the best level from one that is not, and W3's number for the candidates from there
pub record BestLevelFound (minimum : ℕ) (ks vs : List ℕ) (old : Level) (key : ℕ) (r : LevelFound) : Type 0 where
  pub level : r.level ≡ level_of minimum ks vs
  pub sums : r.sums ≡ key_sums (enough minimum ks vs) 0 (keys_from minimum ks vs key old)

-- ---- the fifth order

-- a side of five orders after a change
pub record FifthSide (words : List ℕ) (minimum : ℕ) : Type 0 where
  pub change : Change
  pub stale : StaleLevel words change minimum
  pub five : get_or words 192 0 ≡ 5
  pub some : 1 ≤ minimum
