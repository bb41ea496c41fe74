-- Document 02, W13: the order of the standing, "sorted by rating downwards, equal ratings by lower maker number, each once".
use Rattle.std.specs.Prelude.{ℕ, List, [], ◌∷◌, Bool, true, not, ◌&&◌, eqb, ltb, if◌then◌else◌}
use Rattle.lists.specs.Lists.{any, every}
use Rattle.standing_rules.specs.declared.Maker.{Maker}

abbrev pub maker : ℕ → ℕ → Maker
maker n r = record { number = n; rating = r }

-- the record a ranks above the record b: the greater rating, with equal ratings the lower number
unfoldable pub above : Maker → Maker → Bool
above a b = if eqb a.rating b.rating then ltb a.number b.number else ltb b.rating a.rating

-- each record ranks above all that come after it
unfoldable pub sorted : List Maker → Bool
sorted [] = true
sorted (m ∷ later) = every (above m) later && sorted later

-- the record of the maker with this number
abbrev pub is_of : ℕ → Maker → Bool
is_of n m = eqb m.number n

-- the maker with this number has a record among them
abbrev pub present : ℕ → List Maker → Bool
present n records = any (is_of n) records

-- "each once": no maker has two of the records
unfoldable pub once : List Maker → Bool
once [] = true
once (m ∷ later) = not (present m.number later) && once later
