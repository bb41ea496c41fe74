-- The depth of one side in columns: the keys of its orders and their volumes, one beside the other. A blank, key 0 and volume 0, counts
-- for nothing in them.
use Rattle.std.specs.Prelude.{ℕ, ◌+◌, ◌≤◌, max, ◌≡◌, List, [], ◌∷◌, map, Bool, not, ◌&&◌, ◌||◌, leb, ltb, eqb, length, get_or, take, if◌then◌else◌}
use Rattle.lists.specs.Lists.{sum, filter}
use Rattle.best_quote.specs.declared.Level.{Level}

-- the contracts at the keys that pass
unfoldable pub held : (ℕ → Bool) → List ℕ → List ℕ → ℕ
held t [] vs = 0
held t (k ∷ ks) [] = 0
held t (k ∷ ks) (v ∷ vs) = (if t k then v else 0) + held t ks vs

-- the level of a key: the contracts at better keys, and at it
unfoldable pub level_at : List ℕ → List ℕ → ℕ → Level
level_at ks vs k = record { key = k; before = held (ltb k) ks vs; at = held (eqb k) ks vs }

-- the contracts at a key or better are enough
unfoldable pub enough : ℕ → List ℕ → List ℕ → ℕ → Bool
enough minimum ks vs k = leb minimum (held (leb k) ks vs)

unfoldable pub greatest : List ℕ → ℕ
greatest [] = 0
greatest (k ∷ ks) = max k (greatest ks)

-- the best key: the greatest one with enough, 0 where none has
unfoldable pub best_key : ℕ → List ℕ → List ℕ → ℕ
best_key minimum ks vs = greatest (filter (enough minimum ks vs) ks)

-- the best key's level
unfoldable pub level_of : ℕ → List ℕ → List ℕ → Level
level_of minimum ks vs = level_at ks vs (best_key minimum ks vs)

-- fewer than `minimum` at better keys, and enough with those at it, or no key at all
unfoldable pub is_best : Level → ℕ → Bool
is_best l minimum = ltb l.before minimum && (eqb l.key 0 || leb minimum (l.before + l.at))

-- columns whose sums fit: 64 orders of at most 1,000,000 contracts
pub record Columns (ks vs : List ℕ) : Type 0 where
  pub even : length ks ≡ length vs
  pub small : sum vs ≤ 64000000

-- columns that can be searched: of at most 64 orders, the keys those of prices
pub record Searchable (ks vs : List ℕ) (start : ℕ) : Type 0 where
  pub columns : Columns ks vs
  pub few : length ks ≤ 64
  pub keys : (i : ℕ) → get_or ks i 0 ≤ 2000000001
  pub start_most : start ≤ 2000000001

-- ---- the search, as far as it has come

-- the best key found among the first i, from a start
abbrev pub found_by : ℕ → ℕ → List ℕ → List ℕ → ℕ → ℕ
found_by start minimum ks vs i = max start (greatest (filter (enough minimum ks vs) (take i ks)))

-- what a key better than the start holds with those better than it, where it is not enough
unfoldable pub short_at : ℕ → ℕ → List ℕ → List ℕ → ℕ → ℕ
short_at start minimum ks vs k = if ltb start k && not (enough minimum ks vs k) then held (leb k) ks vs else 0

-- the most of these among the first i
abbrev pub short_by : ℕ → ℕ → List ℕ → List ℕ → ℕ → ℕ
short_by start minimum ks vs i = greatest (map (short_at start minimum ks vs) (take i ks))

-- the contracts at what is found or better, 0 where that is the start itself
abbrev pub depth_from : ℕ → ℕ → List ℕ → List ℕ → ℕ
depth_from start found ks vs = if ltb start found then held (leb found) ks vs else 0
