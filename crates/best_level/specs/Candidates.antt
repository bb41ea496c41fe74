-- Document 02, W3: the candidates for a side's best quote after an event, in the order in which the work looks at them. Prices are keys
-- here (crates/price_keys): the better price has the greater key, and 0 is the key of none. `before` and `after` are the live orders of the
-- side before and after the event, as they were added; `changed` is the order that the event added or changed, none where it removed one.
-- Each candidate is an order of `after` (`candidates-live` in proofs/Candidates).
use Rattle.std.specs.Prelude.{ℕ, ◌+◌, ◌-◌, ◌*◌, min, List, [], ◌∷◌, ◌++◌, map, Bool, ◌&&◌, leb, ltb, eqb, length, if◌then◌else◌}
use Rattle.rules.specs.declared.Side.{Side}
use Rattle.rules.specs.declared.Order.{Order}
use Rattle.lists.specs.Lists.{filter}
use Rattle.rules.specs.Quotes.{volume_of}
use Rattle.price_keys.specs.Keys.{key_in}
use Rattle.best_quote.specs.declared.Level.{Level}
use Rattle.best_quote.specs.Levels.{greatest, level_at, best_key, is_best}

-- ---- from one level to the next

unfoldable pub least : List ℕ → ℕ
least [] = 2000000001
least (k ∷ ks) = min k (least ks)

-- the least of the keys above, and the greatest of those below
unfoldable pub key_above : ℕ → List ℕ → ℕ
key_above key ks = least (filter (ltb key) ks)

unfoldable pub key_below : ℕ → List ℕ → ℕ
key_below key ks = greatest (filter (λ (k : ℕ). ltb k key) ks)

-- the key next to a level that is not the best: above it where enough contracts are before it, else below it
unfoldable pub next_key : ℕ → List ℕ → Level → ℕ
next_key minimum ks l = if leb minimum l.before then key_above l.key ks else key_below l.key ks

-- how many contracts too many are before a level, or are missing at it or better
abbrev pub lacking_at : Level → ℕ → ℕ
lacking_at l minimum = if leb minimum l.before then l.before - minimum else minimum - (l.before + l.at)

-- a further step is not worth it: the level has less than an eighth of what it lacks, so that the best one is likely far
abbrev pub falls_short : Level → ℕ → Bool
falls_short l minimum = ltb (8 * l.at) (lacking_at l minimum)

-- the best level can be at a key, as seen from a level that is not the best
abbrev pub can_be_best : Level → ℕ → ℕ → Bool
can_be_best l key minimum = if leb minimum l.before then ltb l.key key else ltb 0 key && ltb key l.key

-- ---- the candidates

abbrev pub keys_in : Side → List Order → List ℕ
keys_in side orders = map (key_in side) orders

abbrev pub volumes_in : List Order → List ℕ
volumes_in orders = map volume_of orders

-- the level of a key among orders
abbrev pub level_among : Side → List Order → ℕ → Level
level_among side orders key = level_at (keys_in side orders) (volumes_in orders) key

-- the first order at a key
unfoldable pub first_at : Side → ℕ → List Order → List Order
first_at side key [] = []
first_at side key (o ∷ os) = if eqb key (key_in side o) then o ∷ [] else first_at side key os

-- all orders sorted by price, the best one first
unfoldable pub inserted : Side → Order → List Order → List Order
inserted side o [] = o ∷ []
inserted side o (p ∷ ps) = if leb (key_in side p) (key_in side o) then o ∷ p ∷ ps else p ∷ inserted side o ps

unfoldable pub by_price : Side → List Order → List Order
by_price side [] = []
by_price side (o ∷ os) = inserted side o (by_price side os)

module _ (side : Side) (minimum : ℕ) (after : List Order) where
  abbrev pub next_of : Level → ℕ
  next_of l = next_key minimum (keys_in side after) l

  -- the changed order, where the best level can be at its key; unless it is, all orders as they were added: the search
  unfoldable pub from_change : List Order → Level → List Order
  from_change [] l = after
  from_change (o ∷ os) l =
      if can_be_best l (key_in side o) minimum then o ∷ (if is_best (level_among side after (key_in side o)) minimum then [] else after) else after

  -- after two steps, and after one: a second step is made unless it is not worth it
  unfoldable pub from_second : List Order → Level → List Order
  from_second changed l = if is_best l minimum then [] else from_change changed l

  unfoldable pub from_first : List Order → Level → List Order
  from_first changed l =
      if is_best l minimum then []
      else if falls_short l minimum then from_change changed l
      else first_at side (next_of l) after ++ from_second changed (level_among side after (next_of l))

  -- from the level of the key that was the best before the event
  unfoldable pub from_old : List Order → Level → List Order
  from_old changed l = if is_best l minimum then [] else first_at side (next_of l) after ++ from_first changed (level_among side after (next_of l))

-- A small side: all orders, sorted by price. The fifth order of a side: all orders as they were added, since a small side keeps no level.
-- Otherwise from the old best key's level on, which is carried: none where it is still the best.
unfoldable pub candidates : Side → ℕ → List Order → List Order → List Order → List Order
candidates side minimum before after changed =
    if leb (length after) 4 then by_price side after
    else if leb (length before) 4 then after
    else from_old side minimum after changed (level_among side after (best_key minimum (keys_in side before) (volumes_in before)))
