-- A side of the book in 256 words: four columns of 64. The orders are at the front of the first three, ids, keys and volumes, in the
-- order in which they were added, with 0 after them; the last has their number and the best level. So the words are a function of the
-- orders and the level.
use Rattle.std.specs.Prelude.{ℕ, ◌+◌, ◌-◌, ◌≤◌, Bool, leb, eqb, length, replicate, if◌then◌else◌}
use mathlib.Core.List.{List, [], ◌∷◌, ◌++◌, map, Memᴰ}
use Rattle.rules.specs.declared.Side.{Side}
use Rattle.rules.specs.declared.Order.{Order}
use Rattle.rules.specs.Units.{steps, contracts}
use Rattle.best_quote.specs.declared.Level.{Level}
use Rattle.price_keys.specs.Keys.{price_at, key_in}
use Rattle.best_quote.specs.Levels.{held, level_at, best_key, level_of}

-- an order of a side: its id, the key of its price, its volume
pub record Slot : Type 0 where
  pub id : ℕ
  pub key : ℕ
  pub volume : ℕ

abbrev pub slot : ℕ → ℕ → ℕ → Slot
slot id key volume = record { id = id; key = key; volume = volume }

abbrev pub blank_slot : Slot
blank_slot = slot 0 0 0

-- what is stored of an order of a side, and the order that is stored
abbrev pub slot_of : Side → Order → Slot
slot_of side o = slot o.id (key_in side o) o.volume.0

abbrev pub order_of : Side → Slot → Order
order_of side s = record { id = s.id; side = side; price = steps (price_at side s.key); volume = contracts s.volume }

abbrev pub ids_of : List Slot → List ℕ
ids_of slots = map (λ (s : Slot). s.id) slots

abbrev pub keys_of : List Slot → List ℕ
keys_of slots = map (λ (s : Slot). s.key) slots

abbrev pub volumes_of : List Slot → List ℕ
volumes_of slots = map (λ (s : Slot). s.volume) slots

-- 64 words: these, and 0 after them
unfoldable pub column : List ℕ → List ℕ
column xs = xs ++ replicate (64 - length xs) 0

abbrev pub header : List Slot → Level → List ℕ
header slots level = length slots ∷ level.key ∷ level.before ∷ level.at ∷ []

unfoldable pub side_of : List Slot → Level → List ℕ
side_of slots level =
    column (ids_of slots) ++ (column (keys_of slots) ++ (column (volumes_of slots) ++ column (header slots level)))

-- the contracts at the keys that pass, a key's level, and the best level
abbrev pub held_in : (ℕ → Bool) → List Slot → ℕ
held_in t slots = held t (keys_of slots) (volumes_of slots)

abbrev pub level_in : List Slot → ℕ → Level
level_in slots key = level_at (keys_of slots) (volumes_of slots) key

abbrev pub best_in : ℕ → List Slot → Level
best_in minimum slots = level_of minimum (keys_of slots) (volumes_of slots)

abbrev pub best_key_in : ℕ → List Slot → ℕ
best_key_in minimum slots = best_key minimum (keys_of slots) (volumes_of slots)

-- what a side keeps of its best level: all of it, or of at most four orders its key alone, since these are searched again
unfoldable pub kept_in : ℕ → List Slot → Level
kept_in minimum slots = if leb (length slots) 4 then record { key = best_key_in minimum slots; before = 0; at = 0 } else best_in minimum slots

-- at most 64, the keys those of prices in their range, the volumes in theirs
pub record GoodSlots (slots : List Slot) : Type 0 where
  pub few : length slots ≤ 64
  pub key_least : (s : Slot) → Memᴰ s slots → 1 ≤ s.key
  pub key_most : (s : Slot) → Memᴰ s slots → s.key ≤ 2000000001
  pub volume_most : (s : Slot) → Memᴰ s slots → s.volume ≤ 1000000

-- the sum of n for the first id that is this one, n + 1 for the second, ..
unfoldable pub seen_from : ℕ → ℕ → List ℕ → ℕ
seen_from n id [] = 0
seen_from n id (x ∷ xs) = (if eqb x id then n else 0) + seen_from (n + 1) id xs

-- 1 + the place of the order with the id, or 0, where ids are distinct
abbrev pub seen : ℕ → List Slot → ℕ
seen id slots = seen_from 1 id (ids_of slots)
