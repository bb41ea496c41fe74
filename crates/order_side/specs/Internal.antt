-- What the functions on a side promise to each other.
use Rattle.std.specs.Prelude.{ℕ, suc, ◌+◌, ◌-◌, ◌≤◌, ◌<◌, ◌≡◌, List, [], ◌∷◌, ◌++◌, Bool, ◌&&◌, leb, ltb, eqb, length, get_or, take, drop, set, if◌then◌else◌}
use Rattle.rules.specs.declared.Order.{Order}
use Rattle.rules.specs.Units.{contracts}
use Rattle.best_quote.specs.declared.Level.{Level}
use Rattle.price_keys.specs.Keys.{key_in}
use Rattle.order_side.specs.declared.Change.{Change}
use Rattle.order_side.specs.Slots.{Slot, slot, blank_slot, slot_of, side_of, held_in, kept_in, GoodSlots}

abbrev pub change : ℕ → ℕ → ℕ → ℕ → Change
change old held key volume = record { old = old; held = contracts held; key = key; volume = contracts volume }

-- what stands at a key counts where the key passes
abbrev pub volume_where : (ℕ → Bool) → ℕ → ℕ → ℕ
volume_where t key volume = if t key then volume else 0

-- the change says what every sum of contracts gains and loses
abbrev pub Changed : Change → List Slot → List Slot → Type 0
Changed c before after =
    (t : ℕ → Bool) → held_in t after + volume_where t c.old c.held.0 ≡ held_in t before + volume_where t c.key c.volume.0

-- an order comes
abbrev pub brings : Change → Bool
brings c = eqb c.old 0 && ltb 0 c.key

-- a side that has more than four orders after a change had at most four before it just where the fifth came
abbrev pub Grows : Change → List Slot → List Slot → Type 0
Grows c before after = 5 ≤ length after → leb (length before) 4 ≡ (eqb (length after) 5 && brings c)

-- words of a side's size, with an order's place below its number of orders
pub record Sized (words : List ℕ) : Type 0 where
  pub all : length words ≡ 256
  pub few : get_or words 192 0 ≤ 64

-- words of a side's size, with an order at the place
pub record HasOrder (place : ℕ) (words : List ℕ) : Type 0 where
  pub all : length words ≡ 256
  pub inside : place < 64
  pub key_least : 1 ≤ get_or words (64 + place) 0
  pub key_most : get_or words (64 + place) 0 ≤ 2000000001

-- an order more, behind the others
pub record Added (order : Order) (entry exit : List ℕ) (r : Change) : Type 0 where
  pub words : (slots : List Slot) (level : Level) → length slots < 64 → entry ≡ side_of slots level
      → exit ≡ side_of (slots ++ (slot_of order.side order ∷ [])) level
  pub answers : r ≡ change 0 0 (key_in order.side order) order.volume.0

-- an order in another's place
pub record OrderReplaced (place : ℕ) (order : Order) (entry exit : List ℕ) (r : Change) : Type 0 where
  pub words : (slots : List Slot) (level : Level) → length slots ≤ 64 → place < length slots → entry ≡ side_of slots level
      → exit ≡ side_of (set slots place (slot_of order.side order)) level
  pub answers : (slots : List Slot) (level : Level) → length slots ≤ 64 → place < length slots → entry ≡ side_of slots level
      → r ≡ change (get_or slots place blank_slot).key (get_or slots place blank_slot).volume (key_in order.side order) order.volume.0

-- without an order: those behind it move up
pub record Removed (place : ℕ) (entry exit : List ℕ) (r : Change) : Type 0 where
  pub words : (slots : List Slot) (level : Level) → length slots ≤ 64 → place < length slots → entry ≡ side_of slots level
      → exit ≡ side_of (take place slots ++ drop (suc place) slots) level
  pub answers : (slots : List Slot) (level : Level) → length slots ≤ 64 → place < length slots → entry ≡ side_of slots level
      → r ≡ change (get_or slots place blank_slot).key (get_or slots place blank_slot).volume 0 0

-- the slot that the words have at a place, and the words with another there
abbrev pub slot_at : ℕ → List ℕ → Slot
slot_at place words = slot (get_or words place 0) (get_or words (64 + place) 0) (get_or words (128 + place) 0)

abbrev pub stored : ℕ → Slot → List ℕ → List ℕ
stored place s words = set (set (set words place s.id) (64 + place) s.key) (128 + place) s.volume

-- what stands behind a place of a column moves up to it, and the last one is 0
abbrev pub shifted : List ℕ → ℕ → ℕ → List ℕ
shifted xs place last = take place xs ++ (take (last - place) (drop (suc place) xs) ++ (0 ∷ drop (suc last) xs))

-- the orders have changed, and the best level is still that of before
pub record StaleLevel (words : List ℕ) (c : Change) (minimum : ℕ) : Type 0 where
  pub before : List Slot
  pub after : List Slot
  pub good_before : GoodSlots before
  pub good : GoodSlots after
  pub changed : Changed c before after
  pub grown : Grows c before after
  pub is : words ≡ side_of after (kept_in minimum before)
