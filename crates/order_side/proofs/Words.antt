-- What the words of a side say of its orders and its level.
use Rattle.std.specs.Prelude.{if◌then◌else◌}
use Prim.Native.Nat.{ℕ, ◌+◌, ◌-◌, ◌*◌, ◌/◌, ◌≤◌, ◌<◌}
use mathlib.Core.Path.{◌≡◌, refl, ap, sym, ◌∙◌}
use mathlib.Core.List.{List, ◌++◌, map}
use native.Mathlib.Omega.{arith}
use mathlib.Core.Bool.{Bool, true, false}
use borrow.Author.Tests.{le-leb}
use lib.Dec.{leb}
use Rattle.best_quote.specs.Levels.{level_at, level_of}
use lib.ListN.{length, take, drop, get_or, replicate, length-map, get_or-map}
use Rattle.best_quote.specs.declared.Level.{Level}
use Rattle.order_side.specs.Slots.{Slot, blank_slot, ids_of, keys_of, volumes_of, column, header, side_of, best_in, best_key_in, kept_in}
use Rattle.order_side.specs.Internal.{Sized}
use Rattle.order_side.proofs.Columns.{column-length, column-at, column-take, four-length, first-at, second_at, third_at, fourth_at, first_taken, second-taken, third-taken}

-- ---- whole groups of eight

pub room_over : (count to : ℕ) → to ≡ (count + 7) / 8 * 8 → count ≤ to
room_over count to e = omega (arith, e)

pub room_most : (count to : ℕ) → count ≤ 64 → to ≡ (count + 7) / 8 * 8 → to ≤ 64
room_most count to h e = omega (arith, h, e)

-- ---- a column of the orders

module _ (f : Slot → ℕ) (slots : List Slot) where
  pub field_length : length slots ≤ 64 → length (column (map f slots)) ≡ 64
  field_length few = column-length (map f slots) (omega (arith, length-map slots f))

  field_at : (i : ℕ) → f blank_slot ≡ 0 → get_or (column (map f slots)) i 0 ≡ f (get_or slots i blank_slot)
  field_at i e =
      column-at (map f slots) i ∙ ap (get_or (map f slots) i) (sym e) ∙ get_or-map f slots i blank_slot

  field_take : (to : ℕ) → length slots ≤ to → to ≤ 64 → take to (column (map f slots)) ≡ map f slots ++ replicate (to - length slots) 0
  field_take to h k =
      column-take (map f slots) to (omega (arith, length-map slots f)) k
      ∙ ap (λ (n : ℕ). map f slots ++ replicate (to - n) 0) (length-map slots f)

header-length : (slots : List Slot) (level : Level) → length (column (header slots level)) ≡ 64
header-length slots level = column-length (header slots level) (omega arith)

-- ---- the words

module _ (words : List ℕ) (slots : List Slot) (level : Level) (few : length slots ≤ 64) (is : words ≡ side_of slots level) where
  long : (f : Slot → ℕ) → length (column (map f slots)) ≡ 64
  long f = field_length f slots few

  pub words_length : length words ≡ 256
  unfolding side_of
  words_length = ap length is ∙ four-length (column (ids_of slots)) (column (keys_of slots)) (column (volumes_of slots)) (column (header slots level)) (long _) (long _) (long _) (header-length slots level)

  in_header : (i : ℕ) → get_or words (192 + i) 0 ≡ get_or (header slots level) i 0
  unfolding side_of
  in_header i =
      ap (λ (w : List ℕ). get_or w (192 + i) 0) is
      ∙ fourth_at (column (ids_of slots)) (column (keys_of slots)) (column (volumes_of slots)) (column (header slots level)) (long _) (long _) (long _) i
      ∙ column-at (header slots level) i

  pub count_is : get_or words 192 0 ≡ length slots
  count_is = in_header 0

  pub key_is : get_or words 193 0 ≡ level.key
  key_is = in_header 1

  pub before_is : get_or words 194 0 ≡ level.before
  before_is = in_header 2

  pub at_is : get_or words 195 0 ≡ level.at
  at_is = in_header 3

  pub sized : Sized words
  sized = record { all = words_length; few = omega (arith, count_is) }

  -- a place's id, key and volume; 0 where there is no order
  pub id_at : (place : ℕ) → place < 64 → get_or words place 0 ≡ (get_or slots place blank_slot).id
  unfolding side_of
  id_at place h =
      ap (λ (w : List ℕ). get_or w place 0) is
      ∙ first-at (column (ids_of slots)) (column (keys_of slots)) (column (volumes_of slots)) (column (header slots level)) (long _) (long _) (long _) place h
      ∙ field_at (λ (s : Slot). s.id) slots place refl

  pub key-at : (place : ℕ) → place < 64 → get_or words (64 + place) 0 ≡ (get_or slots place blank_slot).key
  unfolding side_of
  key-at place h =
      ap (λ (w : List ℕ). get_or w (64 + place) 0) is
      ∙ second_at (column (ids_of slots)) (column (keys_of slots)) (column (volumes_of slots)) (column (header slots level)) (long _) (long _) (long _) place h
      ∙ field_at (λ (s : Slot). s.key) slots place refl

  pub volume_at : (place : ℕ) → place < 64 → get_or words (128 + place) 0 ≡ (get_or slots place blank_slot).volume
  unfolding side_of
  volume_at place h =
      ap (λ (w : List ℕ). get_or w (128 + place) 0) is
      ∙ third_at (column (ids_of slots)) (column (keys_of slots)) (column (volumes_of slots)) (column (header slots level)) (long _) (long _) (long _) place h
      ∙ field_at (λ (s : Slot). s.volume) slots place refl

  -- the front of a column, from the last order on: the orders and blanks
  pub ids_taken : (to : ℕ) → length slots ≤ to → to ≤ 64 → take to words ≡ ids_of slots ++ replicate (to - length slots) 0
  unfolding side_of
  ids_taken to h k =
      ap (take to) is
      ∙ first_taken (column (ids_of slots)) (column (keys_of slots)) (column (volumes_of slots)) (column (header slots level)) (long _) (long _) (long _) to k
      ∙ field_take (λ (s : Slot). s.id) slots to h k

  pub keys-taken : (to : ℕ) → length slots ≤ to → to ≤ 64 → take to (drop 64 words) ≡ keys_of slots ++ replicate (to - length slots) 0
  unfolding side_of
  keys-taken to h k =
      ap (λ (w : List ℕ). take to (drop 64 w)) is
      ∙ second-taken (column (ids_of slots)) (column (keys_of slots)) (column (volumes_of slots)) (column (header slots level)) (long _) (long _) (long _) to k
      ∙ field_take (λ (s : Slot). s.key) slots to h k

  pub volumes-taken : (to : ℕ) → length slots ≤ to → to ≤ 64 → take to (drop 128 words) ≡ volumes_of slots ++ replicate (to - length slots) 0
  unfolding side_of
  volumes-taken to h k =
      ap (λ (w : List ℕ). take to (drop 128 w)) is
      ∙ third-taken (column (ids_of slots)) (column (keys_of slots)) (column (volumes_of slots)) (column (header slots level)) (long _) (long _) (long _) to k
      ∙ field_take (λ (s : Slot). s.volume) slots to h k

-- ---- what a side keeps of its best level

pub kept-key : (minimum : ℕ) (slots : List Slot) → (kept_in minimum slots).key ≡ best_key_in minimum slots
unfolding kept_in level_of level_at
kept-key minimum slots = go (leb (length slots) 4)
  where
    go : (b : Bool) → (if b then record { key = best_key_in minimum slots; before = 0; at = 0 } else best_in minimum slots).key ≡ best_key_in minimum slots
    go true = refl
    go false = refl

pub kept_small : (minimum : ℕ) (slots : List Slot) → length slots ≤ 4 → kept_in minimum slots ≡ record { key = best_key_in minimum slots; before = 0; at = 0 }
unfolding kept_in
kept_small minimum slots h =
    ap (λ (b : Bool). if b then record { key = best_key_in minimum slots; before = 0; at = 0 } else best_in minimum slots) (le-leb (length slots) 4 h)

pub kept_large : (minimum : ℕ) (slots : List Slot) → leb (length slots) 4 ≡ false → kept_in minimum slots ≡ best_in minimum slots
unfolding kept_in
kept_large minimum slots h =
    ap (λ (b : Bool). if b then record { key = best_key_in minimum slots; before = 0; at = 0 } else best_in minimum slots) h
