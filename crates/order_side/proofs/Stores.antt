-- The stores that change a side's orders or its level.
use Prim.Native.Nat.{ℕ, suc, ◌+◌, ◌≤◌, ◌<◌}
use mathlib.Core.Path.{◌≡◌, ap, sym, ◌∙◌}
use mathlib.Core.List.{List, [], ◌∷◌, ◌++◌, map, map-append}
use native.Mathlib.Omega.{arith}
use lib.ListN.{length, take, drop, set, get_or, length-map, length-set, length-append, length-take, length-drop}
use mathlib.Core.Bool.{true}
use Rattle.rules.specs.declared.Side.{Side}
use Rattle.rules.specs.declared.Order.{Order}
use Rattle.rules.specs.Units.{good_price}
use Rattle.best_quote.specs.declared.Level.{Level}
use Rattle.price_keys.specs.Keys.{key_in}
use Rattle.price_keys.proofs.Keys.{key_price, good_price_lem}
use Rattle.order_side.specs.Slots.{Slot, slot, blank_slot, order_of, ids_of, keys_of, volumes_of, column, header, side_of}
use Rattle.order_side.specs.Internal.{HasOrder, change, slot_at, stored, shifted}
use Rattle.order_side.proofs.Lists.{map_set, map_take, map_drop}
use Rattle.order_side.proofs.Columns.{column-set, column-more, column-shifted, four, first-set, second-set, third-set, fourth_set, first-moved, second-moved, third-moved}
use Rattle.order_side.proofs.Words.{field_length, count_is, id_at, key-at, volume_at}

-- ---- an order's words in the columns

stored_in : (a b c d : List ℕ) → length a ≡ 64 → length b ≡ 64 → length c ≡ 64 → (place : ℕ) (s : Slot) → place < 64
    → stored place s (four a b c d) ≡ four (set a place s.id) (set b place s.key) (set c place s.volume) d
stored_in a b c d la lb lc place s h =
    let ka : length (set a place s.id) ≡ 64 = length-set a place s.id ∙ la in
    let kb : length (set b place s.key) ≡ 64 = length-set b place s.key ∙ lb in
    ap (λ (w : List ℕ). set (set w (64 + place) s.key) (128 + place) s.volume) (first-set a b c d la lb lc place s.id h)
    ∙ ap (λ (w : List ℕ). set w (128 + place) s.volume) (second-set (set a place s.id) b c d ka lb lc place s.key h)
    ∙ third-set (set a place s.id) (set b place s.key) c d ka kb lc place s.volume h

-- ---- one column of the orders

wide : (slots : List Slot) → length slots ≤ 64 → (f : Slot → ℕ) → length (column (map f slots)) ≡ 64
wide slots few f = field_length f slots few

module _ (f : Slot → ℕ) (slots : List Slot) where
  field_more : (s : Slot) → length slots < 64 → set (column (map f slots)) (length slots) (f s) ≡ column (map f (slots ++ (s ∷ [])))
  field_more s h =
      ap (λ (n : ℕ). set (column (map f slots)) n (f s)) (sym (length-map slots f))
      ∙ column-more (map f slots) (f s) (omega (arith, length-map slots f))
      ∙ ap column (sym (map-append f slots (s ∷ [])))

  field_set : (place : ℕ) (s : Slot) → place < length slots → set (column (map f slots)) place (f s) ≡ column (map f (set slots place s))
  field_set place s h =
      column-set (map f slots) place (f s) (omega (arith, length-map slots f)) ∙ ap column (sym (map_set f slots place s))

  field_shifted : (place last : ℕ) → length slots ≤ 64 → suc last ≡ length slots → place ≤ last
      → shifted (column (map f slots)) place last ≡ column (map f (take place slots ++ drop (suc place) slots))
  field_shifted place last few e h =
      column-shifted (map f slots) place last (omega (arith, length-map slots f)) (omega (arith, length-map slots f)) h
      ∙ (λ i. column (sym (map_take f place slots) i ++ sym (map_drop f (suc place) slots) i))
      ∙ ap column (sym (map-append f (take place slots) (drop (suc place) slots)))

count_set : (slots after : List Slot) (level : Level) (n : ℕ) → n ≡ length after
    → set (column (header slots level)) 0 n ≡ column (header after level)
count_set slots after level n e =
    column-set (header slots level) 0 n (omega arith) ∙ ap (λ (k : ℕ). column (k ∷ level.key ∷ level.before ∷ level.at ∷ [])) e

level_set : (slots : List Slot) (old new : Level)
    → set (set (set (column (header slots old)) 1 new.key) 2 new.before) 3 new.at ≡ column (header slots new)
level_set slots old new =
    let one = set (header slots old) 1 new.key in
    let two = set one 2 new.before in
    ap (λ (w : List ℕ). set (set w 2 new.before) 3 new.at) (column-set (header slots old) 1 new.key (omega arith))
    ∙ ap (λ (w : List ℕ). set w 3 new.at) (column-set one 2 new.before (omega arith))
    ∙ column-set two 3 new.at (omega arith)

-- ---- an order's words at a place, and one more

module _ (slots : List Slot) (level : Level) (s : Slot) where
  added_in : length slots < 64
      → set (stored (length slots) s (side_of slots level)) 192 (length slots + 1) ≡ side_of (slots ++ (s ∷ [])) level
  unfolding side_of
  added_in room =
      let all = wide slots (omega arith) in
      let n = length slots in
      let a = column (ids_of slots) in
      let b = column (keys_of slots) in
      let c = column (volumes_of slots) in
      let d = column (header slots level) in
      let la : length (set a n s.id) ≡ 64 = length-set a n s.id ∙ all _ in
      let lb : length (set b n s.key) ≡ 64 = length-set b n s.key ∙ all _ in
      let lc : length (set c n s.volume) ≡ 64 = length-set c n s.volume ∙ all _ in
      ap (λ (w : List ℕ). set w 192 (n + 1)) (stored_in a b c d (all _) (all _) (all _) n s room)
      ∙ fourth_set (set a n s.id) (set b n s.key) (set c n s.volume) d la lb lc 0 (n + 1)
      ∙ (λ i. four
      (field_more (λ (x : Slot). x.id) slots s room i)
      (field_more (λ (x : Slot). x.key) slots s room i)
      (field_more (λ (x : Slot). x.volume) slots s room i)
      (count_set slots (slots ++ (s ∷ [])) level (n + 1) (sym (length-append slots (s ∷ []))) i))

  pub added_is : length slots < 64 → (words after : List ℕ) → words ≡ side_of slots level → after ≡ stored (get_or words 192 0) s words
      → set after 192 (get_or words 192 0 + 1) ≡ side_of (slots ++ (s ∷ [])) level
  added_is room words after is e =
      ap (λ (w : List ℕ). set w 192 (get_or words 192 0 + 1)) e
      ∙ (λ i. set (stored (count_is words slots level (omega arith) is i) s (is i)) 192 (count_is words slots level (omega arith) is i + 1))
      ∙ added_in room

  changed_in : (place : ℕ) → length slots ≤ 64 → place < length slots → stored place s (side_of slots level) ≡ side_of (set slots place s) level
  unfolding side_of
  changed_in place few h =
      let all = wide slots few in
      stored_in (column (ids_of slots)) (column (keys_of slots)) (column (volumes_of slots)) (column (header slots level)) (all _) (all _) (all _) place s (omega arith)
      ∙ (λ i. four
      (field_set (λ (x : Slot). x.id) slots place s h i)
      (field_set (λ (x : Slot). x.key) slots place s h i)
      (field_set (λ (x : Slot). x.volume) slots place s h i)
      (column (sym (length-set slots place s) i ∷ level.key ∷ level.before ∷ level.at ∷ [])))

  pub put_is : (place : ℕ) → length slots ≤ 64 → place < length slots → (words after : List ℕ) → words ≡ side_of slots level → after ≡ stored place s words
      → after ≡ side_of (set slots place s) level
  put_is place few h words after is e = e ∙ ap (stored place s) is ∙ changed_in place few h

-- ---- what stands at a place

pub read_is : (slots : List Slot) (level : Level) (place : ℕ) → length slots ≤ 64 → place < 64 → (words : List ℕ) → words ≡ side_of slots level
    → slot_at place words ≡ get_or slots place blank_slot
read_is slots level place few h words is =
    λ i. slot (id_at words slots level few is place h i) (key-at words slots level few is place h i) (volume_at words slots level few is place h i)

module _ (place : ℕ) (words : List ℕ) (stands : HasOrder place words) (side : Side) (o : Order) (e : o ≡ order_of side (slot_at place words)) where
  pub read_good : good_price o.price.0 ≡ true
  read_good =
      ap (λ (x : Order). good_price x.price.0) e ∙ good_price_lem side (get_or words (64 + place) 0) stands.key_least stands.key_most

  read_key : key_in o.side o ≡ get_or words (64 + place) 0
  read_key =
      ap (λ (x : Order). key_in x.side x) e ∙ key_price side (get_or words (64 + place) 0) stands.key_least stands.key_most

  -- its key and volume are what the side loses
  pub read_change : (slots : List Slot) (level : Level) (old key volume : ℕ) → length slots ≤ 64 → words ≡ side_of slots level → old ≡ key_in o.side o
      → change old o.volume.0 key volume ≡ change (get_or slots place blank_slot).key (get_or slots place blank_slot).volume key volume
  read_change slots level old key volume few is k =
      let at = read_is slots level place few stands.inside words is in
      (λ i. change ((k ∙ read_key) i) (e i).volume.0 key volume) ∙ (λ i. change (at i).key (at i).volume key volume)

abbrev pub put_keys : List ℕ → List ℕ → List ℕ
put_keys w keys = take 64 w ++ (keys ++ drop 64 (drop 64 w))

abbrev put_volumes : List ℕ → List ℕ → List ℕ
put_volumes w volumes = take 128 w ++ (volumes ++ drop 64 (drop 128 w))

-- ---- an order less: what the three calls leave, one part after the other

module _ (slots : List Slot) (level : Level) (place last : ℕ) (few : length slots ≤ 64) (e : suc last ≡ length slots) (h : place ≤ last) where
  abbrev left : List Slot
  left = take place slots ++ drop (suc place) slots

  left-length : length left ≡ last
  left-length =
      omega (arith, length-append (take place slots) (drop (suc place) slots), length-take place slots, length-drop (suc place) slots)

  pub removed_is : (words ids keys volumes : List ℕ) → words ≡ side_of slots level
      → ids ≡ shifted (take 64 words) place last
      → keys ≡ shifted (take 64 (drop 64 (ids ++ drop 64 words))) place last
      → volumes ≡ shifted (take 64 (drop 128 (put_keys (ids ++ drop 64 words) keys))) place last
      → set (put_volumes (put_keys (ids ++ drop 64 words) keys) volumes) 192 last ≡ side_of left level
  unfolding side_of
  removed_is words ids keys volumes is p q r =
      let all = wide slots few in
      let rest = wide left (omega (arith, left-length)) in
      let a = column (ids_of slots) in
      let b = column (keys_of slots) in
      let c = column (volumes_of slots) in
      let d = column (header slots level) in
      let a' = column (ids_of left) in
      let b' = column (keys_of left) in
      let c' = column (volumes_of left) in
      let one : ids ++ drop 64 words ≡ four a' b c d =
      first-moved a b c d (all _) (all _) (all _) words ids (λ (x : List ℕ). shifted x place last) is p
      ∙ ap (λ (x : List ℕ). four x b c d) (field_shifted (λ (s : Slot). s.id) slots place last few e h) in
      let two : put_keys (ids ++ drop 64 words) keys ≡ four a' b' c d =
      second-moved a' b c d (rest _) (all _) (all _) (ids ++ drop 64 words) keys (λ (x : List ℕ). shifted x place last) one q
      ∙ ap (λ (x : List ℕ). four a' x c d) (field_shifted (λ (s : Slot). s.key) slots place last few e h) in
      let three : put_volumes (put_keys (ids ++ drop 64 words) keys) volumes ≡ four a' b' c' d =
      third-moved a' b' c d (rest _) (rest _) (all _) (put_keys (ids ++ drop 64 words) keys) volumes (λ (x : List ℕ). shifted x place last) two r
      ∙ ap (λ (x : List ℕ). four a' b' x d) (field_shifted (λ (s : Slot). s.volume) slots place last few e h) in
      ap (λ (w : List ℕ). set w 192 last) three
      ∙ fourth_set a' b' c' d (rest _) (rest _) (rest _) 0 last
      ∙ ap (four a' b' c') (count_set slots left level last (sym left-length))

-- ---- another level

module _ (slots : List Slot) (old new : Level) (few : length slots ≤ 64) where
  level_in : set (set (set (side_of slots old) 193 new.key) 194 new.before) 195 new.at ≡ side_of slots new
  unfolding side_of
  level_in =
      let all = wide slots few in
      let a = column (ids_of slots) in
      let b = column (keys_of slots) in
      let c = column (volumes_of slots) in
      let d = column (header slots old) in
      let d' = set d 1 new.key in
      ap (λ (w : List ℕ). set (set w 194 new.before) 195 new.at) (fourth_set a b c d (all _) (all _) (all _) 1 new.key)
      ∙ ap (λ (w : List ℕ). set w 195 new.at) (fourth_set a b c d' (all _) (all _) (all _) 2 new.before)
      ∙ fourth_set a b c (set d' 2 new.before) (all _) (all _) (all _) 3 new.at
      ∙ ap (four a b c) (level_set slots old new)

  pub level_stored : (words : List ℕ) → words ≡ side_of slots old
      → set (set (set words 193 new.key) 194 new.before) 195 new.at ≡ side_of slots new
  level_stored words is = ap (λ (w : List ℕ). set (set (set w 193 new.key) 194 new.before) 195 new.at) is ∙ level_in
