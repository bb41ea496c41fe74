-- The table's halves: read, lent and put back, and what its words say of the live orders.
use Prim.Native.Nat.{ℕ, zero, suc, ◌+◌, ◌*◌, ◌-◌, ◌/◌, ◌%◌, ◌≤◌, ◌<◌}
use native.Mathlib.Omega.{arith}
use native.Mathlib.Nat.{not-suc-le-zero, le_of_suc-le-suc}
use mathlib.Core.Path.{◌≡◌, refl, sym, ap, ◌∙◌}
use mathlib.Core.List.{List, [], ◌∷◌, ◌++◌, map, append-nil}
use mathlib.Core.Bool.{Bool, true, false, not, ◌&&◌}
use lib.Dec.{leb, eqb}
use lib.ListN.{length, get_or, take, drop, length-append, length-map, get_or-append, get_or-eq_default}
use lib.Seq.{take_at, drop_at, take_all, drop-length}
use borrow.Author.Tests.{eq-eqb, eqb-true, eqb-false, not-true, leb-true, leb-false}
use Rattle.rules.specs.declared.Side.{Side}
use Rattle.rules.specs.declared.Side.TheVariants.{Buy, Sell}
use Rattle.rules.specs.declared.Order.{Order}
use Rattle.rules.specs.Quotes.{same}
use Rattle.lists.proofs.Lists.{both}
use Rattle.lists.proofs.Members.{length_filter}
use Rattle.best_quote.specs.declared.Level.{Level}
use Rattle.order_side.specs.Slots.{Slot, blank_slot, slot_of, side_of, kept_in, seen}
use Rattle.order_side.specs.Internal.{Sized}
use Rattle.order_side.proofs.Lists.{behind-at}
use Rattle.order_side.proofs.Words.{words_length, count_is, key_is, sized, id_at, key-at}
use Rattle.order_table.specs.Table.{of_side, slots_in, side_in, table_of, slot_by, slot_in, Held}
use Rattle.order_table.specs.Internal.{side_at, other, blank_order, joined, Represents}
use Rattle.order_table.proofs.Sides.{few_side, length_sides}
use Rattle.order_table.proofs.Slots.{Has, slot-there}

-- ---- a slot by its place

pub slot-at : (s : Side) (os : List Order) (k : ℕ) → k < length os → get_or (map (slot_of s) os) k blank_slot ≡ slot_of s (get_or os k blank_order)
slot-at s [] k h = absurd (not-suc-le-zero h)
slot-at s (o ∷ os) zero h = refl
slot-at s (o ∷ os) (suc k) h = slot-at s os k (le_of_suc-le-suc h)

-- an id that is not a blank's is that of an order
has_at : (s : Side) (os : List Order) (k id : ℕ) → (id ≡ 0 → ⊥) → (get_or (map (slot_of s) os) k blank_slot).id ≡ id → Has id os k
has_at s os k id some e = go (leb (length os) k) refl
  where
    go : (b : Bool) → leb (length os) k ≡ b → Has id os k
    go true h =
        let out : length (map (slot_of s) os) ≤ k = omega (arith, length-map os (slot_of s), leb-true (length os) k h) in
        absurd (some (sym e ∙ ap (λ (x : Slot). x.id) (get_or-eq_default (map (slot_of s) os) blank_slot out)))
    go false h =
        let within = leb-false (length os) k h in
        record { inside = within; has = eq-eqb (get_or os k blank_order).id id (sym (ap (λ (x : Slot). x.id) (slot-at s os k within)) ∙ e) }

-- ---- two halves of 256 words

module _ (own others : List ℕ) (long : length own ≡ 256) (rest : length others ≡ 256) where
  pub joined_length : (n : ℕ) → n < 2 → length (joined n own others) ≡ 512
  joined_length zero h = omega (arith, length-append own others)
  joined_length (suc zero) h = omega (arith, length-append others own)
  joined_length (suc (suc n)) h = absurd (omega arith)

  -- a word of a side
  pub joined_at : (n i : ℕ) → n < 2 → i < 256 → get_or (joined n own others) (256 * n + i) 0 ≡ get_or own i 0
  joined_at zero i h k =
      ap (λ (m : ℕ). get_or (own ++ others) m 0) (omega arith) ∙ get_or-append own others 0 i (omega arith)
  joined_at (suc zero) i h k = behind-at others own 256 rest i 0
  joined_at (suc (suc n)) i h k = absurd (omega arith)

  -- the half that is lent, and the table with another in its place
  pub joined-part : (n : ℕ) → n < 2 → take (256 * n + 256 - 256 * n) (drop (256 * n) (joined n own others)) ≡ own
  joined-part zero h = take_at own others 256 long
  joined-part (suc zero) h = ap (take 256) (drop_at others own 256 rest) ∙ take_all 256 own (omega arith)
  joined-part (suc (suc n)) h = absurd (omega arith)

  pub joined-put : (n : ℕ) (half : List ℕ) → n < 2
      → take (256 * n) (joined n own others) ++ (half ++ drop (256 * n + 256 - 256 * n) (drop (256 * n) (joined n own others))) ≡ joined n half others
  joined-put zero half h = ap (λ (l : List ℕ). half ++ l) (drop_at own others 256 long)
  joined-put (suc zero) half h =
      ap (λ (l : List ℕ). l ++ (half ++ drop 256 (drop 256 (others ++ own)))) (take_at others own 256 rest)
      ∙ ap (λ (l : List ℕ). others ++ (half ++ drop 256 l)) (drop_at others own 256 rest)
      ∙ ap (λ (n : ℕ). others ++ (half ++ drop n own)) (sym long)
      ∙ ap (λ (l : List ℕ). others ++ (half ++ l)) (drop-length own)
      ∙ ap (λ (l : List ℕ). others ++ l) (append-nil half)
  joined-put (suc (suc n)) half h = absurd (omega arith)

-- ---- the table of live orders

module _ (table : List ℕ) (minimum : ℕ) (live : List Order) (represents : Represents table minimum live) where
  pub few_slots : (s : Side) → length (slots_in s live) ≤ 64
  few_slots s = omega (arith, few_side s live represents.good, length-map (of_side s live) (slot_of s))

  pub half_length : (s : Side) → length (side_in minimum s live) ≡ 256
  half_length s = words_length (side_in minimum s live) (slots_in s live) (kept_in minimum (slots_in s live)) (few_slots s) refl

  halves : (n : ℕ) → n < 2 → table ≡ joined n (side_in minimum (side_at n) live) (side_in minimum (other (side_at n)) live)
  unfolding table_of
  halves zero h = represents.is
  halves (suc zero) h = represents.is
  halves (suc (suc n)) h = absurd (omega arith)

  pub table_length : length table ≡ 512
  table_length =
      ap length (halves 0 (omega arith)) ∙ joined_length (side_in minimum Buy live) (side_in minimum Sell live) (half_length Buy) (half_length Sell) 0 (omega arith)

  module _ (n : ℕ) (h : n < 2) where
    at : (i : ℕ) → i < 256 → get_or table (256 * n + i) 0 ≡ get_or (side_in minimum (side_at n) live) i 0
    at i k =
        ap (λ (t : List ℕ). get_or t (256 * n + i) 0) (halves n h)
        ∙ joined_at (side_in minimum (side_at n) live) (side_in minimum (other (side_at n)) live) (half_length (side_at n)) (half_length (other (side_at n))) n i h k

    pub part_is : take (256 * n + 256 - 256 * n) (drop (256 * n) table) ≡ side_in minimum (side_at n) live
    part_is =
        ap (λ (t : List ℕ). take (256 * n + 256 - 256 * n) (drop (256 * n) t)) (halves n h)
        ∙ joined-part (side_in minimum (side_at n) live) (side_in minimum (other (side_at n)) live) (half_length (side_at n)) (half_length (other (side_at n))) n h

    pub put_is : (half : List ℕ)
        → take (256 * n) table ++ (half ++ drop (256 * n + 256 - 256 * n) (drop (256 * n) table)) ≡ joined n half (side_in minimum (other (side_at n)) live)
    put_is half =
        ap (λ (t : List ℕ). take (256 * n) t ++ (half ++ drop (256 * n + 256 - 256 * n) (drop (256 * n) t))) (halves n h)
        ∙ joined-put (side_in minimum (side_at n) live) (side_in minimum (other (side_at n)) live) (half_length (side_at n)) (half_length (other (side_at n))) n half h

    -- the half that is lent is a side's words
    pub part_sized : Sized (take (256 * n + 256 - 256 * n) (drop (256 * n) table))
    part_sized =
        sized (take (256 * n + 256 - 256 * n) (drop (256 * n) table)) (slots_in (side_at n) live) (kept_in minimum (slots_in (side_at n) live)) (few_slots (side_at n)) part_is

    pub part_count : get_or (take (256 * n + 256 - 256 * n) (drop (256 * n) table)) 192 0 ≡ length (of_side (side_at n) live)
    part_count =
        count_is (take (256 * n + 256 - 256 * n) (drop (256 * n) table)) (slots_in (side_at n) live) (kept_in minimum (slots_in (side_at n) live)) (few_slots (side_at n)) part_is
        ∙ length-map (of_side (side_at n) live) (slot_of (side_at n))

    pub part-key : (k : ℕ) → k < 64
        → get_or (take (256 * n + 256 - 256 * n) (drop (256 * n) table)) (64 + k) 0 ≡ (get_or (slots_in (side_at n) live) k blank_slot).key
    part-key k l =
        key-at (take (256 * n + 256 - 256 * n) (drop (256 * n) table)) (slots_in (side_at n) live) (kept_in minimum (slots_in (side_at n) live)) (few_slots (side_at n)) part_is k l

    -- what a side's words say
    side_count : get_or table (256 * n + 192) 0 ≡ length (of_side (side_at n) live)
    side_count =
        at 192 (omega arith)
        ∙ count_is (side_in minimum (side_at n) live) (slots_in (side_at n) live) (kept_in minimum (slots_in (side_at n) live)) (few_slots (side_at n)) refl
        ∙ length-map (of_side (side_at n) live) (slot_of (side_at n))

    pub side_few : get_or table (256 * n + 192) 0 ≤ 64
    side_few = omega (arith, side_count, few_side (side_at n) live represents.good)

    -- room for one more
    pub part_room : length live < 64 → get_or (take (256 * n + 256 - 256 * n) (drop (256 * n) table)) 192 0 < 64
    part_room room = omega (arith, part_count, length_filter (λ (o : Order). same (side_at n) o.side) live)

    pub side_best : get_or table (256 * n + 193) 0 ≡ (kept_in minimum (slots_in (side_at n) live)).key
    side_best =
        at 193 (omega arith)
        ∙ key_is (side_in minimum (side_at n) live) (slots_in (side_at n) live) (kept_in minimum (slots_in (side_at n) live)) (few_slots (side_at n)) refl

    module _ (k : ℕ) (l : k < 64) where
      side_id : get_or table (256 * n + k) 0 ≡ (get_or (slots_in (side_at n) live) k blank_slot).id
      side_id =
          at k (omega arith)
          ∙ id_at (side_in minimum (side_at n) live) (slots_in (side_at n) live) (kept_in minimum (slots_in (side_at n) live)) (few_slots (side_at n)) refl k l

  pub all_count : get_or table 192 0 + get_or table 448 0 ≡ length live
  all_count = omega (arith, side_count 0 (omega arith), side_count 1 (omega arith), length_sides live)

  -- a slot that has the id is the id's: the id of a blank is 0
  hint_is : (id h : ℕ) → h < 128 → (id ≡ 0 → ⊥) → get_or table (256 * (h / 64) + h % 64) 0 ≡ id → h ≡ slot_in id live
  hint_is id h l some e =
      let side : h / 64 < 2 = omega arith in
      let place : h % 64 < 64 = omega arith in
      let s = side_at (h / 64) in
      let there = has_at s (of_side s live) (h % 64) id some (sym (side_id (h / 64) side (h % 64) place) ∙ e) in
      omega (arith, slot-there live represents.good id (h / 64) (h % 64) side there)

  pub word_is : (id h : ℕ) (b : Bool) → h < 128 → b ≡ (eqb (get_or table (256 * (h / 64) + h % 64) 0) id && not (eqb id 0)) → b ≡ true → h ≡ slot_in id live
  word_is id h b l e t =
      let word = get_or table (256 * (h / 64) + h % 64) 0 in
      let (same, some) = both (eqb word id) (not (eqb id 0)) (sym e ∙ t) in
      hint_is id h l (eqb-false id 0 (not-true (eqb id 0) some)) (eqb-true word id same)

  -- what both sides are asked for an id says its slot
  pub asked_is : (id buys sells r : ℕ) → ((slots : List Slot) (level : Level) → length slots ≤ 64 → take 256 table ≡ side_of slots level → buys ≡ seen id slots)
      → ((slots : List Slot) (level : Level) → length slots ≤ 64 → take 256 (drop 256 table) ≡ side_of slots level → sells ≡ seen id slots)
      → r ≡ slot_by buys sells → r ≡ slot_in id live
  asked_is id buys sells r b s is =
      is
      ∙ ap (λ (n : ℕ). slot_by n sells) (b (slots_in Buy live) (kept_in minimum (slots_in Buy live)) (few_slots Buy) (part_is 0 (omega arith)))
      ∙ ap (slot_by (seen id (slots_in Buy live))) (s (slots_in Sell live) (kept_in minimum (slots_in Sell live)) (few_slots Sell) (part_is 1 (omega arith)))

-- ---- a table that represents some live orders

module _ (table : List ℕ) (held : Held table) where
  pub held-represents : Represents table held.minimum held.live
  held-represents = record { good = held.good; is = held.is }

  pub held-length : length table ≡ 512
  held-length = table_length table held.minimum held.live held-represents

  pub held_count : get_or table 192 0 + get_or table 448 0 ≤ 64
  held_count = omega (arith, all_count table held.minimum held.live held-represents, held.good.few)

  pub held_sized : (n : ℕ) → n < 2 → Sized (take (256 * n + 256 - 256 * n) (drop (256 * n) table))
  held_sized n h = part_sized table held.minimum held.live held-represents n h
