-- The order in a slot: at its place of its side, and in the side's words.
use Prim.Native.Nat.{ℕ, ◌*◌, ◌+◌, ◌-◌, ◌/◌, ◌%◌, ◌≤◌, ◌<◌}
use native.Mathlib.Omega.{arith}
use mathlib.Core.Path.{◌≡◌, sym, ap, ◌∙◌, subst}
use mathlib.Core.List.Memᴰ
use mathlib.Core.List.{List, ◌++◌, Memᴰ}
use mathlib.Core.Bool.{true}
use lib.ListN.{length, get_or, take, drop, length-map}
use Rattle.rules.specs.declared.Side.{Side}
use Rattle.rules.specs.declared.Order.{Order}
use Rattle.rules.specs.Units.{good_price, steps}
use Rattle.rules.specs.Orders.{left}
use Rattle.rules.specs.Quotes.{same}
use Rattle.lists.proofs.Lists.{kept_in_lem}
use Rattle.lists.proofs.Members.{get_d_in}
use Rattle.rules.proofs.Bounds.{volume_bounds}
use Rattle.price_keys.proofs.Keys.{key_least, key_most, price_key}
use Rattle.order_side.specs.Slots.{Slot, blank_slot, slot_of, order_of, kept_in, GoodSlots}
use Rattle.order_side.specs.Internal.{HasOrder, slot_at}
use Rattle.order_side.proofs.Stores.{read_is}
use Rattle.order_side.proofs.Changes.{GoodSlot, one_good, all_good}
use Rattle.order_table.specs.Table.{of_side, slots_in, slot_in, GoodOrders}
use Rattle.order_table.specs.Internal.{side_at, blank_order, order_in, Represents}
use Rattle.order_table.proofs.Sides.{same_is, left_in, few_side, in_side}
use Rattle.order_table.proofs.Slots.{Has, slot-represents}
use Rattle.order_table.proofs.Table.{slot-at, part_is, part_sized, part-key}

-- ---- the bounds of slots

pub good_slots : (s : Side) (live : List Order) → GoodOrders live → GoodSlots (slots_in s live)
good_slots s live g =
    all_good (slots_in s live) (omega (arith, few_side s live g, length-map (of_side s live) (slot_of s))) one
  where
    one : (x : Slot) → Memᴰ x (slots_in s live) → GoodSlot x
    one x m =
        let (o, n, e) = Memᴰ.of_map (slot_of s) (of_side s live) m in
        let inside = in_side s live g n in
        subst GoodSlot e
        (record {
          key_least = key_least s o.price.0 (g.prices o inside);
          key_most = key_most s o.price.0 (g.prices o inside);
          volume_most = (volume_bounds o.volume.0 (g.volumes o inside)).1;
        })

-- ---- the order at a place of a side

module _ (live : List Order) (good : GoodOrders live) (s : Side) (k id : ℕ) (h : Has id (of_side s live) k) where
  abbrev o : Order
  o = get_or (of_side s live) k blank_order

  here : Memᴰ o (of_side s live)
  here = get_d_in (of_side s live) k blank_order h.inside

  pub inside : k < length (slots_in s live)
  inside = omega (arith, h.inside, length-map (of_side s live) (slot_of s))

  -- what is known of it
  pub its_side : o.side ≡ s
  its_side = same_is s o.side (kept_in_lem (λ (x : Order). same s x.side) live here).1

  pub its_price : good_price o.price.0 ≡ true
  its_price = good.prices o (in_side s live good here)

  pub its_volume : o.volume.0 ≤ 1000000
  its_volume = (volume_bounds o.volume.0 (good.volumes o (in_side s live good here))).1

  pub left_is : o.volume.0 ≡ left id live
  left_is = sym (left_in id live good.distinct (in_side s live good here) h.has)

  -- it is the one that is stored there
  pub order_is : order_of s (get_or (slots_in s live) k blank_slot) ≡ o
  order_is =
      ap (order_of s) (slot-at s (of_side s live) k h.inside)
      ∙ (λ i. record { id = o.id; side = sym its_side i; price = steps (price_key s o.price.0 its_price i); volume = o.volume })

-- the words of a side in the table, and the table with others in their place
abbrev pub lent : ℕ → List ℕ → List ℕ
lent n table = take (256 * n + 256 - 256 * n) (drop (256 * n) table)

abbrev pub put_back : ℕ → List ℕ → List ℕ → List ℕ
put_back n table half = take (256 * n) table ++ (half ++ drop (256 * n + 256 - 256 * n) (drop (256 * n) table))

-- ---- the order in a slot, and its words

module _ (minimum : ℕ) (live : List Order) (table : List ℕ) (represents : Represents table minimum live) (id at : ℕ) (is-slot : at ≡ slot_in id live)
    (there : at < 128) where
  abbrev n : ℕ
  n = at / 64

  abbrev k : ℕ
  k = at % 64

  abbrev slots : List Slot
  slots = slots_in (side_at (at / 64)) live

  pub has_slot : Has id (of_side (side_at (at / 64)) live) (at % 64)
  has_slot =
      subst (λ (m : ℕ). Has id (of_side (side_at (m / 64)) live) (m % 64)) (sym is-slot)
      (slot-represents live represents.good id (subst (λ (m : ℕ). m < 128) is-slot there)).1

  pub small : at / 64 < 2
  small = omega arith

  pub within : at % 64 < length (slots_in (side_at (at / 64)) live)
  within = inside live represents.good (side_at (at / 64)) (at % 64) id has_slot

  pub old_good : GoodSlot (get_or (slots_in (side_at (at / 64)) live) (at % 64) blank_slot)
  old_good = one_good slots (get_or slots k blank_slot) (good_slots (side_at n) live represents.good) (get_d_in slots k blank_slot within)

  pub its_left : (o : Order) → o ≡ order_in at live → o.volume.0 ≡ left id live
  its_left o e =
      ap (λ (x : Order). x.volume.0) e ∙ left_is live represents.good (side_at (at / 64)) (at % 64) id has_slot

  pub its_good : (o : Order) → o ≡ order_in at live → good_price o.price.0 ≡ true
  its_good o e = ap (λ (x : Order). good_price x.price.0) e ∙ its_price live represents.good (side_at (at / 64)) (at % 64) id has_slot

  -- its words, lent
  pub stands : HasOrder (at % 64) (lent (at / 64) table)
  stands =
      let key = part-key table minimum live represents n small k (omega arith) in
      record {
        all = (part_sized table minimum live represents n small).all;
        inside = omega arith;
        key_least = omega (arith, key, old_good.key_least);
        key_most = omega (arith, key, old_good.key_most);
      }

  pub its_order : (side : Side) → side ≡ side_at (at / 64) → order_of side (slot_at (at % 64) (lent (at / 64) table)) ≡ order_in at live
  its_order side e =
      ap (λ (s : Side). order_of s (slot_at k (lent n table))) e
      ∙ ap (order_of (side_at n))
      (read_is slots (kept_in minimum slots) k (good_slots (side_at n) live represents.good).few (omega arith) (lent n table) (part_is table minimum live represents n small))
      ∙ order_is live represents.good (side_at n) k id has_slot
