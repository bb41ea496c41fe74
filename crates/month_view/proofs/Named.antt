-- The live order with an id, and its place in the table.
use Rattle.std.specs.Prelude.{if◌then◌else◌}
use Prim.Native.Nat.{ℕ, zero, suc, ◌+◌, ◌*◌, ◌/◌, ◌%◌, ◌≤◌, ◌<◌}
use native.Mathlib.Omega.{arith}
use native.Mathlib.Nat.{not-suc-le-zero, le_of_suc-le-suc}
use mathlib.Core.Path.{◌≡◌, refl, sym, ap, subst, ◌∙◌}
use mathlib.Core.Bool.{Bool, true, false, true≢false, false≢true, ◌&&◌}
use mathlib.Core.List.{List, [], ◌∷◌}
use lib.Dec.{eqb, ltb}
use lib.ListN.{length, get_or, take}
use lib.Seq.{length-take-le}
use borrow.Author.Tests.{eq-eqb, eqb-true, ltb-true, lt-ltb}
use Rattle.rules.specs.declared.Order.{Order}
use Rattle.rules.specs.declared.Side.{Side}
use Rattle.rules.specs.declared.Side.TheVariants.{Buy, Sell}
use Rattle.rules.specs.Orders.{has_id}
use Rattle.rules.specs.Quotes.{same}
use Rattle.lists.specs.Lists.{filter}
use Rattle.lists.proofs.Lists.{both, and}
use Rattle.lists.proofs.Members.{get_d_in, length_filter}
use Rattle.order_side.specs.Slots.{Slot, order_of, kept_in}
use Rattle.order_side.specs.Internal.{Sized, HasOrder, slot_at}
use Rattle.order_side.proofs.Words.{id_at}
use Rattle.order_table.specs.Table.{of_side, slots_in, slot_in}
use Rattle.order_table.specs.Internal.{side_at, blank_order, Represents}
use Rattle.order_table.proofs.Sides.{one_only, few_side, in_side}
use Rattle.order_table.proofs.Slots.{Has, slot-there}
use Rattle.order_table.proofs.Table.{slot-at, few_slots, part_is, part_count, part_sized, table_length}
use Rattle.order_table.proofs.Orders.{lent, stands, its_order}
use Rattle.month_view.specs.Internal.{Placed, NextIn}

module _ (table : List ℕ) (id : ℕ) (p : Placed table id) where
  for_all : Represents table p.minimum p.live
  for_all = record { good = p.good; is = p.is }

  pub long : length table ≡ 512
  long = table_length table p.minimum p.live for_all

  pub sized : (n : ℕ) → n < 2 → Sized (lent n table)
  sized n h = part_sized table p.minimum p.live for_all n h

  pub named : has_id id (get_or p.live p.place blank_order) ≡ true
  named = eq-eqb (get_or p.live p.place blank_order).id id p.has

  -- its place
  module _ (n k : ℕ) (l : n < 2) (h : Has id (of_side (side_at n) p.live) k) where
    pub small : k < 64
    small = omega (arith, h.inside, few_side (side_at n) p.live p.good)

    half : (64 * n + k) / 64 ≡ n
    half = omega (arith, small)

    place : (64 * n + k) % 64 ≡ k
    place = omega (arith, small)

    slot : 64 * n + k ≡ slot_in id p.live
    slot = sym (slot-there p.live p.good id n k l h)

    inside : 64 * n + k < 128
    inside = omega (arith, small, l)

    pub stands_there : HasOrder k (lent n table)
    stands_there =
        subst (λ (m : ℕ). HasOrder k (lent m table)) half
        (subst (λ (j : ℕ). HasOrder j (lent ((64 * n + k) / 64) table)) place (stands p.minimum p.live table for_all id (64 * n + k) slot inside))

    pub order_there : order_of (side_at n) (slot_at k (lent n table)) ≡ get_or p.live p.place blank_order
    order_there =
        (λ i. order_of (side_at (sym half i)) (slot_at (sym place i) (lent (sym half i) table)))
        ∙ its_order p.minimum p.live table for_all id (64 * n + k) slot inside (side_at ((64 * n + k) / 64)) refl
        ∙ (λ i. get_or (of_side (side_at (half i)) p.live) (place i) blank_order)
        ∙ one_only id p.live p.good.distinct
        (in_side (side_at n) p.live p.good (get_d_in (of_side (side_at n) p.live) k blank_order h.inside))
        (get_d_in p.live p.place blank_order p.inside) h.has named

-- ---- by the numbers of buys and sells before it

-- an order's place among those of its side
side_place : (s : Side) (os : List Order) (i : ℕ) → i < length os → same s (get_or os i blank_order).side ≡ true
    → (length (of_side s (take i os)) < length (of_side s os)) × (get_or (of_side s os) (length (of_side s (take i os))) blank_order ≡ get_or os i blank_order)
unfolding filter
side_place s [] i h e = absurd (not-suc-le-zero h)
side_place s (o ∷ os) zero h e = go (same s o.side) e
  where
    go : (b : Bool) → b ≡ true
        → (0 < length (if b then o ∷ of_side s os else of_side s os)) × (get_or (if b then o ∷ of_side s os else of_side s os) 0 blank_order ≡ o)
    go true e = (omega arith, refl)
    go false e = absurd (false≢true e)
side_place s (o ∷ os) (suc i) h e = go (same s o.side) (side_place s os i (le_of_suc-le-suc h) e)
  where
    go : (b : Bool)
        → (length (of_side s (take i os)) < length (of_side s os)) × (get_or (of_side s os) (length (of_side s (take i os))) blank_order ≡ get_or os i blank_order)
        → (length (if b then o ∷ of_side s (take i os) else of_side s (take i os)) < length (if b then o ∷ of_side s os else of_side s os))
        × (get_or (if b then o ∷ of_side s os else of_side s os) (length (if b then o ∷ of_side s (take i os) else of_side s (take i os))) blank_order ≡ get_or os i blank_order)
    go true r = (omega (arith, r.0), r.1)
    go false r = r

not_buy : (s : Side) → same Buy s ≡ false → same Sell s ≡ true
not_buy Buy e = absurd (true≢false e)
not_buy Sell e = refl

module _ (table : List ℕ) (id buys sells : ℕ) (n : NextIn table id buys sells) where
  abbrev q : Placed table id
  q = n.placed

  all : Represents table q.minimum q.live
  all = record { good = q.good; is = q.is }

  pub buys_few : buys ≤ 64
  buys_few = omega (arith, n.buys_are, length_filter (λ (o : Order). same Buy o.side) (take q.place q.live), length-take-le q.place q.live (omega (arith, q.inside)), q.inside, q.good.few)

  -- it has its own place on its side
  own : (s : Side) (k : ℕ) → k ≡ length (of_side s (take q.place q.live)) → same s (get_or q.live q.place blank_order).side ≡ true → Has id (of_side s q.live) k
  own s k e h =
      let (inside, is) = side_place s q.live q.place q.inside h in
      subst (Has id (of_side s q.live)) (sym e) (record { inside = inside; has = ap (has_id id) is ∙ named table id q })

  -- the buy at a place, in the words
  word : (k : ℕ) → k < length (of_side Buy q.live) → get_or (lent 0 table) k 0 ≡ (get_or (of_side Buy q.live) k blank_order).id
  word k h =
      id_at (lent 0 table) (slots_in Buy q.live) (kept_in q.minimum (slots_in Buy q.live)) (few_slots table q.minimum q.live all Buy)
      (part_is table q.minimum q.live all 0 (omega arith)) k (omega (arith, h, few_side Buy q.live q.good))
      ∙ ap (λ (x : Slot). x.id) (slot-at Buy (of_side Buy q.live) k h)

  count : get_or (lent 0 table) 192 0 ≡ length (of_side Buy q.live)
  count = part_count table q.minimum q.live all 0 (omega arith)

  pub buy_there : (r : Bool) → r ≡ (ltb buys (get_or (lent 0 table) 192 0) && eqb (get_or (lent 0 table) buys 0) id) → r ≡ true → Has id (of_side Buy q.live) buys
  buy_there r e t =
      let (a, b) = both (ltb buys (get_or (lent 0 table) 192 0)) (eqb (get_or (lent 0 table) buys 0) id) (sym e ∙ t) in
      let inside : buys < length (of_side Buy q.live) = omega (arith, count, ltb-true buys (get_or (lent 0 table) 192 0) a) in
      record { inside = inside; has = eq-eqb (get_or (of_side Buy q.live) buys blank_order).id id (sym (word buys inside) ∙ eqb-true (get_or (lent 0 table) buys 0) id b) }

  pub sell_there : (r : Bool) → r ≡ (ltb buys (get_or (lent 0 table) 192 0) && eqb (get_or (lent 0 table) buys 0) id) → r ≡ false → Has id (of_side Sell q.live) sells
  sell_there r e f = go (same Buy (get_or q.live q.place blank_order).side) refl
    where
      go : (b : Bool) → same Buy (get_or q.live q.place blank_order).side ≡ b → Has id (of_side Sell q.live) sells
      go true h =
          let there = own Buy buys n.buys_are h in
          absurd
          (true≢false
          (sym (and (lt-ltb buys (get_or (lent 0 table) 192 0) (omega (arith, count, there.inside))) (ap (λ (x : ℕ). eqb x id) (word buys there.inside) ∙ there.has)) ∙ sym e ∙ f))
      go false h = own Sell sells n.sells_are (not_buy (get_or q.live q.place blank_order).side h)
