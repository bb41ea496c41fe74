-- What an accepted event does to the slots of a side, and that they stay within their bounds.
use Rattle.std.specs.Prelude.{if◌then◌else◌}
use Prim.Native.Nat.{ℕ, suc, ◌-◌, ◌≤◌, ◌<◌}
use native.Mathlib.Omega.{arith}
use mathlib.Core.Path.{◌≡◌, refl, sym, ap, ◌∙◌}
use mathlib.Core.List.{List, [], ◌∷◌, ◌++◌, map, map-append, append-nil, Memᴰ}
use mathlib.Core.Bool.{Bool, true, false}
use borrow.Author.Tests.{eq-eqb}
use lib.ListN.{get_or, take, drop, set}
use Rattle.rules.specs.declared.Side.{Side}
use Rattle.rules.specs.declared.Side.TheVariants.{Buy, Sell}
use Rattle.rules.specs.declared.Order.{Order}
use Rattle.rules.specs.declared.Millis.{Millis}
use Rattle.rules.specs.declared.Steps.{Steps}
use Rattle.rules.specs.declared.Contracts.{Contracts}
use Rattle.rules.specs.declared.Event.{Event}
use Rattle.rules.specs.declared.Event.TheVariants.{Add, Amend, Cancel, Deal}
use Rattle.lists.specs.Lists.{filter}
use Rattle.rules.specs.Units.{contracts}
use Rattle.rules.specs.Orders.{has_id, is_live, apply}
use Rattle.rules.specs.Quotes.{same}
use Rattle.lists.proofs.Members.{any-filter, get_d_in}
use Rattle.rules.proofs.Orders.{amend_at, cancel_at, deal_some, left_at}
use Rattle.rules.proofs.Bounds.{volume_bounds}
use Rattle.price_keys.specs.Keys.{key_of, key_in}
use Rattle.best_level.specs.CandidateKeys.{changed_key}
use Rattle.order_side.specs.Slots.{Slot, slot, slot_of}
use Rattle.order_side.proofs.Lists.{map_set, map_take, map_drop}
use Rattle.order_table.specs.Table.{of_side, slots_in, GoodOrders}
use Rattle.order_table.specs.Internal.{other, blank_order}
use Rattle.book.specs.Events.{id_of, changed_by}
use Rattle.book.specs.Internal.{order_with}
use Rattle.book.proofs.Changes.{added_key, set_key, removed-key}
use Rattle.order_table.proofs.Sides.{other_unlive, distinct_side, in_side}
use Rattle.book.proofs.Sides.{names, side_add, side_named, unnamed}
use Rattle.order_table.proofs.Slots.{Has}

-- ---- one order more

module _ (live : List Order) (t : Millis) (id : ℕ) (side : Side) (price : Steps) (volume : Contracts) where
  -- by whether the order is of the side
  more_by : (s : Side) (b : Bool) → same s side ≡ b
      → slots_in s (apply live (Add t id side price volume))
      ≡ slots_in s live ++ (if b then slot id (key_of s price.0) volume.0 ∷ [] else [])
  more_by s b e =
      ap (map (slot_of s)) (side_add s live t id side price volume)
      ∙ map-append (slot_of s) (of_side s live) (if same s side then o ∷ [] else [])
      ∙ ap (λ (b : Bool). slots_in s live ++ map (slot_of s) (if b then o ∷ [] else [])) e
      ∙ go b
    where
      o : Order
      o = record { id = id; side = side; price = price; volume = volume }

      go : (b : Bool) → slots_in s live ++ map (slot_of s) (if b then o ∷ [] else []) ≡ slots_in s live ++ (if b then slot id (key_of s price.0) volume.0 ∷ [] else [])
      go true = refl
      go false = refl

  its_own : (s : Side) → same s s ≡ true
  its_own Buy = refl
  its_own Sell = refl

  not_its : (s : Side) → same (other s) s ≡ false
  not_its Buy = refl
  not_its Sell = refl

  pub added : slots_in side (apply live (Add t id side price volume)) ≡ slots_in side live ++ (slot id (key_of side price.0) volume.0 ∷ [])
  added = more_by side true (its_own side)

  -- its key, where no live order has the id
  pub added_changes : is_live id live ≡ false → key_of side price.0 ≡ changed_key side (changed_by (Add t id side price volume) (of_side side (apply live (Add t id side price volume))))
  unfolding is_live
  added_changes none =
      let o : Order = record { id = id; side = side; price = price; volume = volume } in
      let own : of_side side (apply live (Add t id side price volume)) ≡ of_side side live ++ (o ∷ []) =
      side_add side live t id side price volume ∙ ap (λ (b : Bool). of_side side live ++ (if b then o ∷ [] else [])) (its_own side) in
      sym
      (ap (λ (l : List Order). changed_key side (filter (has_id id) l)) own
      ∙ added_key id side (of_side side live) o (any-filter (has_id id) (λ (x : Order). same side x.side) live none) (eq-eqb id id refl))

  pub added_other : slots_in (other side) (apply live (Add t id side price volume)) ≡ slots_in (other side) live
  added_other = more_by (other side) false (not_its side) ∙ append-nil (slots_in (other side) live)

-- ---- the order at a place of a side

module _ (live : List Order) (good : GoodOrders live) (s : Side) (k id : ℕ) (h : Has id (of_side s live) k) where
  abbrev o : Order
  o = get_or (of_side s live) k blank_order

  here : Memᴰ o (of_side s live)
  here = get_d_in (of_side s live) k blank_order h.inside

  some : (x : Order) → Memᴰ x (of_side s live) → 1 ≤ x.volume.0
  some x m = (volume_bounds x.volume.0 (good.volumes x (in_side s live good m))).0

  -- the other side stays
  pub others_stay : (e : Event) → names id e → slots_in (other s) (apply live e) ≡ slots_in (other s) live
  others_stay e n =
      ap (map (slot_of (other s)))
      (side_named (other s) live id e n
      ∙ unnamed (of_side (other s) live) id e n (other_unlive s id live good.distinct here h.has)
      (λ x m. good.volumes x (in_side (other s) live good m)))

  -- one order of the side set, or away
  without : map (slot_of s) (take k (of_side s live) ++ drop (suc k) (of_side s live)) ≡ take k (slots_in s live) ++ drop (suc k) (slots_in s live)
  without =
      map-append (slot_of s) (take k (of_side s live)) (drop (suc k) (of_side s live))
      ∙ ap (λ (l : List Slot). l ++ map (slot_of s) (drop (suc k) (of_side s live))) (map_take (slot_of s) k (of_side s live))
      ∙ ap (λ (l : List Slot). take k (slots_in s live) ++ l) (map_drop (slot_of s) (suc k) (of_side s live))

  pub amended : (t : Millis) (price : Steps) (volume : Contracts)
      → of_side s (apply live (Amend t id price volume)) ≡ set (of_side s live) k (order_with o price volume)
  unfolding apply
  amended t price volume =
      side_named s live id (Amend t id price volume) refl
      ∙ amend_at id (of_side s live) k blank_order (distinct_side s live good) h.inside h.has price volume

  pub cancelled : (t : Millis) → slots_in s (apply live (Cancel t id)) ≡ take k (slots_in s live) ++ drop (suc k) (slots_in s live)
  unfolding apply
  cancelled t =
      ap (map (slot_of s))
      (side_named s live id (Cancel t id) refl ∙ cancel_at id (of_side s live) k blank_order (distinct_side s live good) h.inside h.has)
      ∙ without

  pub dealt_some : (t : Millis) (volume : Contracts) → volume.0 < o.volume.0
      → of_side s (apply live (Deal t id volume)) ≡ set (of_side s live) k (order_with o o.price (contracts (o.volume.0 - volume.0)))
  dealt_some t volume l =
      side_named s live id (Deal t id volume) refl
      ∙ deal_some id (of_side s live) k blank_order (distinct_side s live good) h.inside h.has some t volume
      (omega (arith, left_at id (of_side s live) k blank_order (distinct_side s live good) h.inside h.has))

  -- the slots of a side with another order in its place
  pub slots_set : (e : Event) (new : Order) → of_side s (apply live e) ≡ set (of_side s live) k new
      → slots_in s (apply live e) ≡ set (slots_in s live) k (slot_of s new)
  slots_set e new is = ap (map (slot_of s)) is ∙ map_set (slot_of s) (of_side s live) k new

  -- the key of the order that is changed, or 0 where it goes
  pub changed-key : (e : Event) (new : Order) → id_of e ≡ id → of_side s (apply live e) ≡ set (of_side s live) k new → has_id id new ≡ true
      → key_in s new ≡ changed_key s (changed_by e (of_side s (apply live e)))
  changed-key e new its is has =
      sym
      (ap (changed_key s) (λ i. filter (has_id (its i)) (is i))
      ∙ set_key id s (of_side s live) k new (distinct_side s live good) h has)

  pub cancelled_key : (t : Millis) → 0 ≡ changed_key s (changed_by (Cancel t id) (of_side s (apply live (Cancel t id))))
  unfolding apply
  cancelled_key t =
      sym (ap (λ (l : List Order). changed_key s (filter (has_id id) l)) (side_named s live id (Cancel t id) refl) ∙ removed-key id s (of_side s live))
