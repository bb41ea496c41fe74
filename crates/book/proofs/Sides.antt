-- How each event changes the orders of one side.
use Rattle.std.specs.Prelude.{if◌then◌else◌}
use Prim.Native.Nat.{ℕ, ◌-◌}
use mathlib.Core.Path.{◌≡◌, refl, ap, ◌∙◌}
use mathlib.Core.List.{List, [], ◌∷◌, ◌++◌, map, Memᴰ}
use mathlib.Core.Bool.{Bool, true, false, not}
use borrow.Author.Tests.{lt-ltb}
use Rattle.rules.specs.declared.Side.{Side}
use Rattle.rules.specs.declared.Order.{Order}
use Rattle.rules.specs.declared.Millis.{Millis}
use Rattle.rules.specs.declared.Steps.{Steps}
use Rattle.rules.specs.declared.Contracts.{Contracts}
use Rattle.rules.specs.declared.Event.{Event}
use Rattle.rules.specs.declared.Event.TheVariants.{Add, Amend, Cancel, Deal, Tick}
use Rattle.lists.specs.Lists.{filter}
use Rattle.rules.specs.Units.{contracts, good_volume}
use Rattle.rules.specs.Orders.{has_id, is_live, amended_order, lessened_order, something_left, apply}
use Rattle.rules.specs.Quotes.{same}
use Rattle.lists.proofs.Lists.{filter-append, filter-one}
use Rattle.lists.proofs.Members.{none_any, filter-all, map_same}
use Rattle.rules.proofs.Orders.{amended_other, lessened_other}
use Rattle.rules.proofs.Bounds.{volume_bounds}
use Rattle.order_table.specs.Table.{of_side}

-- ---- two lists of one: those that pass, and the others

-- what keeps a test's answer comes before or after the test
filter_map : (f : Order → Order) (t : Order → Bool) → ((o : Order) → t (f o) ≡ t o) → (xs : List Order) → filter t (map f xs) ≡ map f (filter t xs)
unfolding filter
filter_map f t h [] = refl
filter_map f t h (x ∷ xs) = rw (h x, filter_map f t h xs) (go (t x))
  where
    go : (b : Bool) → (if b then f x ∷ map f (filter t xs) else map f (filter t xs)) ≡ map f (if b then x ∷ filter t xs else filter t xs)
    go true = refl
    go false = refl

-- two tests, in either order
filter_comm : (t u : Order → Bool) (xs : List Order) → filter t (filter u xs) ≡ filter u (filter t xs)
unfolding filter
filter_comm t u [] = refl
filter_comm t u (x ∷ xs) = go (t x) (u x) refl refl (filter_comm t u xs)
  where
    go : (a b : Bool) → t x ≡ a → u x ≡ b → filter t (filter u xs) ≡ filter u (filter t xs)
        → filter t (if b then x ∷ filter u xs else filter u xs) ≡ filter u (if a then x ∷ filter t xs else filter t xs)
    go true true e f r = rw (e, f, r) refl
    go true false e f r = rw (f, r) refl
    go false true e f r = rw (e, r) refl
    go false false e f r = r

-- ---- what each event does to a side

amended_side : (s : Side) (id : ℕ) (price : Steps) (volume : Contracts) (o : Order)
    → same s (amended_order id price volume o).side ≡ same s o.side
amended_side s id price volume o = go (has_id id o)
  where
    go : (b : Bool) → same s (if b then record { id = o.id; side = o.side; price = price; volume = volume } else o).side ≡ same s o.side
    go true = refl
    go false = refl

lessened_side : (s : Side) (id volume : ℕ) (o : Order) → same s (lessened_order id volume o).side ≡ same s o.side
lessened_side s id volume o = go (has_id id o)
  where
    go : (b : Bool)
        → same s (if b then record { id = o.id; side = o.side; price = o.price; volume = contracts (o.volume.0 - volume) } else o).side ≡ same s o.side
    go true = refl
    go false = refl

-- the event names a live order
abbrev pub names : ℕ → Event → Type 0
names id (Add t i side price volume) = ⊥
names id (Amend t i price volume) = i ≡ id
names id (Cancel t i) = i ≡ id
names id (Deal t i volume) = i ≡ id
names id (Tick t) = ⊥

module _ (s : Side) (os : List Order) where
  pub side_add : (t : Millis) (id : ℕ) (side : Side) (price : Steps) (volume : Contracts)
      → of_side s (apply os (Add t id side price volume))
      ≡ of_side s os ++ (if same s side then record { id = id; side = side; price = price; volume = volume } ∷ [] else [])
  unfolding apply
  side_add t id side price volume =
      let o : Order = record { id = id; side = side; price = price; volume = volume } in
      let test : Order → Bool = λ (o : Order). same s o.side in
      filter-append test os (o ∷ []) ∙ ap (λ (l : List Order). of_side s os ++ l) (filter-one test o)

  -- an event that names an order changes the sides one by one
  pub side_named : (id : ℕ) (e : Event) → names id e → of_side s (apply os e) ≡ apply (of_side s os) e
  unfolding apply
  side_named id (Add t i side price volume) n = absurd n
  side_named id (Amend t i price volume) n = filter_map (amended_order i price volume) (λ (o : Order). same s o.side) (amended_side s i price volume) os
  side_named id (Cancel t i) n = filter_comm (λ (o : Order). same s o.side) (λ (o : Order). not (has_id i o)) os
  side_named id (Deal t i volume) n =
      filter_comm (λ (o : Order). same s o.side) something_left (map (lessened_order i volume.0) os)
      ∙ ap (filter something_left) (filter_map (lessened_order i volume.0) (λ (o : Order). same s o.side) (lessened_side s i volume.0) os)
  side_named id (Tick t) n = absurd n

-- and nothing where no order has the id
pub unnamed : (os : List Order) (id : ℕ) (e : Event) → names id e → is_live id os ≡ false
    → ((o : Order) → Memᴰ o os → good_volume o.volume.0 ≡ true) → apply os e ≡ os
unfolding apply is_live
unnamed os id (Add t i side price volume) n none good = absurd n
unnamed os id (Amend t i price volume) n none good =
    map_same (amended_order i price volume) os (λ o m. amended_other i price volume o (ap (λ (i : ℕ). has_id i o) n ∙ none_any (has_id id) m none))
unnamed os id (Cancel t i) n none good =
    filter-all (λ (o : Order). not (has_id i o)) os (λ o m. ap (λ (i : ℕ). not (has_id i o)) n ∙ ap not (none_any (has_id id) m none))
unnamed os id (Deal t i volume) n none good =
    ap (filter something_left)
    (map_same (lessened_order i volume.0) os (λ o m. lessened_other i volume.0 o (ap (λ (i : ℕ). has_id i o) n ∙ none_any (has_id id) m none)))
    ∙ filter-all something_left os (λ o m. lt-ltb 0 o.volume.0 (volume_bounds o.volume.0 (good o m)).0)
unnamed os id (Tick t) n none good = absurd n
