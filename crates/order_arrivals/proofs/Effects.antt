-- What an accepted event does to the live orders' ids: one more after the others, none changed, or one gone and those after it moved up.
use Rattle.std.specs.Prelude.{if◌then◌else◌}
use Prim.Native.Nat.{ℕ, suc, ◌+◌, ◌-◌, ◌≤◌, ◌<◌}
use native.Mathlib.Omega.{arith}
use mathlib.Core.Path.{◌≡◌, refl, sym, ap, ◌∙◌, subst}
use mathlib.Core.List.{List, [], ◌∷◌, ◌++◌, map, map-append, append-nil, Memᴰ}
use mathlib.Core.Bool.{Bool, true, false}
use lib.Dec.{ltb}
use lib.Seq.{map-set_same}
use lib.ListN.{length, take, drop, set, get_or, length-map, length-append, length-take, length-drop, replicate}
use borrow.Author.Tests.{ltb-true, ltb-false}
use Rattle.rules.specs.declared.Order.{Order}
use Rattle.rules.specs.declared.Row.{Row}
use Rattle.rules.specs.declared.Steps.{Steps}
use Rattle.rules.specs.declared.Contracts.{Contracts}
use Rattle.rules.specs.declared.Side.TheVariants.{Buy}
use Rattle.rules.specs.declared.Event.{Event}
use Rattle.rules.specs.declared.Event.TheVariants.{Add, Amend, Cancel, Deal, Tick}
use Rattle.rules.specs.Orders.{has_id, left, apply, live, amended_order}
use Rattle.rules.specs.Bounds.{Distinct}
use Rattle.rules.proofs.Orders.{live-snoc, cancel_at, deal_some, deal_all}
use Rattle.rules.proofs.Bounds.{volume_bounds, event_bounds_more}
use Rattle.rules.proofs.Refusals.{TraderPasses, event_passes}
use Rattle.order_side.specs.Slots.{slot_of, ids_of, seen_from, column}
use Rattle.order_side.specs.Internal.{shifted}
use Rattle.order_side.proofs.Lists.{map_take, map_drop}
use Rattle.order_side.proofs.Columns.{column-length, column-more, column-shifted, column-take}
use Rattle.order_table.specs.Internal.{blank_order}
use Rattle.order_table.proofs.Slots.{Has, position, seen_at}
use Rattle.order_arrivals.proofs.Groups.{behind_ids}
use Rattle.order_arrivals.specs.Arrivals.{ids_in, arrivals_of, id_of, Follows}

-- ---- the three things that happen to a list of ids

pub data Effect (ids ids' : List ℕ) (id : ℕ) : Type 0 where
  more : ids' ≡ ids ++ (id ∷ []) → Effect ids ids' id
  same : ids' ≡ ids → Effect ids ids' id
  less : (k : ℕ) → k < length ids → seen_from 1 id ids ≡ 1 + k → ids' ≡ take k ids ++ drop (suc k) ids → Effect ids ids' id

-- ids that a change of other fields leaves
ids_map : (f : Order → Order) → ((o : Order) → (f o).id ≡ o.id) → (os : List Order) → ids_in (map f os) ≡ ids_in os
ids_map f h [] = refl
ids_map f h (o ∷ os) = let first = h o in let rest = ids_map f h os in λ i. first i ∷ rest i

-- an amendment keeps the id
amended_id : (id : ℕ) (price : Steps) (volume : Contracts) (o : Order) → (amended_order id price volume o).id ≡ o.id
amended_id id price volume o = go (has_id id o)
  where
    go : (b : Bool) → (if b then record { id = o.id; side = o.side; price = price; volume = volume } else o).id ≡ o.id
    go true = refl
    go false = refl

slots_ids : (os : List Order) → ids_of (map (slot_of Buy) os) ≡ ids_in os
slots_ids [] = refl
slots_ids (o ∷ os) = ap (λ (l : List ℕ). o.id ∷ l) (slots_ids os)

ids_parts : (os : List Order) (k : ℕ) → ids_in (take k os ++ drop (suc k) os) ≡ take k (ids_in os) ++ drop (suc k) (ids_in os)
ids_parts os k =
    map-append (λ (o : Order). o.id) (take k os) (drop (suc k) os)
    ∙ (λ i. map_take (λ (o : Order). o.id) k os i ++ map_drop (λ (o : Order). o.id) (suc k) os i)

-- ---- an accepted event

-- the orders without the one that has the id
gone : (os : List Order) (id k : ℕ) (os' : List Order) → Distinct os → Has id os k → os' ≡ take k os ++ drop (suc k) os
    → Effect (ids_in os) (ids_in os') id
gone os id k os' d h e =
    less k (omega (arith, h.inside, length-map os (λ (o : Order). o.id))) (ap (seen_from 1 id) (sym (slots_ids os)) ∙ seen_at Buy id 1 os k d h)
    (ap ids_in e ∙ ids_parts os k)

module _ (os : List Order) (d : Distinct os) (some : (o : Order) → Memᴰ o os → 1 ≤ o.volume.0) where
  effect : (e : Event) → TraderPasses os e → Effect (ids_in os) (ids_in (apply os e)) (id_of e)
  unfolding apply
  effect (Add t id side price volume) p =
      more (map-append (λ (o : Order). o.id) os (record { id = id; side = side; price = price; volume = volume } ∷ []))
  effect (Amend t id price volume) p = same (ids_map (amended_order id price volume) (amended_id id price volume) os)
  effect (Cancel t id) p =
      let (k, h) = position id os p.known in
      gone os id k (apply os (Cancel t id)) d h (cancel_at id os k blank_order d h.inside h.has)
  effect (Deal t id volume) p = go (position id os p.known).0 (position id os p.known).1 (ltb volume.0 (left id os)) refl
    where
      go : (k : ℕ) → Has id os k → (b : Bool) → ltb volume.0 (left id os) ≡ b → Effect (ids_in os) (ids_in (apply os (Deal t id volume))) id
      go k h true l =
          same
          (ap ids_in (deal_some id os k blank_order d h.inside h.has some t volume (ltb-true volume.0 (left id os) l))
          ∙ map-set_same (λ (o : Order). o.id) os k _ blank_order refl)
      go k h false l =
          let all : volume.0 ≡ left id os = omega (arith, ltb-false volume.0 (left id os) l, p.enough) in
          gone os id k (apply os (Deal t id volume)) d h (deal_all id os k blank_order d h.inside h.has some t volume all)
  effect (Tick t) p = same refl

module _ (row : Row) (events : List Event) (e : Event) (ids : List ℕ) (before after id : ℕ) (f : Follows row events e ids before after id) where
  abbrev old : List ℕ
  old = ids_in (live events)

  abbrev new : List ℕ
  new = ids_in (live (events ++ (e ∷ [])))

  pub few : length old ≤ 64
  few = omega (arith, f.bounds.few, length-map (live events) (λ (o : Order). o.id))

  pub old_count : before ≡ length old
  old_count = f.before_is ∙ sym (length-map (live events) (λ (o : Order). o.id))

  pub new_count : after ≡ length new
  new_count = f.after_is ∙ sym (length-map (live (events ++ (e ∷ []))) (λ (o : Order). o.id))

  pub happens : Effect old new id
  happens =
      subst (λ (i : ℕ). Effect old new i) (sym f.id_is)
      (subst (λ (os : List Order). Effect old (ids_in os) (id_of e)) (sym (live-snoc events e))
      (effect (live events) f.bounds.distinct (λ o m. (volume_bounds o.volume.0 (f.bounds.volumes o m)).0) e (event_passes row events e f.accepted).trader))

  pub are : ids ≡ column old
  unfolding arrivals_of
  are = f.ids_are

  pub sized : length ids ≡ 64
  sized = ap length are ∙ column-length old few

  -- after them is 0
  pub blanks : (j : ℕ) → before ≤ j → get_or ids j 0 ≡ 0
  blanks j h = ap (λ (l : List ℕ). get_or l j 0) are ∙ behind_ids old j (omega (arith, old_count, h))

  -- the ids that are looked through are the old ones
  pub looked : seen_from 1 id (take before ids) ≡ seen_from 1 id old
  looked =
      let none : length old - length old ≡ 0 = omega arith in
      (λ i. seen_from 1 id (take (old_count i) (are i)))
      ∙ ap (seen_from 1 id) (column-take old (length old) (omega arith) few)
      ∙ ap (λ (n : ℕ). seen_from 1 id (old ++ replicate n 0)) none
      ∙ ap (seen_from 1 id) (append-nil old)

  -- ---- by the numbers before and after

  parts-length : (k : ℕ) → k < length old → suc (length (take k old ++ drop (suc k) old)) ≡ length old
  parts-length k h = omega (arith, length-append (take k old) (drop (suc k) old), length-take k old, length-drop (suc k) old)

  few' : length new ≤ 64
  few' =
      omega (arith, (event_bounds_more row events e f.bounds f.accepted).few, length-map (live (events ++ (e ∷ []))) (λ (o : Order). o.id))

  pub one_more : before < after → (length old < 64) × (set ids before id ≡ arrivals_of (live (events ++ (e ∷ []))))
  unfolding arrivals_of
  one_more h = go happens
    where
      go : Effect old new id → (length old < 64) × (set ids before id ≡ column new)
      go (more m) =
          let room : length old < 64 = omega (arith, few', ap length m, length-append old (id ∷ [])) in
          (room, (λ i. set (are i) (old_count i) id) ∙ column-more old id room ∙ ap column (sym m))
      go (same s) = absurd (omega (arith, old_count, new_count, ap length s))
      go (less k l f m) = absurd (omega (arith, old_count, new_count, ap length m, parts-length k l))

  pub as_many : (before < after → ⊥) → (after < before → ⊥) → ids ≡ arrivals_of (live (events ++ (e ∷ [])))
  unfolding arrivals_of
  as_many h k = go happens
    where
      go : Effect old new id → ids ≡ column new
      go (more m) = absurd (h (omega (arith, old_count, new_count, ap length m, length-append old (id ∷ []))))
      go (same s) = are ∙ ap column (sym s)
      go (less j l f m) = absurd (k (omega (arith, old_count, new_count, ap length m, parts-length j l)))

  pub record OneLess : Type 0 where
    pub some : 1 ≤ seen_from 1 id (take before ids)
    pub most : seen_from 1 id (take before ids) ≤ before
    pub moved : shifted ids (seen_from 1 id (take before ids) - 1) (before - 1) ≡ arrivals_of (live (events ++ (e ∷ [])))

  pub one_less : after < before → OneLess
  unfolding arrivals_of
  one_less h = go happens
    where
      go : Effect old new id → OneLess
      go (more m) = absurd (omega (arith, old_count, new_count, ap length m, length-append old (id ∷ [])))
      go (same s) = absurd (omega (arith, old_count, new_count, ap length s))
      go (less k l f m) =
          let at : seen_from 1 id (take before ids) - 1 ≡ k = omega (arith, looked, f) in
          let last : suc (before - 1) ≡ length old = omega (arith, old_count) in
          record {
            some = omega (arith, looked, f);
            most = omega (arith, looked, f, old_count);
            moved = (λ i. shifted (are i) (at i) (before - 1)) ∙ column-shifted old k (before - 1) few last (omega arith) ∙ ap column (sym m);
          }
