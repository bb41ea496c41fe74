-- Whether an id is live on the other side: its words are scanned for it.
use Rattle.std.specs.Prelude.{if◌then◌else◌}
use Prim.Native.Nat.{ℕ, zero, suc, ◌+◌, ◌*◌, ◌-◌, ◌≤◌}
use native.Mathlib.Omega.{arith}
use mathlib.Core.Path.{◌≡◌, refl, ap, ◌∙◌}
use mathlib.Core.List.{List, [], ◌∷◌, map}
use mathlib.Core.Bool.{Bool, true, false, not, ◌&&◌, ◌||◌}
use lib.Dec.{ltb}
use lib.ListN.{length, take, drop}
use borrow.Author.Tests.{lt-ltb}
use Rattle.rules.specs.declared.Side.{Side}
use Rattle.rules.specs.declared.Side.TheVariants.{Buy, Sell}
use Rattle.rules.specs.declared.Order.{Order}
use Rattle.lists.specs.Lists.{filter, any}
use Rattle.rules.specs.Orders.{has_id, is_live}
use Rattle.rules.specs.Quotes.{same}
use Rattle.best_quote.specs.declared.Level.{Level}
use Rattle.order_side.specs.Slots.{Slot, slot_of, ids_of, side_of, kept_in, seen_from, seen}
use Rattle.order_table.specs.Table.{of_side, slots_in}
use Rattle.order_table.specs.Internal.{side_at, other, Numbers, Represents}
use Rattle.order_table.proofs.Table.{few_slots, part_is}

-- a place above 0 is found exactly where an order has the id
seen-live : (s : Side) (id n : ℕ) (os : List Order) → 1 ≤ n → ltb 0 (seen_from n id (ids_of (map (slot_of s) os))) ≡ is_live id os
unfolding seen_from is_live any
seen-live s id n [] h = refl
seen-live s id n (o ∷ os) h = go (has_id id o) (seen-live s id (n + 1) os (omega arith))
  where
    go : (b : Bool) → ltb 0 (seen_from (n + 1) id (ids_of (map (slot_of s) os))) ≡ any (has_id id) os
        → ltb 0 ((if b then n else 0) + seen_from (n + 1) id (ids_of (map (slot_of s) os))) ≡ (b || any (has_id id) os)
    go true r = lt-ltb 0 (n + seen_from (n + 1) id (ids_of (map (slot_of s) os))) (omega arith)
    go false r = let e : 0 + seen_from (n + 1) id (ids_of (map (slot_of s) os)) ≡ seen_from (n + 1) id (ids_of (map (slot_of s) os)) = omega arith in ap (ltb 0) e ∙ r

other-live : (side : Side) (id : ℕ) (os : List Order)
    → is_live id (of_side (other side) os) ≡ any (λ (o : Order). has_id id o && not (same side o.side)) os
unfolding is_live filter any
other-live side id [] = refl
other-live side id (o ∷ os) = rw (opposite side o.side) (go (not (same side o.side)) (has_id id o) refl (other-live side id os))
  where
    opposite : (s t : Side) → same (other s) t ≡ not (same s t)
    opposite Buy Buy = refl
    opposite Buy Sell = refl
    opposite Sell Buy = refl
    opposite Sell Sell = refl

    go : (b x : Bool) → x ≡ has_id id o
        → any (has_id id) (of_side (other side) os) ≡ any (λ (o : Order). has_id id o && not (same side o.side)) os
        → any (has_id id) (if b then o ∷ of_side (other side) os else of_side (other side) os)
        ≡ ((has_id id o && b) || any (λ (o : Order). has_id id o && not (same side o.side)) os)
    go true true e r = rw (← e) refl
    go true false e r = rw (← e) r
    go false true e r = rw (← e) r
    go false false e r = rw (← e) r

other-number : (side : Side) (n : ℕ) → Numbers side n → side_at (1 - n) ≡ other side
other-number side zero h = ap other h.is
other-number side (suc zero) h = ap other h.is
other-number side (suc (suc n)) h = absurd (omega (arith, h.small))

pub other_is : (table : List ℕ) (minimum : ℕ) (live : List Order) → Represents table minimum live → (side : Side) (n id r : ℕ) → Numbers side n
    → ((slots : List Slot) (level : Level) → length slots ≤ 64
    → take (256 * (1 - n) + 256 - 256 * (1 - n)) (drop (256 * (1 - n)) table) ≡ side_of slots level → r ≡ seen id slots)
    → ltb 0 r ≡ any (λ (o : Order). has_id id o && not (same side o.side)) live
other_is table minimum live represents side n id r h found =
    let s = side_at (1 - n) in
    ap (ltb 0)
    (found (slots_in s live) (kept_in minimum (slots_in s live)) (few_slots table minimum live represents s)
    (part_is table minimum live represents (1 - n) (omega (arith, h.small))))
    ∙ seen-live s id 1 (of_side s live) (omega arith)
    ∙ ap (λ (t : Side). is_live id (of_side t live)) (other-number side n h)
    ∙ other-live side id live
