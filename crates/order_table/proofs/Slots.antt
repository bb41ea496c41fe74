-- The place of an order on its side, and its slot in the table.
use Rattle.std.specs.Prelude.{if◌then◌else◌}
use Prim.Native.Nat.{ℕ, zero, suc, ◌+◌, ◌*◌, ◌-◌, ◌/◌, ◌%◌, ◌≤◌, ◌<◌}
use native.Mathlib.Omega.{arith}
use native.Mathlib.Nat.{not-suc-le-zero, le_of_suc-le-suc}
use mathlib.Core.Path.{◌≡◌, refl, sym, ap, ◌∙◌, subst}
use mathlib.Core.List.{List, [], ◌∷◌, map}
use mathlib.Core.Bool.{Bool, true, false, true≢false, false≢true, ◌||◌}
use lib.Dec.{ltb}
use lib.ListN.{length, get_or}
use borrow.Author.Tests.{eqb-true, lt-ltb}
use Rattle.rules.specs.declared.Side.{Side}
use Rattle.rules.specs.declared.Side.TheVariants.{Buy, Sell}
use Rattle.rules.specs.declared.Order.{Order}
use Rattle.lists.specs.Lists.{any}
use Rattle.rules.specs.Orders.{has_id, is_live}
use Rattle.rules.specs.Bounds.{Distinct}
use Rattle.lists.proofs.Members.{or_false, get_d_in}
use Rattle.rules.proofs.Orders.{live_at}
use Rattle.order_side.specs.Slots.{slot_of, ids_of, seen_from, seen}
use Rattle.order_table.specs.Table.{of_side, slots_in, slot_in, GoodOrders}
use Rattle.order_table.specs.Internal.{side_at, other, blank_order}
use Rattle.order_table.proofs.Sides.{other_unlive, live_sides, few_side, distinct_side}

-- ---- an id's place among orders

-- the order with the id is at the place
pub record Has (id : ℕ) (os : List Order) (k : ℕ) : Type 0 where
  pub inside : k < length os
  pub has : has_id id (get_or os k blank_order) ≡ true

pub position : (id : ℕ) (os : List Order) → is_live id os ≡ true → (k : ℕ) × Has id os k
unfolding is_live any
position id [] h = absurd (false≢true h)
position id (o ∷ os) h = go (has_id id o) refl h (λ e. position id os e)
  where
    go : (b : Bool) → has_id id o ≡ b → (b || any (has_id id) os) ≡ true → (any (has_id id) os ≡ true → (k : ℕ) × Has id os k) → (k : ℕ) × Has id (o ∷ os) k
    go true e f r = (0, record { inside = omega arith; has = e })
    go false e f r =
        let (k, h) = r f in
        (suc k, record { inside = omega (arith, h.inside); has = h.has })

module _ (s : Side) (id : ℕ) where
  pub seen_none : (n : ℕ) (os : List Order) → is_live id os ≡ false → seen_from n id (ids_of (map (slot_of s) os)) ≡ 0
  unfolding seen_from is_live any
  seen_none n [] h = refl
  seen_none n (o ∷ os) h =
      let (a, b) = or_false (has_id id o) (any (has_id id) os) h in
      rw (a, seen_none (n + 1) os b) (omega arith)

  pub seen_at : (n : ℕ) (os : List Order) (k : ℕ) → Distinct os → Has id os k → seen_from n id (ids_of (map (slot_of s) os)) ≡ n + k
  unfolding seen_from is_live any
  seen_at n [] k d h = absurd (not-suc-le-zero h.inside)
  seen_at n (o ∷ os) zero d h =
      let none : is_live id os ≡ false = ap (λ (i : ℕ). is_live i os) (sym (eqb-true o.id id h.has)) ∙ d.0 in
      rw (h.has, seen_none (n + 1) os none) (omega arith)
  seen_at n (o ∷ os) (suc k) d h = go (has_id id o) refl (seen_at (n + 1) os k d.1 rest)
    where
      rest : Has id os k
      rest = record { inside = le_of_suc-le-suc h.inside; has = h.has }

      go : (b : Bool) → has_id id o ≡ b → seen_from (n + 1) id (ids_of (map (slot_of s) os)) ≡ n + 1 + k
          → (if b then n else 0) + seen_from (n + 1) id (ids_of (map (slot_of s) os)) ≡ n + suc k
      go true e r =
          absurd
          (true≢false
          (sym (live_at id os k blank_order rest.inside rest.has) ∙ ap (λ (i : ℕ). is_live i os) (sym (eqb-true o.id id e)) ∙ d.0))
      go false e r = omega arith

-- ---- an id's slot in the table

module _ (live : List Order) (good : GoodOrders live) (id : ℕ) where
  -- on one side, and not on the other
  none-there : (s : Side) → is_live id (of_side s live) ≡ false → seen id (slots_in s live) ≡ 0
  none-there s h = seen_none s id 1 (of_side s live) h

  there : (s : Side) (k : ℕ) → Has id (of_side s live) k → seen id (slots_in s live) ≡ 1 + k
  there s k h = seen_at s id 1 (of_side s live) k (distinct_side s live good) h

  not_other : (s : Side) (k : ℕ) → Has id (of_side s live) k → seen id (slots_in (other s) live) ≡ 0
  not_other s k h =
      none-there (other s) (other_unlive s id live good.distinct (get_d_in (of_side s live) k blank_order h.inside) h.has)

  pub slot-there : (n k : ℕ) → n < 2 → Has id (of_side (side_at n) live) k → slot_in id live ≡ 64 * n + k
  slot-there zero k l h = rw (there Buy k h) (go (ltb 0 (1 + k)) (lt-ltb 0 (1 + k) (omega arith)))
    where
      go : (b : Bool) → b ≡ true → (if b then 1 + k - 1 else if ltb 0 (seen id (slots_in Sell live)) then 63 + seen id (slots_in Sell live) else 128) ≡ 64 * 0 + k
      go true e = omega arith
      go false e = absurd (false≢true e)
  slot-there (suc zero) k l h = rw (not_other Sell k h, there Sell k h) (go (ltb 0 (1 + k)) (lt-ltb 0 (1 + k) (omega arith)))
    where
      go : (b : Bool) → b ≡ true → (if b then 63 + (1 + k) else 128) ≡ 64 * 1 + k
      go true e = omega arith
      go false e = absurd (false≢true e)
  slot-there (suc (suc n)) k l h = absurd (omega arith)

  slot-none : is_live id live ≡ false → slot_in id live ≡ 128
  slot-none h =
      let (b, s) = or_false (is_live id (of_side Buy live)) (is_live id (of_side Sell live)) (sym (live_sides id live) ∙ h) in
      rw (none-there Buy b, none-there Sell s) refl

  -- where a live order is
  pub represents : is_live id live ≡ true → (n : ℕ) × (k : ℕ) × (n < 2) × Has id (of_side (side_at n) live) k
  represents h = go (is_live id (of_side Buy live)) refl
    where
      go : (b : Bool) → is_live id (of_side Buy live) ≡ b → (n : ℕ) × (k : ℕ) × (n < 2) × Has id (of_side (side_at n) live) k
      go true e =
          let (k, p) = position id (of_side Buy live) e in
          (0, k, omega arith, p)
      go false e =
          let (k, p) = position id (of_side Sell live) (ap (λ (b : Bool). b || is_live id (of_side Sell live)) (sym e) ∙ sym (live_sides id live) ∙ h) in
          (1, k, omega arith, p)

  -- the slot says whether the id is live, and where
  pub slot-live : ltb (slot_in id live) 128 ≡ is_live id live
  slot-live = go (is_live id live) refl
    where
      go : (b : Bool) → is_live id live ≡ b → ltb (slot_in id live) 128 ≡ b
      go true e =
          let (n, k, l, p) = represents e in
          lt-ltb (slot_in id live) 128 (omega (arith, slot-there n k l p, p.inside, few_side (side_at n) live good))
      go false e = rw (slot-none e) refl

  pub slot-represents : slot_in id live < 128 → (slot_in id live / 64 < 2) × Has id (of_side (side_at (slot_in id live / 64)) live) (slot_in id live % 64)
  slot-represents h =
      let (n, k, l, p) = represents (sym slot-live ∙ lt-ltb (slot_in id live) 128 h) in
      let is = slot-there n k l p in
      let side : n ≡ slot_in id live / 64 = omega (arith, is, l, p.inside, few_side (side_at n) live good) in
      let place : k ≡ slot_in id live % 64 = omega (arith, is, l, p.inside, few_side (side_at n) live good) in
      (omega arith, subst (λ (n : ℕ). Has id (of_side (side_at n) live) (slot_in id live % 64)) side (subst (Has id (of_side (side_at n) live)) place p))
