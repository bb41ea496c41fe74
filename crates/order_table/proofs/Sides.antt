-- The orders of one side: what of all live orders is read off the two sides.
use Rattle.std.specs.Prelude.{if◌then◌else◌}
use Prim.Native.Nat.{ℕ, suc, ◌+◌, ◌≤◌}
use native.Mathlib.Omega.{arith}
use mathlib.Core.Path.{◌≡◌, refl, sym, ap, ◌∙◌}
use mathlib.Core.List.{List, [], ◌∷◌, Memᴰ}
use mathlib.Core.Bool.{Bool, true, false, false≢true, not, ◌||◌}
use lib.ListN.{length}
use borrow.Author.Tests.{eqb-true}
use Rattle.rules.specs.declared.Side.{Side}
use Rattle.rules.specs.declared.Side.TheVariants.{Buy, Sell}
use Rattle.rules.specs.declared.Order.{Order}
use Rattle.lists.specs.Lists.{filter, any}
use Rattle.rules.specs.Orders.{has_id, is_live, left}
use Rattle.rules.specs.Quotes.{same}
use Rattle.rules.specs.Bounds.{Distinct}
use Rattle.lists.proofs.Lists.{kept_in_lem}
use Rattle.lists.proofs.Members.{any_none, none_any, length_filter}
use Rattle.rules.proofs.Orders.{distinct_filter}
use Rattle.order_table.specs.Table.{of_side, GoodOrders}
use Rattle.order_table.specs.Internal.{other}

pub same_is : (s t : Side) → same s t ≡ true → t ≡ s
same_is Buy Buy h = refl
same_is Buy Sell h = absurd (false≢true h)
same_is Sell Buy h = absurd (false≢true h)
same_is Sell Sell h = refl

-- ---- all live orders, read off the sides

-- an order is of one side
one_side : (o : Order) → same Sell o.side ≡ not (same Buy o.side)
one_side o = go o.side
  where
    go : (s : Side) → same Sell s ≡ not (same Buy s)
    go Buy = refl
    go Sell = refl

pub length_sides : (os : List Order) → length os ≡ length (of_side Buy os) + length (of_side Sell os)
unfolding filter
length_sides [] = omega arith
length_sides (o ∷ os) = rw (one_side o) (go (same Buy o.side) (length_sides os))
  where
    go : (b : Bool) → length os ≡ length (of_side Buy os) + length (of_side Sell os)
        → suc (length os) ≡ length (if b then o ∷ of_side Buy os else of_side Buy os) + length (if not b then o ∷ of_side Sell os else of_side Sell os)
    go true h = omega arith
    go false h = omega arith

pub live_sides : (id : ℕ) (os : List Order) → is_live id os ≡ (is_live id (of_side Buy os) || is_live id (of_side Sell os))
unfolding filter is_live any
live_sides id [] = refl
live_sides id (o ∷ os) = rw (one_side o, live_sides id os) (go (same Buy o.side) (has_id id o) refl)
  where
    swap : (x a b : Bool) → (x || (a || b)) ≡ (a || (x || b))
    swap true true b = refl
    swap true false b = refl
    swap false true b = refl
    swap false false b = refl

    assoc : (x a b : Bool) → (x || (a || b)) ≡ ((x || a) || b)
    assoc true a b = refl
    assoc false a b = refl

    go : (t : Bool) (x : Bool) → x ≡ has_id id o
        → (x || (is_live id (of_side Buy os) || is_live id (of_side Sell os)))
        ≡ (any (has_id id) (if t then o ∷ of_side Buy os else of_side Buy os) || any (has_id id) (if not t then o ∷ of_side Sell os else of_side Sell os))
    go true x e = rw (← e) (assoc x (is_live id (of_side Buy os)) (is_live id (of_side Sell os)))
    go false x e = rw (← e) (swap x (is_live id (of_side Buy os)) (is_live id (of_side Sell os)))

-- ---- one order with an id, where ids are distinct

module _ (id : ℕ) where
  -- what has the id of the first one is not among the others
  twice : (x : Order) (xs : List Order) → is_live x.id xs ≡ false → {o : Order} → Memᴰ o xs → has_id id x ≡ true → has_id id o ≡ true → ⊥
  unfolding is_live
  twice x xs n {o} m h k =
      false≢true (sym (none_any (has_id x.id) m n) ∙ ap (λ (n : ℕ). has_id n o) (eqb-true x.id id h) ∙ k)

  pub left_in : (os : List Order) → Distinct os → {o : Order} → Memᴰ o os → has_id id o ≡ true → left id os ≡ o.volume.0
  unfolding left
  left_in [] d {o = o} m h = elim m [ ]
  left_in (x ∷ xs) d (Memᴰ.head q) h = rw (ap (has_id id) (sym q) ∙ h) (ap (λ (o : Order). o.volume.0) (sym q))
  left_in (x ∷ xs) d {o} (Memᴰ.tail m) h = go (has_id id x) refl (left_in xs d.1 m h)
    where
      go : (b : Bool) → has_id id x ≡ b → left id xs ≡ o.volume.0 → (if b then x.volume.0 else left id xs) ≡ o.volume.0
      go true e r = absurd (twice x xs d.0 m e h)
      go false e r = r

  pub one_only : (os : List Order) → Distinct os → {a b : Order} → Memᴰ a os → Memᴰ b os → has_id id a ≡ true → has_id id b ≡ true → a ≡ b
  one_only [] d {a = a} {b = b} m _ h k = elim m [ ]
  one_only (x ∷ xs) d (Memᴰ.head p) (Memᴰ.head q) h k = p ∙ sym q
  one_only (x ∷ xs) d (Memᴰ.head p) (Memᴰ.tail n) h k = absurd (twice x xs d.0 n (ap (has_id id) (sym p) ∙ h) k)
  one_only (x ∷ xs) d (Memᴰ.tail m) (Memᴰ.head q) h k = absurd (twice x xs d.0 m (ap (has_id id) (sym q) ∙ k) h)
  one_only (x ∷ xs) d (Memᴰ.tail m) (Memᴰ.tail n) h k = one_only xs d.1 m n h k

apart : (s : Side) (o : Order) → same s o.side ≡ true → same (other s) o.side ≡ true → ⊥
apart s o = go s o.side
  where
    go : (s t : Side) → same s t ≡ true → same (other s) t ≡ true → ⊥
    go Buy Buy h k = false≢true k
    go Buy Sell h k = false≢true h
    go Sell Buy h k = false≢true h
    go Sell Sell h k = false≢true k

-- an id that is live on a side is not live on the other
pub other_unlive : (s : Side) (id : ℕ) (os : List Order) → Distinct os → {a : Order} → Memᴰ a (of_side s os) → has_id id a ≡ true
    → is_live id (of_side (other s) os) ≡ false
unfolding is_live
other_unlive s id os d {a} m h =
    any_none (has_id id) (of_side (other s) os) (λ b n. go b n (has_id id b) refl)
  where
    go : (b : Order) → Memᴰ b (of_side (other s) os) → (t : Bool) → has_id id b ≡ t → has_id id b ≡ false
    go b n true k =
        let (in-a, side-a) = kept_in_lem (λ (o : Order). same s o.side) os m in
        let (in_b, side-b) = kept_in_lem (λ (o : Order). same (other s) o.side) os n in
        let q : a ≡ b = one_only id os d in-a in_b h k in
        absurd (apart s a side-a (ap (λ (o : Order). same (other s) o.side) q ∙ side-b))
    go b n false k = k

-- ---- the bounds of a side

module _ (s : Side) (os : List Order) (good : GoodOrders os) where
  pub few_side : length (of_side s os) ≤ 64
  few_side = omega (arith, good.few, length_filter (λ (o : Order). same s o.side) os)

  pub distinct_side : Distinct (of_side s os)
  distinct_side = distinct_filter (λ (o : Order). same s o.side) os good.distinct

  pub in_side : {o : Order} → Memᴰ o (of_side s os) → Memᴰ o os
  in_side m = (kept_in_lem (λ (o : Order). same s o.side) os m).0
