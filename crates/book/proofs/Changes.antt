-- The side of an event that names a live order, and the key of the order that an event added or changed.
use Rattle.std.specs.Prelude.{if◌then◌else◌}
use Prim.Native.Nat.{ℕ, zero, suc}
use native.Mathlib.Nat.{not-suc-le-zero, le_of_suc-le-suc}
use mathlib.Core.Path.{◌≡◌, refl, sym, ap, ◌∙◌}
use mathlib.Core.List.{List, [], ◌∷◌, ◌++◌, Memᴰ}
use mathlib.Core.Bool.{Bool, true, false, not, true≢false}
use borrow.Author.Tests.{eqb-true}
use lib.ListN.{set}
use Rattle.rules.specs.declared.Side.{Side}
use Rattle.rules.specs.declared.Order.{Order}
use Rattle.lists.specs.Lists.{any, filter}
use Rattle.rules.specs.Orders.{has_id, is_live}
use Rattle.rules.specs.Bounds.{Distinct}
use Rattle.lists.proofs.Lists.{filter-append, filter-one, kept_in_lem}
use Rattle.lists.proofs.Members.{or_false, any_none, some_any, get_d_in}
use Rattle.rules.proofs.Orders.{live_at}
use Rattle.price_keys.specs.Keys.{key_in}
use Rattle.best_level.specs.CandidateKeys.{changed_key}
use Rattle.order_table.specs.Table.{of_side, GoodOrders}
use Rattle.order_table.specs.Internal.{blank_order}
use Rattle.order_table.proofs.Sides.{in_side}
use Rattle.order_table.proofs.Orders.{its_side}
use Rattle.order_table.proofs.Slots.{Has}
use Rattle.book.specs.Events.{side_with}

module _ (id : ℕ) where
  -- an id is not found twice
  alone : (x : Order) (xs : List Order) → is_live x.id xs ≡ false → is_live id xs ≡ true → has_id id x ≡ true → ⊥
  alone x xs n m h = true≢false (sym m ∙ ap (λ (i : ℕ). is_live i xs) (sym (eqb-true x.id id h)) ∙ n)

  side_in_lem : (os : List Order) → Distinct os → {o : Order} → Memᴰ o os → has_id id o ≡ true → side_with id os ≡ o.side
  unfolding side_with is_live
  side_in_lem [] d {o = o} m h = elim m [ ]
  side_in_lem (x ∷ xs) d (Memᴰ.head q) h = rw (ap (has_id id) (sym q) ∙ h) (ap (λ (o : Order). o.side) (sym q))
  side_in_lem (x ∷ xs) d {o} (Memᴰ.tail m) h = go (has_id id x) refl (side_in_lem xs d.1 m h)
    where
      go : (b : Bool) → has_id id x ≡ b → side_with id xs ≡ o.side → (if b then x.side else side_with id xs) ≡ o.side
      go true e r = absurd (alone x xs d.0 (some_any (has_id id) m h) e)
      go false e r = r

  -- the side on which the order with the id is
  pub side_with_lem : (live : List Order) → GoodOrders live → (s : Side) (k : ℕ) → Has id (of_side s live) k → side_with id live ≡ s
  side_with_lem live good s k h =
      side_in_lem live good.distinct (in_side s live good (get_d_in (of_side s live) k blank_order h.inside)) h.has
      ∙ its_side live good s k id h

  module _ (s : Side) where
    -- one order more
    none_kept : (os : List Order) → is_live id os ≡ false → filter (has_id id) os ≡ []
    unfolding filter is_live any
    none_kept [] h = refl
    none_kept (o ∷ os) h =
        let (a, b) = or_false (has_id id o) (any (has_id id) os) h in
        rw a (none_kept os b)

    pub added_key : (os : List Order) (o : Order) → is_live id os ≡ false → has_id id o ≡ true
        → changed_key s (filter (has_id id) (os ++ (o ∷ []))) ≡ key_in s o
    added_key os o none has =
        ap (changed_key s)
        (filter-append (has_id id) os (o ∷ [])
        ∙ (λ i. none_kept os none i ++ filter-one (has_id id) o i)
        ∙ ap (λ (b : Bool). if b then o ∷ [] else []) has)

    -- another in the place of the one with the id
    pub set_key : (os : List Order) (k : ℕ) (o : Order) → Distinct os → Has id os k → has_id id o ≡ true
        → changed_key s (filter (has_id id) (set os k o)) ≡ key_in s o
    unfolding filter
    set_key [] k o d h has = absurd (not-suc-le-zero h.inside)
    set_key (x ∷ xs) zero o d h has = rw has refl
    set_key (x ∷ xs) (suc k) o d h has = go (has_id id x) refl (set_key xs k o d.1 rest has)
      where
        rest : Has id xs k
        rest = record { inside = le_of_suc-le-suc h.inside; has = h.has }

        go : (b : Bool) → has_id id x ≡ b → changed_key s (filter (has_id id) (set xs k o)) ≡ key_in s o
            → changed_key s (if b then x ∷ filter (has_id id) (set xs k o) else filter (has_id id) (set xs k o)) ≡ key_in s o
        go true e r = absurd (alone x xs d.0 (live_at id xs k blank_order rest.inside rest.has) e)
        go false e r = r

    -- without it
    gone : (os : List Order) → is_live id (filter (λ (o : Order). not (has_id id o)) os) ≡ false
    unfolding is_live
    gone os =
        any_none (has_id id) (filter (λ (o : Order). not (has_id id o)) os)
        (λ o m. go (has_id id o) (kept_in_lem (λ (o : Order). not (has_id id o)) os m).1)
      where
        go : (b : Bool) → not b ≡ true → b ≡ false
        go true e = sym e
        go false e = refl

    pub removed-key : (os : List Order) → changed_key s (filter (has_id id) (filter (λ (o : Order). not (has_id id o)) os)) ≡ 0
    removed-key os = ap (changed_key s) (none_kept (filter (λ (o : Order). not (has_id id o)) os) (gone os))
