-- The trader's causes, read off an id's slot, the tests of ranges, the number of orders and what is left of an order.
use Prim.Native.Nat.{ℕ, ◌≤◌, ◌<◌}
use mathlib.Core.Path.{◌≡◌, sym, ap, ◌∙◌}
use mathlib.Core.List.{List}
use mathlib.Core.Bool.{Bool, true, false, not, ◌&&◌}
use lib.Dec.{ltb}
use lib.ListN.{length}
use borrow.Author.Tests.{lt-ltb, le-ltb, le-leb, lt-leb}
use Rattle.rules.specs.declared.Side.{Side}
use Rattle.rules.specs.declared.Order.{Order}
use Rattle.rules.specs.declared.Millis.{Millis}
use Rattle.rules.specs.declared.Steps.{Steps}
use Rattle.rules.specs.declared.Contracts.{Contracts}
use Rattle.rules.specs.declared.Event.TheVariants.{Add, Amend, Cancel, Deal}
use Rattle.rules.specs.Units.{good_price, good_volume}
use Rattle.rules.specs.Orders.{is_live, left}
use Rattle.rules.specs.Causes.{first_number, trader_causes}
use Rattle.rules.proofs.Refusals.{skip, stop, clear}
use Rattle.order_table.specs.Table.{slot_in, GoodOrders}
use Rattle.order_table.proofs.Slots.{slot-live}

module _ (live : List Order) (good : GoodOrders live) (id slot : ℕ) (at : slot ≡ slot_in id live) (t : Millis) where
  is_live_lem : ltb slot 128 ≡ is_live id live
  is_live_lem = ap (λ (s : ℕ). ltb s 128) at ∙ slot-live live good id

  pub known : slot < 128 → is_live id live ≡ true
  known h = sym is_live_lem ∙ lt-ltb slot 128 h

  unknown : 128 ≤ slot → is_live id live ≡ false
  unknown h = sym is_live_lem ∙ le-ltb slot 128 h

  module _ (side : Side) (price : Steps) (volume : Contracts) where
    abbrev fits : Bool
    fits = good_price price.0 && good_volume volume.0

    pub add-known : slot < 128 → first_number (trader_causes live (Add t id side price volume)) ≡ 10
    add-known h = stop _ _ (known h)

    pub add_outside : 128 ≤ slot → fits ≡ false → first_number (trader_causes live (Add t id side price volume)) ≡ 12
    add_outside h e = skip _ _ (unknown h) (stop _ _ (ap not e))

    pub add_full : 128 ≤ slot → fits ≡ true → 64 ≤ length live → first_number (trader_causes live (Add t id side price volume)) ≡ 13
    add_full h e f = skip _ _ (unknown h) (skip _ _ (ap not e) (stop _ _ (le-leb 64 (length live) f)))

    pub add_passes : 128 ≤ slot → fits ≡ true → length live < 64 → first_number (trader_causes live (Add t id side price volume)) ≡ 0
    add_passes h e f = skip _ _ (unknown h) (skip _ _ (ap not e) (skip _ _ (lt-leb 64 (length live) f) clear))

  module _ (price : Steps) (volume : Contracts) where
    pub amend_unknown : 128 ≤ slot → first_number (trader_causes live (Amend t id price volume)) ≡ 11
    amend_unknown h = stop _ _ (ap not (unknown h))

    pub amend_outside : slot < 128 → (good_price price.0 && good_volume volume.0) ≡ false → first_number (trader_causes live (Amend t id price volume)) ≡ 12
    amend_outside h e = skip _ _ (ap not (known h)) (stop _ _ (ap not e))

    pub amend_passes : slot < 128 → (good_price price.0 && good_volume volume.0) ≡ true → first_number (trader_causes live (Amend t id price volume)) ≡ 0
    amend_passes h e = skip _ _ (ap not (known h)) (skip _ _ (ap not e) clear)

  pub cancel_unknown : 128 ≤ slot → first_number (trader_causes live (Cancel t id)) ≡ 11
  cancel_unknown h = stop _ _ (ap not (unknown h))

  pub cancel_passes : slot < 128 → first_number (trader_causes live (Cancel t id)) ≡ 0
  cancel_passes h = skip _ _ (ap not (known h)) clear

  module _ (volume : Contracts) where
    pub deal_unknown : 128 ≤ slot → first_number (trader_causes live (Deal t id volume)) ≡ 11
    deal_unknown h = stop _ _ (ap not (unknown h))

    pub deal_outside : slot < 128 → good_volume volume.0 ≡ false → first_number (trader_causes live (Deal t id volume)) ≡ 12
    deal_outside h e = skip _ _ (ap not (known h)) (stop _ _ (ap not e))

    pub deal_above : slot < 128 → good_volume volume.0 ≡ true → left id live < volume.0 → first_number (trader_causes live (Deal t id volume)) ≡ 14
    deal_above h e l = skip _ _ (ap not (known h)) (skip _ _ (ap not e) (stop _ _ (lt-ltb (left id live) volume.0 l)))

    pub deal_passes : slot < 128 → good_volume volume.0 ≡ true → volume.0 ≤ left id live → first_number (trader_causes live (Deal t id volume)) ≡ 0
    deal_passes h e l = skip _ _ (ap not (known h)) (skip _ _ (ap not e) (skip _ _ (le-ltb (left id live) volume.0 l) clear))
