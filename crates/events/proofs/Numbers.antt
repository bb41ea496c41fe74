-- What refuses an event has a number from 8 to 14.
use Prim.Native.Nat.{ℕ, ◌≤◌, ◌<◌}
use native.Mathlib.Omega.{arith}
use mathlib.Core.List.{List, [], ◌∷◌}
use mathlib.Core.Bool.{Bool, true, false}
use Rattle.rules.specs.declared.Order.{Order}
use Rattle.rules.specs.declared.Row.{Row}
use Rattle.rules.specs.declared.Event.{Event}
use Rattle.rules.specs.declared.Event.TheVariants.{Add, Amend, Cancel, Deal, Tick}
use Rattle.rules.specs.Orders.{live}
use Rattle.rules.specs.Causes.{Cause, cause, first_number, trader_causes, event_causes, event_refusal}

abbrev Numbered : ℕ → Type 0
Numbered n = 0 < n → (8 ≤ n) × (n ≤ 15)

numbered_next : (n : ℕ) (b : Bool) (cs : List Cause) → 8 ≤ n → n ≤ 15 → Numbered (first_number cs) → Numbered (first_number (cause n b ∷ cs))
unfolding first_number
numbered_next n true cs l u k = λ h. (l, u)
numbered_next n false cs l u k = k

numbered_none : Numbered (first_number [])
unfolding first_number
numbered_none = λ h. absurd (omega (arith, h))

trader_numbered : (orders : List Order) (e : Event) → Numbered (first_number (trader_causes orders e))
trader_numbered orders (Add t id side price volume) =
    numbered_next 10 _ _ (omega arith) (omega arith)
    (numbered_next 12 _ _ (omega arith) (omega arith) (numbered_next 13 _ _ (omega arith) (omega arith) numbered_none))
trader_numbered orders (Amend t id price volume) =
    numbered_next 11 _ _ (omega arith) (omega arith) (numbered_next 12 _ _ (omega arith) (omega arith) numbered_none)
trader_numbered orders (Cancel t id) = numbered_next 11 _ _ (omega arith) (omega arith) numbered_none
trader_numbered orders (Deal t id volume) =
    numbered_next 11 _ _ (omega arith) (omega arith)
    (numbered_next 12 _ _ (omega arith) (omega arith) (numbered_next 14 _ _ (omega arith) (omega arith) numbered_none))
trader_numbered orders (Tick t) = numbered_none

pub event_numbered : (row : Row) (es : List Event) (e : Event) → 0 < event_refusal row es e → (8 ≤ event_refusal row es e) × (event_refusal row es e ≤ 15)
unfolding event_refusal event_causes
event_numbered row es e =
    numbered_next 8 _ _ (omega arith) (omega arith) (numbered_next 9 _ _ (omega arith) (omega arith) (trader_numbered (live es) e))
