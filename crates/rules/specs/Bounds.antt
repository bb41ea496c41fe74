-- The bounds that the plain book keeps after every list of calls; proofs/Bounds shows that it does.
use Rattle.std.specs.Prelude.{ℕ, ◌≤◌, ◌<◌, ◌≡◌, true, false, length}
use mathlib.Core.List.{List, [], ◌∷◌, Memᴰ}
use Rattle.rules.specs.declared.Opening.{Opening}
use Rattle.rules.specs.declared.Order.{Order}
use Rattle.rules.specs.declared.Row.{Row}
use Rattle.rules.specs.declared.Cell.{Cell}
use Rattle.rules.specs.declared.Event.{Event}
use Rattle.rules.specs.Terms.{Terms}
use Rattle.rules.specs.Units.{good_price, good_volume}
use Rattle.rules.specs.Rows.{good_row_for}
use Rattle.rules.specs.Orders.{is_live, live, time_of, present}
use Rattle.rules.specs.Kept.{kept_below}
use Rattle.rules.specs.Calls.{Running, Idle, Quoting, Book}
use Rattle.rules.specs.Causes.{good_settlement, good_spread_rule}

-- ids all different
abbrev pub Distinct : List Order → Type 0
Distinct [] = Unit
Distinct (o ∷ os) = (is_live o.id os ≡ false) × Distinct os

-- times never backwards, from t on
abbrev pub Ordered : ℕ → List Event → Type 0
Ordered t [] = Unit
Ordered t (e ∷ es) = (t ≤ time_of e) × Ordered (time_of e) es

-- the accepted events of an open quantum
pub record EventBounds (row : Row) (events : List Event) : Type 0 where
  pub few : length (live events) ≤ 64
  pub distinct : Distinct (live events)
  pub prices : (o : Order) → Memᴰ o (live events) → good_price o.price.0 ≡ true
  pub volumes : (o : Order) → Memᴰ o (live events) → good_volume o.volume.0 ≡ true
  pub ordered : Ordered 0 events
  pub ends : present events ≤ row.length.0

pub record OpenBounds (terms : Terms) (place : ℕ) (row : Row) (opening : Opening) (events : List Event) : Type 0 where
  pub inside : place < 186
  pub row_good : good_row_for terms opening.spread row ≡ true
  pub price_good : good_settlement opening.spread ≡ true
  pub spread_good : good_spread_rule opening.spread ≡ true
  pub events_good : EventBounds row events
  pub kept : kept_below row opening.spread events (present events) ≤ present events

abbrev pub RunningBounds : Terms → Running → Type 0
RunningBounds terms Idle = Unit
RunningBounds terms (Quoting place row opening events) = OpenBounds terms place row opening events

-- a filled cell
pub record CellBounds (terms : Terms) (c : Cell) : Type 0 where
  pub length_least : 1000 ≤ c.length.0
  pub length_most : c.length.0 ≤ 86400000
  pub share_least : 1 ≤ c.share
  pub share_most : c.share ≤ terms.most_share
  pub kept_most : c.kept.0 ≤ c.length.0
  pub active_most : c.active.0 ≤ terms.most_charge
  pub passive_most : c.passive.0 ≤ terms.most_charge

pub record BookBounds (terms : Terms) (b : Book) : Type 0 where
  pub all_cells : length b.cells ≡ 186
  pub filled : (c : Cell) → Memᴰ c b.cells → c.filled ≡ true → CellBounds terms c
  pub running : RunningBounds terms b.running
