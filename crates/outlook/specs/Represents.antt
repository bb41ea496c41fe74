-- The open quantum whose outlook is asked: a duty and a clock, the required share and the lapse limit, that represent a row, an opening and
-- accepted events.
use Rattle.std.specs.Prelude.{ℕ, ◌≡◌, List, true}
use Rattle.rules.specs.declared.Row.{Row}
use Rattle.rules.specs.declared.Opening.{Opening}
use Rattle.rules.specs.declared.Event.{Event}
use Rattle.rules.specs.Terms.{paper}
use Rattle.rules.specs.Rows.{good_row_for}
use Rattle.rules.specs.Bounds.{EventBounds}
use Rattle.clock.specs.declared.Duty.{Duty}
use Rattle.clock.specs.declared.Clock.{Clock}
use Rattle.clock.specs.Clocks.{duty_of, clock_of}

-- they represent these
pub record Represents (row : Row) (opening : Opening) (events : List Event) (duty : Duty) (clock : Clock) (share allowed : ℕ) : Type 0 where
  pub row_good : good_row_for paper opening.spread row ≡ true
  pub events_good : EventBounds row events
  pub duty_is : duty ≡ duty_of row opening.spread
  pub clock_is : clock ≡ clock_of row opening.spread events
  pub share_is : share ≡ row.share
  pub allowed_is : allowed ≡ opening.allowed

-- they represent some
pub record Outlooked (duty : Duty) (clock : Clock) (share allowed : ℕ) : Type 0 where
  pub row : Row
  pub opening : Opening
  pub events : List Event
  pub represents : Represents row opening events duty clock share allowed
