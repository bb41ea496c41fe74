-- What the functions of an event promise to each other.
use Rattle.std.specs.Prelude.{ℕ, ◌≤◌, ltb, if◌then◌else◌}
use Rattle.rules.specs.declared.Millis.{Millis}
use Rattle.record.specs.declared.Fields.{Fields}
use Rattle.record.specs.Fields.{good_fields}
use Rattle.clock.specs.declared.Duty.{Duty}
use Rattle.clock.specs.declared.Clock.{Clock}
use Rattle.events.specs.declared.ClockAfter.{ClockAfter}
use Rattle.clock.specs.Clocks.{ran_on}

-- a time that is neither backwards nor past the end
pub record InTime (duty : Duty) (c : Clock) (t : Millis) : Type 0 where
  pub onward : c.time.0 ≤ t.0
  pub inside : t.0 ≤ duty.length.0

-- what refuses fields whose time is out of range
abbrev pub untimely_by : Clock → Fields → ℕ
untimely_by c f = if good_fields f then (if ltb f.t.0 c.time.0 then 8 else 9) else 15

-- a tick in time
abbrev pub ticked_by : Clock → Fields → ClockAfter
ticked_by c f = if good_fields f then record { clock = ran_on c f.t c.keeps; refusal = 0 } else record { clock = c; refusal = 15 }
