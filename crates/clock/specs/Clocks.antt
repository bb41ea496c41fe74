-- What a quantum is opened with, its clock after accepted events, and time running on.
use Rattle.std.specs.Prelude.{ℕ, ◌+◌, ◌*◌, ◌-◌, ◌≤◌, List, ◌||◌, ltb, eqb, if◌then◌else◌}
use Rattle.rules.specs.declared.Millis.{Millis}
use Rattle.rules.specs.declared.Row.{Row}
use Rattle.rules.specs.declared.SpreadRule.{SpreadRule}
use Rattle.rules.specs.declared.SpreadRule.TheVariants.{Settled, OfStrike}
use Rattle.rules.specs.declared.Event.{Event}
use Rattle.rules.specs.Units.{millis}
use Rattle.rules.specs.Orders.{live, present}
use Rattle.rules.specs.Kept.{orders_keep, kept_at, kept_below}
use Rattle.rules.specs.Runs.{before}
use Rattle.rules.specs.Lapses.{lapses_below}
use Rattle.strike.specs.Widest.{widest_of_strike}
use Rattle.price_keys.specs.Widest.{widest_of}
use Rattle.clock.specs.declared.Duty.{Duty}
use Rattle.clock.specs.declared.Clock.{Clock}

-- the greatest D that the spread test takes
abbrev pub widest_for : Row → SpreadRule → ℕ
widest_for row (Settled sp) = widest_of row.a row.b sp.0
widest_for row (OfStrike s) = widest_of_strike s

-- what a quantum is opened with
unfoldable pub duty_of : Row → SpreadRule → Duty
duty_of row sp = record { length = row.length; minimum = row.minimum; widest = widest_for row sp }

-- after these accepted events: the time, kept time, whether the live orders keep the quote from now on, the lapses, and whether the
-- millisecond before the present is kept
unfoldable pub clock_of : Row → SpreadRule → List Event → Clock
clock_of row sp events =
    record {
      time = millis (present events);
      kept = millis (kept_below row sp events (present events));
      keeps = if orders_keep row sp (live events) then 1 else 0;
      lapses = lapses_below row sp events (present events);
      last = if before (kept_at row sp events) (present events) then 1 else 0;
    }

-- ---- time running on

-- a clock that may run on to t
pub record Onward (c : Clock) (t : Millis) : Type 0 where
  pub kept_most : c.kept.0 ≤ c.time.0
  pub onward : c.time.0 ≤ t.0
  pub keeps_most : c.keeps ≤ 1
  pub lapses_most : c.lapses ≤ c.time.0
  pub last_most : c.last ≤ 1

-- 1 where the time that follows starts a lapse
abbrev pub starting_by : Clock → ℕ
starting_by c = if eqb c.keeps 1 then 0 else (if eqb c.time.0 0 || eqb c.last 1 then 1 else 0)

-- the quotes of before count up to t; where no time passes, no lapse starts and the millisecond before the present is the same
abbrev pub ran_on : Clock → Millis → ℕ → Clock
ran_on c t keeps =
    record {
      time = t;
      kept = millis (c.kept.0 + c.keeps * (t.0 - c.time.0));
      keeps = keeps;
      lapses = if ltb c.time.0 t.0 then c.lapses + starting_by c else c.lapses;
      last = if ltb c.time.0 t.0 then c.keeps else c.last;
    }
