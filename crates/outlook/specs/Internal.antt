-- What the functions of an outlook promise to each other, by the fields of the clock.
use Rattle.std.specs.Prelude.{ℕ, ◌≤◌, ◌-◌, Bool, true, ◌&&◌, ◌||◌, leb, eqb, if◌then◌else◌, None, Option, Some}
use Rattle.rules.specs.declared.Millis.{Millis}
use Rattle.rules.specs.declared.Cell.{Cell}
use Rattle.rules.specs.Units.{millis, kopecks}
use Rattle.clock.specs.declared.Duty.{Duty}
use Rattle.clock.specs.declared.Clock.{Clock}
use Rattle.clock.specs.Clocks.{ran_on}

-- the numbers of an open quantum in their ranges
pub record Sound (duty : Duty) (clock : Clock) (share : ℕ) : Type 0 where
  pub length_least : 1000 ≤ duty.length.0
  pub length_most : duty.length.0 ≤ 86400000
  pub share_least : 1 ≤ share
  pub share_most : share ≤ 799
  pub inside : clock.time.0 ≤ duty.length.0
  pub kept_most : clock.kept.0 ≤ clock.time.0
  pub lapses_most : clock.lapses ≤ clock.time.0
  pub last_most : clock.last ≤ 1

-- the clock with quotes that keep from now on (1) or do not (0)
abbrev pub with_keeps : Clock → ℕ → Clock
with_keeps c keeps = record { time = c.time; kept = c.kept; keeps = keeps; lapses = c.lapses; last = c.last }

-- the cell that a clock at the quantum's end leaves
abbrev pub cell_at : Duty → Clock → ℕ → ℕ → Cell
cell_at duty end share allowed =
    record {
      filled = true;
      kept = end.kept;
      length = duty.length;
      share = share;
      allowed = allowed;
      lapses = end.lapses;
      active = kopecks 0;
      passive = kopecks 0;
    }

-- the cell at the quantum's end with such quotes
abbrev pub ending_cell : Duty → Clock → ℕ → ℕ → ℕ → Cell
ending_cell duty clock keeps share allowed = cell_at duty (ran_on (with_keeps clock keeps) duty.length 0) share allowed

-- so many can still be kept: there are as many left, lapses are not over, and where it is not 0, something can be kept
abbrev pub reached : ℕ → ℕ → Bool → Bool → Bool
reached n left within can = leb n left && within && (eqb n 0 || can)

abbrev pub full_of : ℕ → ℕ → Bool → Bool → Option Millis
full_of n left within can = if reached n left within can then Some (millis n) else None

-- until when the maker may rest: to the end, where resting leaves a met cell; not at all, where keeping everything does not; else until what
-- is left is needed, or not beyond the present where the lapse is one too many
abbrev pub by_of : Bool → Bool → Bool → Millis → Millis → ℕ → Option Millis
by_of rest possible waits now end need =
    if rest then Some end else (if possible then (if waits then Some (millis (end.0 - need)) else Some now) else None)
