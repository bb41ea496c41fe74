-- What every time that was read keeps: proofs/Reading shows it.
use Rattle.std.specs.Prelude.{◌≤◌, ◌≡◌, true}
use Rattle.rules.specs.declared.Timestamp.{Timestamp}
use Rattle.rules.specs.Dates.{good_date, good_clock}

-- a date and a time of day; four digits end at 9999, three at 999
pub record Timed (s : Timestamp) : Type 0 where
  pub date : good_date s ≡ true
  pub clock : good_clock s ≡ true
  pub years : s.year ≤ 9999
  pub thousandths : s.millis ≤ 999
