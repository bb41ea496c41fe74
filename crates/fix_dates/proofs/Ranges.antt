-- The ranges that the tests of a date and of a time of day mean.
use Rattle.std.specs.Prelude.{if◌then◌else◌}
use Prim.Native.Nat.{ℕ, ◌≤◌}
use mathlib.Core.Path.{◌≡◌}
use mathlib.Core.Bool.{Bool, true, false, ◌&&◌, ◌||◌}
use native.Mathlib.Omega.{arith}
use lib.Dec.{leb, eqb}
use borrow.Author.Tests.{leb-true}
use Rattle.rules.specs.declared.Timestamp.{Timestamp}
use Rattle.lists.proofs.Lists.{both}
use Rattle.rules.specs.Dates.{is_leap, month_days, good_date, good_clock}

month_most : (y m : ℕ) → month_days y m ≤ 31
unfolding month_days
month_most y m = by (eqb m 2) (is_leap y) (eqb m 4 || eqb m 6 || eqb m 9 || eqb m 11)
  where
    by : (a b c : Bool) → (if a then (if b then 29 else 28) else if c then 30 else 31) ≤ 31
    by true true c = omega arith
    by true false c = omega arith
    by false b true = omega arith
    by false b false = omega arith

pub record DateRanges (s : Timestamp) : Type 0 where
  pub year : 1 ≤ s.year
  pub month : 1 ≤ s.month
  pub months : s.month ≤ 12
  pub day : 1 ≤ s.day
  pub days : s.day ≤ 31

pub date_ranges : (s : Timestamp) → good_date s ≡ true → DateRanges s
unfolding good_date
date_ranges s h =
    let d = both (leb 1 s.year && (leb 1 s.month && leb s.month 12)) (leb 1 s.day && leb s.day (month_days s.year s.month)) h in
    let y = both (leb 1 s.year) (leb 1 s.month && leb s.month 12) d.0 in
    let m = both (leb 1 s.month) (leb s.month 12) y.1 in
    let e = both (leb 1 s.day) (leb s.day (month_days s.year s.month)) d.1 in
    record {
      year = leb-true _ _ y.0;
      month = leb-true _ _ m.0;
      months = leb-true _ _ m.1;
      day = leb-true _ _ e.0;
      days = omega (arith, leb-true s.day (month_days s.year s.month) e.1, month_most s.year s.month);
    }

pub record ClockRanges (s : Timestamp) : Type 0 where
  pub hour : s.hour ≤ 23
  pub minute : s.minute ≤ 59
  pub second : s.second ≤ 59

pub clock_ranges : (s : Timestamp) → good_clock s ≡ true → ClockRanges s
unfolding good_clock
clock_ranges s h =
    let a = both (leb s.hour 23 && leb s.minute 59) (leb s.second 59) h in
    let b = both (leb s.hour 23) (leb s.minute 59) a.0 in
    record { hour = leb-true _ _ b.0; minute = leb-true _ _ b.1; second = leb-true _ _ a.1 }
