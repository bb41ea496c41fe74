-- Document 02, W11: the time of 60, the Gregorian calendar by counting days, and the milliseconds between two times.
use Rattle.std.specs.Prelude.{ℕ, zero, suc, ◌+◌, ◌*◌, ◌-◌, ◌%◌, Bool, true, false, ◌&&◌, ◌||◌, not, List, [], ◌∷◌, eqb, leb, ltb, take, drop, if◌then◌else◌, Option, None, Some}
use Rattle.rules.specs.declared.Timestamp.{Timestamp}
use Rattle.lists.specs.Lists.{within}
use Rattle.rules.specs.Answers.{Outcome, accepted, refused}
use Rattle.rules.specs.Text.{ascii}
use Rattle.rules.specs.Digits.{is_digit, number_from}

-- ---- the form
abbrev pub form : List ℕ
form = ascii "YYYYMMDD-HH:MM:SS.sss"

-- a letter of the form (from A, 65, on) is a place for a digit, a mark is itself
abbrev pub fits_place : ℕ → ℕ → Bool
fits_place p b = if leb 65 p then is_digit b else eqb b p

-- a byte for each place, and none besides
unfoldable pub has_form : List ℕ → List ℕ → Bool
has_form [] [] = true
has_form [] (b ∷ bs) = false
has_form (p ∷ ps) [] = false
has_form (p ∷ ps) (b ∷ bs) = fits_place p b && has_form ps bs

-- the number that some digits make, from a place on
abbrev pub part : List ℕ → ℕ → ℕ → ℕ
part bytes from digits = number_from 0 (take digits (drop from bytes))

unfoldable pub parts_of : List ℕ → Timestamp
parts_of bytes =
    record {
      year = part bytes 0 4;
      month = part bytes 4 2;
      day = part bytes 6 2;
      hour = part bytes 9 2;
      minute = part bytes 12 2;
      second = part bytes 15 2;
      millis = part bytes 18 3;
    }

-- ---- "a Gregorian date"
-- every fourth year; of the full hundreds every fourth
unfoldable pub is_leap : ℕ → Bool
is_leap y = eqb (y % 4) 0 && (not (eqb (y % 100) 0) || eqb (y % 400) 0)

abbrev pub year_days : ℕ → ℕ
year_days y = if is_leap y then 366 else 365

-- February, then April, June, September and November, then the seven others
unfoldable pub month_days : ℕ → ℕ → ℕ
month_days y m =
    if eqb m 2 then (if is_leap y then 29 else 28)
    else if eqb m 4 || eqb m 6 || eqb m 9 || eqb m 11 then 30
    else 31

-- "a Gregorian date from year 0001"; four digits end at 9999
unfoldable pub good_date : Timestamp → Bool
good_date s =
    leb 1 s.year && within 1 12 s.month && within 1 (month_days s.year s.month) s.day

-- "hours to 23, minutes and seconds to 59"
unfoldable pub good_clock : Timestamp → Bool
good_clock s = leb s.hour 23 && leb s.minute 59 && leb s.second 59

-- the time that the bytes of a 60 say, or nothing
unfoldable pub time_in : List ℕ → Option Timestamp
time_in bytes = if has_form form bytes && (good_date (parts_of bytes) && good_clock (parts_of bytes)) then Some (parts_of bytes) else None

-- ---- the milliseconds from one time to another, by counting days
-- the days of the years 1 to n
unfoldable pub days_of_years : ℕ → ℕ
days_of_years zero = 0
days_of_years (suc n) = days_of_years n + year_days (suc n)

-- the days of the first n months of a year
unfoldable pub days_of_months : ℕ → ℕ → ℕ
days_of_months y zero = 0
days_of_months y (suc n) = days_of_months y n + month_days y (suc n)

-- the days from 1 January of year 1 to the time's day
unfoldable pub days_before : Timestamp → ℕ
days_before s = days_of_years (s.year - 1) + days_of_months s.year (s.month - 1) + (s.day - 1)

-- the milliseconds from the start of 1 January of year 1
unfoldable pub instant_of : Timestamp → ℕ
instant_of s = days_before s * 86400000 + (((s.hour * 60 + s.minute) * 60 + s.second) * 1000 + s.millis)

-- "The time is taken from the quantum's start ..; one before it gets refusal 8, one over 32 bits of milliseconds later refusal 9."
pub data Moment : Type 0 where
  before : Moment
  at : ℕ → Moment
  late : Moment

abbrev pub moment_between : ℕ → ℕ → Moment
moment_between start time =
    if ltb time start then before else if ltb (time - start) 4294967296 then at (time - start) else late

-- a time from the start
unfoldable pub moment_of : Timestamp → Timestamp → Moment
moment_of start time = moment_between (instant_of start) (instant_of time)

abbrev pub moment_from : Option Timestamp → Option Timestamp → Outcome Moment
moment_from None None = refused 21
moment_from None (Some t) = refused 21
moment_from (Some s) None = refused 21
moment_from (Some s) (Some t) = accepted (moment_of s t)

-- "the quantum's start, given with the reader in the same form (else 21)"
unfoldable pub since : List ℕ → List ℕ → Outcome Moment
since start sixty = moment_from (time_in start) (time_in sixty)
