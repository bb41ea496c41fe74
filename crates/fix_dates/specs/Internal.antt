-- What the private functions promise each other.
use Rattle.std.specs.Prelude.{ℕ, ◌+◌, ◌*◌, ◌<◌, ◌≤◌, ◌≡◌, true, List, length, get_or}
use Rattle.rules.specs.declared.Timestamp.{Timestamp}
use Rattle.rules.specs.Digits.{is_digit}

-- so many digits from a place on
pub record DigitsAt (v : List ℕ) (at n : ℕ) : Type 0 where
  pub inside : at + n ≤ length v
  pub digits : (i : ℕ) → i < n → is_digit (get_or v (at + i) 0) ≡ true

-- the milliseconds of the day
abbrev pub clock_of : Timestamp → ℕ
clock_of s = ((s.hour * 60 + s.minute) * 60 + s.second) * 1000 + s.millis
