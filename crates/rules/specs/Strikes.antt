-- Document 02, W4: a strike's four numbers and its spread limit.
use Rattle.std.specs.Prelude.{ℕ, ◌+◌, ◌-◌, ◌*◌, ◌^◌, ◌≤◌, ◌<◌, Bool, true, ◌&&◌, ◌||◌, leb, ℤ, pos, negsuc}
use Rattle.rules.specs.declared.Strike.{Strike}

-- "Here a is in tenths (75 is 7.5), 0 to 200; the difference is 0 to 100,000 steps; days are 0 to 365; b is 0 to 1,000,000."
unfoldable pub good_strike : Strike → Bool
good_strike s = leb s.a 200 && leb s.difference 100000 && leb s.days 365 && leb s.b 1000000

-- "a × |premium difference| × root of (days / 365)": the square of it, times 36,500, since a is in tenths (10 × 10) and the root's
-- square is days / 365
abbrev pub square_of : Strike → ℕ
square_of s = (s.a * s.difference) ^ 2 * s.days

-- D less half a step is at most that product: "decided exactly, on whole-number squares", (2D - 1)² × 36,500 ≤ 4 × the square above
unfoldable pub half_below : Strike → ℕ → Bool
half_below s d = leb ((2 * d - 1) ^ 2 * 36500) (4 * square_of s)

-- "the spread limit is max{a × |premium difference| × root of (days / 365); b}, rounded to the nearest step, half upwards": a D is within
-- it where D less half a step is at most the product, or D is at most b. No D below 0 is above it.
unfoldable pub strike_within : Strike → ℤ → Bool
strike_within s (pos d) = half_below s d || leb d s.b
strike_within s (negsuc d) = true

-- What "rounded to the nearest step, half upwards" says of a whole number n of steps: n - ½ ≤ the product < n + ½, by the squares of the
-- doubled numbers. Crate `strike` shows that the D within the limit are those up to the greater of such an n and b.
pub record Rounded (s : Strike) (n : ℕ) : Type 0 where
  pub low : (2 * n - 1) ^ 2 * 36500 ≤ 4 * square_of s
  pub high : 4 * square_of s < (2 * n + 1) ^ 2 * 36500
