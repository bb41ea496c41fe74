-- The spread limit of a strike as one number, fixed at open, with which D is compared. `strike_law` in proofs/Rounding shows that the D up to
-- it are those within the limit.
use Rattle.std.specs.Prelude.{ℕ, ◌*◌, max}
use Rattle.rules.specs.declared.Strike.{Strike}
use Rattle.rules.specs.Strikes.{half_below}
use Rattle.numbers.specs.Greatest.{greatest_up_to}

-- "a × |premium difference| × root of (days / 365)", "rounded to the nearest step, half upwards": the greatest D that, less half a step, is
-- at most that product. None above a × difference × days is, whatever the four numbers (proofs/Squares, `beyond`).
unfoldable pub rounded_of : Strike → ℕ
rounded_of s = greatest_up_to (half_below s) (s.a * s.difference * s.days)

-- "max{..; b}"
unfoldable pub widest_of_strike : Strike → ℕ
widest_of_strike s = max (rounded_of s) s.b
