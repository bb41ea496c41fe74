-- The limit on examples: a number that is the product rounded is the only one (`rounded_only`), so the bounds suffice.
use Prim.Native.Nat.{ℕ}
use native.Mathlib.Omega.{arith}
use mathlib.Core.Path.{◌≡◌, refl, sym}
use mathlib.Core.Bool.{true, false}
use lib.IntN.{pos}
use Rattle.rules.specs.declared.Strike.{Strike}
use Rattle.rules.specs.Strikes.{half_below, strike_within}
use Rattle.strike.specs.Widest.{rounded_of}
use Rattle.strike.proofs.Rounding.{rounded_only}

abbrev strike : ℕ → ℕ → ℕ → ℕ → Strike
strike a difference days b = record { a = a; difference = difference; days = days; b = b }

-- 7.5 × 1 × root of 365 / 365 is 7.5: half a step goes upwards
half_up : rounded_of (strike 75 1 365 0) ≡ 8
half_up = sym (rounded_only (strike 75 1 365 0) 8 (record { low = omega arith; high = omega arith }))

-- 7.4 stays at 7
below_half : rounded_of (strike 74 1 365 0) ≡ 7
below_half = sym (rounded_only (strike 74 1 365 0) 7 (record { low = omega arith; high = omega arith }))

-- a day less, and 7.5 × root of 364 / 365 is below the half
day_less : rounded_of (strike 75 1 364 0) ≡ 7
day_less = sym (rounded_only (strike 75 1 364 0) 7 (record { low = omega arith; high = omega arith }))

-- the most: 20 × 100,000 steps on a whole year
most : rounded_of (strike 200 100000 365 0) ≡ 2000000
most = sym (rounded_only (strike 200 100000 365 0) 2000000 (record { low = omega arith; high = omega arith }))

-- no days, and b decides
b-within : strike_within (strike 75 10 0 3) (pos 3) ≡ true
unfolding strike_within half_below
b-within = refl

b-over : strike_within (strike 75 10 0 3) (pos 4) ≡ false
unfolding strike_within half_below
b-over = refl
