-- The squares that decide the rounding: what is beyond them, and that they fit.
use Prim.Native.Nat.{ℕ, zero, suc, ◌+◌, ◌-◌, ◌*◌, ◌^◌, ◌≤◌, ◌<◌}
use native.Mathlib.Omega.{arith}
use native.Mathlib.Nat.{mul-le-mul, mul-le-mul_left, pow-suc, pow-zero, one-mul}
use mathlib.Core.Path.{◌≡◌}
use mathlib.Core.Bool.{true, ◌&&◌}
use borrow.Author.Tests.{leb-true}
use lib.Dec.{leb}
use Rattle.rules.specs.declared.Strike.{Strike}
use Rattle.rules.specs.Strikes.{good_strike}
use Rattle.lists.proofs.Lists.{both}

pub square_is : (x : ℕ) → x ^ 2 ≡ x * x
square_is x = simp (pow-suc x 1, pow-suc x 0, pow-zero x, one-mul)

-- the smaller number has the smaller square
pub square_le : (x y : ℕ) → x ≤ y → x ^ 2 ≤ y ^ 2
square_le x y h = rw (square_is x, square_is y) (mul-le-mul h h)

-- past x × t, half a step less is above x × the root of t / 36,500
pub beyond : (x t m : ℕ) → x * t < m → 4 * (x ^ 2 * t) < (2 * m - 1) ^ 2 * 36500
beyond x t m h =
    let days : t ≤ t * t = self t in
    let under : x * x * t ≤ x * x * (t * t) = mul-le-mul_left (x * x) days in
    let over : (2 * (x * t) + 1) * (2 * (x * t) + 1) ≤ (2 * m - 1) * (2 * m - 1) = mul-le-mul (omega arith) (omega arith) in
    rw (square_is x, square_is (2 * m - 1)) (omega arith)
  where
    self : (k : ℕ) → k ≤ k * k
    self zero = omega arith
    self (suc k) = omega arith

-- a strike's four numbers in their ranges
pub record StrikeBounds (s : Strike) : Type 0 where
  pub a_most : s.a ≤ 200
  pub difference_most : s.difference ≤ 100000
  pub days_most : s.days ≤ 365
  pub b_most : s.b ≤ 1000000

pub strike_bounds : (s : Strike) → good_strike s ≡ true → StrikeBounds s
unfolding good_strike
strike_bounds s e =
    let a = leb s.a 200 in
    let difference = leb s.difference 100000 in
    let days = leb s.days 365 in
    let three = both (a && difference && days) (leb s.b 1000000) e in
    let two = both (a && difference) days three.0 in
    let one = both a difference two.0 in
    record {
      a_most = leb-true s.a 200 one.0;
      difference_most = leb-true s.difference 100000 one.1;
      days_most = leb-true s.days 365 two.1;
      b_most = leb-true s.b 1000000 three.1;
    }

module _ (s : Strike) (e : good_strike s ≡ true) where
  pub product_most : s.a * s.difference ≤ 20000000
  product_most = let h = strike_bounds s e in mul-le-mul h.a_most h.difference_most

  pub product_square_most : s.a * s.difference * (s.a * s.difference) ≤ 400000000000000
  product_square_most = mul-le-mul product_most product_most

  pub square_most : s.a * s.difference * (s.a * s.difference) * s.days ≤ 146000000000000000
  square_most = mul-le-mul product_square_most (strike_bounds s e).days_most

-- a number of at most 4,000,001 has a square that fits 36,500 times
pub doubled_most : (x : ℕ) → x ≤ 4000001 → x * x ≤ 16000008000001
doubled_most x h = mul-le-mul h h
