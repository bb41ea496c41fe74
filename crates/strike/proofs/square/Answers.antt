-- The products fit, since the numbers are in their ranges.
use Prim.Native.Nat.{ℕ, ◌*◌}
use native.Mathlib.Omega.{arith}
use mathlib.Core.Path.{sym, ap}
use Rattle.strike.proofs.Squares.{square_is, product_most, product_square_most, square_most}
use Rattle.strike.proofs.square.Goals as goal

pub overflow_mul-product : goal.overflow_mul-product
overflow_mul-product c = omega (arith, product_most c.args.s c.requires)

pub overflow_mul-result : goal.overflow_mul-result
overflow_mul-result c = omega (arith, product_square_most c.args.s c.requires)

pub overflow_mul-result-2 : goal.overflow_mul-result-2
overflow_mul-result-2 c = omega (arith, square_most c.args.s c.requires)

pub overflow_mul-result-3 : goal.overflow_mul-result-3
overflow_mul-result-3 c = omega (arith, square_most c.args.s c.requires)

pub returns : goal.returns
returns c =
    let s = c.args.s in (
      ap (λ (q : ℕ). 4 * (q * s.days)) (sym (square_is (s.a * s.difference))),
      omega (arith, square_most s c.requires),
    )
