-- `weight_met` meets its contract: the quotient of the fifth powers is at most 10,000.
use native.Mathlib.Omega.{arith}
use Rattle.verdict.proofs.Weights.{Powers, weight_met-high, product_most, divisor_least, quotient_most, weight_met-low}
use Rattle.verdict.proofs.weight_met.Goals as goal

powers : (c : goal.After-fifth-bottom)
    → Powers c.args.f c.args.share c.fifth-top.result c.fifth-bottom.result
powers c =
    record {
      low = c.if-f-ge800.false;
      small = c.requires.0;
      n_is = c.fifth-top.ensures;
      d_is = c.fifth-bottom.ensures;
    }

pub returns-then-f-ge800 : goal.returns-then-f-ge800
returns-then-f-ge800 c = weight_met-high c.args.f c.args.share c.if-f-ge800.true

pub overflow_mul-result : goal.overflow_mul-result
overflow_mul-result c = omega (arith, product_most (powers c))

pub nonzero_div-result : goal.nonzero_div-result
nonzero_div-result c = omega (arith, divisor_least (powers c))

pub overflow_cast-result : goal.overflow_cast-result
overflow_cast-result c = omega (arith, quotient_most (powers c))

pub overflow_add-result : goal.overflow_add-result
overflow_add-result c = omega (arith, quotient_most (powers c))

pub returns : goal.returns
returns c = weight_met-low (powers c)
