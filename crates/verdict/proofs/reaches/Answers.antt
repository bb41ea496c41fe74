-- `reaches` meets its contract: a product of two 32-bit numbers fits 64 bits.
use mathlib.Core.Path.{refl}
use native.Mathlib.Omega.{arith}
use Rattle.rules.specs.Pay.{met}
use Rattle.verdict.proofs.Weights.{product_fits}
use Rattle.verdict.proofs.reaches.Goals as goal

pub overflow_mul-needed : goal.overflow_mul-needed
overflow_mul-needed c =
    let a = c.args in
    omega (arith, product_fits a.share a.length.0 (omega arith) (omega arith))

pub returns : goal.returns
unfolding met
returns c = refl
