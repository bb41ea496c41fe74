-- `price_keys::widest_for_price` meets its contract: a is at most 100,000, so that the product fits 64 bits and the quotient is at most the price.
use native.Mathlib.Nat.{mul-le-mul_right}
use native.Mathlib.Omega.{arith}
use Rattle.price_keys.specs.Widest.{widest_of}
use Rattle.price_keys.proofs.widest_for_price.Goals as goal

pub overflow_mul-part : goal.overflow_mul-part
overflow_mul-part c = record { fits = omega (arith, c.positive_part-price.type_inv, mul-le-mul_right c.positive_part-price.result c.requires) }

pub overflow_cast-part-3 : goal.overflow_cast-part-3
overflow_cast-part-3 c = record { fits = omega (arith, c.positive_part-price.type_inv, mul-le-mul_right c.positive_part-price.result c.requires) }

pub returns : goal.returns
unfolding widest_of
returns c = rw (← c.positive_part-price.ensures) (omega arith)
