-- The time with what counts.
use Rattle.std.specs.Prelude.{if◌then◌else◌}
use Prim.Native.Nat.{ℕ, ◌+◌, ◌*◌, ◌≤◌}
use native.Mathlib.Omega.{arith}
use mathlib.Core.Path.{◌≡◌, ap}
use mathlib.Core.Bool.{Bool, true, false}
use mir.Val.{bool_byte}
use Rattle.rules.specs.Units.{millis}
use Rattle.session_account.proofs.longer.Goals as goal

-- The time with what counts.
-- a test as a number, times another
counted : (b : Bool) (v : ℕ) → bool_byte b * v ≡ (if b then v else 0)
counted true v = omega arith
counted false v = omega arith

at_most : (b : Bool) (v : ℕ) → bool_byte b * v ≤ v
at_most true v = omega arith
at_most false v = omega arith

pub overflow_mul-result : goal.overflow_mul-result
overflow_mul-result c = record { fits = omega (arith, at_most c.args.counts c.args.more, c.requires) }

pub overflow_add-result : goal.overflow_add-result
overflow_add-result c = record { fits = omega (arith, at_most c.args.counts c.args.more, c.requires) }

pub returns : goal.returns
returns c = ap (λ (n : ℕ). millis (c.args.time.0 + n)) (counted c.args.counts c.args.more)
