-- The square fits 36,500 times.
use Prim.Native.Nat.{ℕ, ◌*◌, ◌^◌}
use native.Mathlib.Omega.{arith}
use mathlib.Core.Path.{sym, ap, ◌∙◌}
use lib.Dec.{leb}
use Rattle.strike.proofs.Squares.{square_is, doubled_most}
use Rattle.strike.proofs.half_below.Goals as goal

pub overflow_mul-result : goal.overflow_mul-result
overflow_mul-result c = omega (arith, doubled_most c.doubled-twice.result c.doubled-twice.ensures.1)

pub overflow_mul-result-2 : goal.overflow_mul-result-2
overflow_mul-result-2 c = omega (arith, doubled_most c.doubled-twice.result c.doubled-twice.ensures.1)

pub returns : goal.returns
returns c =
    ap (λ (q : ℕ). leb (q * 36500) c.args.square)
    (sym (square_is c.doubled-twice.result) ∙ ap (λ (x : ℕ). x ^ 2) c.doubled-twice.ensures.0)
