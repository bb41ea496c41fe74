-- The gap is at most 6,000,000.
use Prim.Native.Nat.{◌*◌, ◌≤◌}
use native.Mathlib.Omega.{arith}
use mathlib.Core.Path.{◌≡◌, sym, ap, ◌∙◌}
use lib.IntN.{pos, nat_abs, ◌-ℤ◌, ◌*ℤ◌}
use Rattle.std.proofs.lemmas.Int.{ints}
use Rattle.sigma.proofs.Squares.{abs_square, square_small}
use Rattle.sigma.proofs.square.Goals as goal

pub returns : goal.returns
returns c =
    let a = c.args in
    let gap : c.unsigned_abs-gap.result ≡ nat_abs (pos 3 *ℤ a.r -ℤ a.sum) = omega (arith, ints) in
    let most : c.unsigned_abs-gap.result ≤ 6000000 = omega (arith, ints) in
    (ap (λ d. d * d) gap ∙ sym (abs_square (pos 3 *ℤ a.r -ℤ a.sum)), square_small c.unsigned_abs-gap.result 6000000 most)
