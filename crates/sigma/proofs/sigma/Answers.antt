-- The sum of the three squares, and its root.
use native.Mathlib.Omega.{arith}
use mathlib.Core.Path.{◌≡◌, refl, ◌∙◌}
use lib.IntN.{◌+ℤ◌}
use mir.Syntax.{w64}
use mir.Val.{to_z, of_z}
use Rattle.std.proofs.lemmas.Int.{ints}
use Rattle.sigma.specs.Sigmas.{squares_of, sigma_of}
use Rattle.sigma.proofs.Squares.{square_passed}
use Rattle.sigma.proofs.sigma.Goals as goal

pub returns : goal.returns
unfolding sigma_of squares_of
returns c =
    let a = c.args in
    let sum : to_z w64 (of_z w64 (to_z w64 (of_z w64 (to_z w64 (of_z w64 c.from.result) +ℤ to_z w64 (of_z w64 c.from-2.result))) +ℤ to_z w64 (of_z w64 c.from-3.result)))
    ≡ a.a +ℤ a.b +ℤ a.c = omega (arith, ints) in
    let first = square_passed a.a (a.a +ℤ a.b +ℤ a.c) c.ranges.a sum c.square.ensures.0 in
    let second = square_passed a.b (a.a +ℤ a.b +ℤ a.c) c.ranges.b sum c.square-2.ensures.0 in
    let third = square_passed a.c (a.a +ℤ a.b +ℤ a.c) c.ranges.c sum c.square-3.ensures.0 in
    (c.root.ensures.0 ∙ rw (first, second, third) refl, c.root.ensures.1)
