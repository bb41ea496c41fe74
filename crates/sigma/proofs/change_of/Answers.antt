-- By the tests of the previous price and of the R.
use native.Mathlib.Omega.{arith}
use mathlib.Core.Path.{◌≡◌, refl, ap, ◌∙◌}
use lib.IntN.{nat_abs}
use Rattle.std.proofs.lemmas.Int.{ints}
use Rattle.sigma.specs.Changes.{change_of}
use Rattle.sigma.proofs.Changes.{zero_is, beyond_is, change_is, above_zero, divides, held, narrow}
use Rattle.sigma.proofs.change_of.Goals as goal

pub returns-then-previous-eq0 : goal.returns-then-previous-eq0
returns-then-previous-eq0 c = zero_is c.args.previous c.args.price (omega (arith, ints))

pub nonzero_div-r : goal.nonzero_div-r
nonzero_div-r c =
    divides c.args.previous c.args.price c.ranges.previous c.ranges.price c.if-previous-eq0.false _ _ _ _ c.from.ensures c.from-2.ensures
    c.unsigned_abs.ensures.value c.from-3.ensures

pub returns-then-unsigned_abs-gt1000000 : goal.returns-then-unsigned_abs-gt1000000
returns-then-unsigned_abs-gt1000000 c =
    let a = c.args in
    let r =
    held a.previous a.price c.ranges.previous c.ranges.price c.if-previous-eq0.false _ _ _ _ c.from.ensures c.from-2.ensures
    c.unsigned_abs.ensures.value c.from-3.ensures in
    let size : c.unsigned_abs-2.result ≡ nat_abs (change_of a.previous a.price) = c.unsigned_abs-2.ensures.value ∙ ap nat_abs r in
    beyond_is a.previous a.price (change_of a.previous a.price)
    (above_zero a.previous a.price c.ranges.previous c.ranges.price c.if-previous-eq0.false) refl (omega arith)

pub returns : goal.returns
returns c =
    let a = c.args in
    let r =
    held a.previous a.price c.ranges.previous c.ranges.price c.if-previous-eq0.false _ _ _ _ c.from.ensures c.from-2.ensures
    c.unsigned_abs.ensures.value c.from-3.ensures in
    let size : c.unsigned_abs-2.result ≡ nat_abs (change_of a.previous a.price) = c.unsigned_abs-2.ensures.value ∙ ap nat_abs r in
    rw r (rw (narrow (change_of a.previous a.price) (omega arith))
    (change_is a.previous a.price (change_of a.previous a.price)
    (above_zero a.previous a.price c.ranges.previous c.ranges.price c.if-previous-eq0.false) refl (omega arith)))
