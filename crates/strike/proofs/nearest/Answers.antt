-- The invariant: the lower number less half a step is at most the product, the upper one less half a step is above it, by their squares.
use Prim.Native.Nat.{◌+◌, ◌-◌, ◌*◌}
use native.Mathlib.Omega.{arith}
use mathlib.Core.Path.{◌≡◌, sym, ◌∙◌}
use borrow.Author.Tests.{leb-true, leb-false}
use Rattle.strike.proofs.nearest.Goals as goal

pub loop-low-init : goal.loop-low-init
loop-low-init c = (omega arith, omega arith, omega arith, omega (arith, c.requires))

pub half_below-requires : goal.half_below-requires
half_below-requires c = (omega arith, omega arith)

pub loop-low-preserved-then-half_below : goal.loop-low-preserved-then-half_below
loop-low-preserved-then-half_below c =
    let l = c.loop-low in
    (omega arith, l.invariant.1, leb-true _ _ (sym c.half_below.ensures ∙ c.if-half_below.true), l.invariant.3)

pub loop-low-preserved : goal.loop-low-preserved
loop-low-preserved c =
    let l = c.loop-low in
    (omega arith, omega arith, l.invariant.2, leb-false _ _ (sym c.half_below.ensures ∙ c.if-half_below.false))

pub returns : goal.returns
returns c =
    let l = c.loop-low in
    let next : 2 * l.high - 1 ≡ 2 * l.low + 1 = omega arith in
    (l.invariant.2, rw next at l.invariant.3, omega arith)

pub overflow_add-low : goal.overflow_add-low
overflow_add-low c = omega arith

pub overflow_add-middle : goal.overflow_add-middle
overflow_add-middle c = omega arith

pub loop-low-smaller-then-half_below : goal.loop-low-smaller-then-half_below
loop-low-smaller-then-half_below c = omega arith

pub loop-low-smaller : goal.loop-low-smaller
loop-low-smaller c = omega arith
