-- Those after the place and before i + 1 have moved up by one.
use Prim.Native.Nat.{ℕ}
use mathlib.Core.Path.{◌≡◌, ap, ◌∙◌}
use native.Mathlib.Omega.{arith}
use Rattle.order_side.proofs.Shifting.{partly, partly_none, partly-next, partly-all}
use Rattle.order_side.proofs.shift.Goals as goal

pub loop-i-init : goal.loop-i-init
loop-i-init c = partly_none c.args.place c.args.column.now

pub loop-i-preserved : goal.loop-i-preserved
loop-i-preserved c =
    let a = c.args in
    partly-next a.place c.loop-i.i a.column.now c.loop-i.column c.loop-i.invariant (omega arith) (omega arith)

pub returns : goal.returns
returns c =
    let a = c.args in
    let end : c.loop-i.i ≡ a.last = omega (arith, c.loop-i.auto.i-end c.requires.0) in
    partly-all a.place a.last a.column.now c.loop-i.column (c.loop-i.invariant ∙ ap (λ (n : ℕ). partly a.place n a.column.now) end) (omega arith) (omega arith)
