-- The prices before the place are read, and the rest is as it was. The measure is the number of prices left.
use native.Mathlib.Omega.{arith}
use mathlib.Core.Path.{refl, ap, ◌∙◌}
use lib.IntN.{pos}
use lib.ListN.{length}
use mir.Facts.{to_z-of_z}
use mir.Syntax.{w32}
use Rattle.console.proofs.Filling.{none_filled, one_more as again, all-filled as all, filled-length}
use Rattle.console.proofs.read_prices.Goals as goal
use Rattle.console.proofs.read_prices.Invariants.{due}

pub loop-i-init : goal.loop-i-init
loop-i-init c = (omega arith, refl, none_filled (due c.args.bytes.now c.args.from) c.args.prices.now)

pub bounds-prices-i : goal.bounds-prices-i
bounds-prices-i c =
    let l = c.loop-i in
    omega (arith, l.invariant.1, ap length l.invariant.2 ∙ filled-length _ _ l.i (omega (arith, l.invariant.0, l.invariant.1)))

pub loop-i-preserved : goal.loop-i-preserved
loop-i-preserved c =
    let l = c.loop-i in
    let a = c.args in (
      omega arith,
      l.invariant.1,
      again (due a.bytes.now a.from) (pos 0) a.prices.now l.prices l.i _ (omega (arith, l.invariant.1)) l.invariant.2 (to_z-of_z {w = w32} (record { sfits = c.price_at.type_inv }) ∙ c.price_at.ensures),
    )

pub returns : goal.returns
returns c =
    let l = c.loop-i in
    let a = c.args in
    l.invariant.2 ∙ all (due a.bytes.now a.from) a.prices.now l.i (omega (arith, l.invariant.0, l.invariant.1))
