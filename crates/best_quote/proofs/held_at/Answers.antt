-- The loop's invariant: what was added up is held at the key in the part of the columns that was passed.
use Prim.Native.Nat.{◌-◌, ◌≤◌}
use native.Mathlib.Omega.{arith}
use mathlib.Core.Path.{◌≡◌, refl, ◌∙◌}
use lib.Dec.{eqb}
use lib.ListN.{length, take}
use Rattle.best_quote.specs.Levels.{held}
use Rattle.best_quote.proofs.Loops.{held_next, held_fits, held_all}
use Rattle.best_quote.proofs.held_at.Goals as goal

pub loop-i-init : goal.loop-i-init
unfolding held
loop-i-init c = (omega arith, refl)

pub sum-at-requires : goal.sum-at-requires
sum-at-requires c =
    omega (
      arith,
      held_fits (eqb c.args.key) c.loop-i.i c.args.keys.now c.args.volumes.now c.loop-i.at c.volume_where.result (omega arith) c.requires.even c.loop-i.invariant.1 c.volume_where.ensures,
      c.requires.small,
    )

pub loop-i-preserved : goal.loop-i-preserved
loop-i-preserved c =
    (omega arith, c.sum-at.ensures ∙ held_next (eqb c.args.key) c.loop-i.i c.args.keys.now c.args.volumes.now c.loop-i.at c.volume_where.result (omega arith) c.requires.even c.loop-i.invariant.1 c.volume_where.ensures)

pub returns : goal.returns
returns c =
    let end : c.loop-i.i ≡ length c.args.keys.now = omega arith in
    held_all (eqb c.args.key) c.loop-i.i c.args.keys.now c.args.volumes.now c.loop-i.at end c.requires.even c.loop-i.invariant.1
