-- `best_quote::measured` meets its contract. The loop's invariant: what was added up is held at better keys, and at it, in the part of the
use Rattle.std.specs.Prelude.{if◌then◌else◌}
use Prim.Native.Nat.{ℕ, ◌+◌, ◌-◌, ◌≤◌, ◌<◌}
use native.Mathlib.Omega.{arith}
use mathlib.Core.Path.{◌≡◌, refl, ◌∙◌}
use mathlib.Core.Bool.{Bool}
use lib.Dec.{ltb, eqb}
use lib.ListN.{length, get_or, take}
use Rattle.best_quote.specs.Levels.{held, level_at}
use Rattle.best_quote.proofs.Loops.{held_next, held_fits, held_all}
use Rattle.best_quote.proofs.measured.Goals as goal

pub loop-i-init : goal.loop-i-init
unfolding held
loop-i-init c = (omega arith, refl, refl)

pub sum-before-requires : goal.sum-before-requires
sum-before-requires c =
    let n = c.loop-i in
    let a = c.args in
    omega (arith, held_fits (ltb a.key) n.i a.keys.now a.volumes.now n.before c.volume_where.result (omega arith) c.requires.even n.invariant.1 c.volume_where.ensures, c.requires.small)

pub sum-at-requires : goal.sum-at-requires
sum-at-requires c =
    let n = c.loop-i in
    let a = c.args in
    omega (arith, held_fits (eqb a.key) n.i a.keys.now a.volumes.now n.at c.volume_where-in-loop-i.result (omega arith) c.requires.even n.invariant.2 c.volume_where-in-loop-i.ensures, c.requires.small)

pub loop-i-preserved : goal.loop-i-preserved
loop-i-preserved c =
    let n = c.loop-i in
    let a = c.args in (
      omega arith,
      c.sum-before.ensures ∙ held_next (ltb a.key) n.i a.keys.now a.volumes.now n.before c.volume_where.result (omega arith) c.requires.even n.invariant.1 c.volume_where.ensures,
      c.sum-at.ensures ∙ held_next (eqb a.key) n.i a.keys.now a.volumes.now n.at c.volume_where-in-loop-i.result (omega arith) c.requires.even n.invariant.2 c.volume_where-in-loop-i.ensures,
    )

pub returns : goal.returns
unfolding level_at
returns c =
    let ks = c.args.keys.now in
    let vs = c.args.volumes.now in
    let end : c.loop-i.i ≡ length ks = omega arith in
    λ j. record {
      key = c.args.key;
      before = held_all (ltb c.args.key) c.loop-i.i ks vs c.loop-i.before end c.requires.even c.loop-i.invariant.1 j;
      at = held_all (eqb c.args.key) c.loop-i.i ks vs c.loop-i.at end c.requires.even c.loop-i.invariant.2 j;
    }

pub volume_where-requires-in-loop-i : goal.volume_where-requires-in-loop-i
volume_where-requires-in-loop-i c = tt
