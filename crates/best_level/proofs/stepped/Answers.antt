-- There is no order between a key and the next, so that the sums of one are worked out of the other's (`next_up`, `next_down`).
use native.Mathlib.Omega.{arith}
use mathlib.Core.Path.{◌∙◌}
use borrow.Author.Rules.{rules}
use Rattle.best_level.proofs.Depths.{level_small}
use Rattle.best_level.proofs.Nexts.{there_less, next_up, next_down, next-none}
use Rattle.best_level.proofs.stepped.Goals as goal

pub difference-requires : goal.difference-requires
difference-requires c =
    let a = c.args in
    there_less a.minimum.0 a.keys.now a.volumes.now a.level c.requires.0 c.requires.1 c.requires.3 c.if-minimum-level.true
    c.above-up.result c.held_at-there.result c.above-up.ensures c.held_at-there.ensures

pub returns-then-minimum-level : goal.returns-then-minimum-level
returns-then-minimum-level c =
    let a = c.args in
    (λ i. record { key = c.above-up.result; before = c.difference.ensures i; at = c.held_at-there.result })
    ∙ next_up a.minimum.0 a.keys.now a.volumes.now a.level c.requires.0 c.requires.1 c.requires.3 c.if-minimum-level.true
    c.above-up.result c.held_at-there.result c.above-up.ensures c.held_at-there.ensures

pub sum-requires : goal.sum-requires
sum-requires c =
    let a = c.args in
    omega (arith, level_small a.keys.now a.volumes.now a.level c.requires.0.columns c.requires.1)

pub returns-then-down-eq0 : goal.returns-then-down-eq0
returns-then-down-eq0 c =
    let a = c.args in
    (λ i. record { key = 0; before = c.sum.ensures i; at = 0 })
    ∙ next-none a.minimum.0 a.keys.now a.volumes.now a.level c.requires.0 c.requires.1 c.requires.3 c.if-minimum-level.false c.requires.2
    c.below-down.result c.below-down.ensures c.if-down-eq0.true c.requires.4.none

pub sum-requires-2 : goal.sum-requires-2
sum-requires-2 c =
    let a = c.args in
    omega (arith, level_small a.keys.now a.volumes.now a.level c.requires.0.columns c.requires.1)

pub returns : goal.returns
returns c =
    let a = c.args in
    (λ i. record { key = c.below-down.result; before = c.sum-2.ensures i; at = c.held_at.result })
    ∙ next_down a.minimum.0 a.keys.now a.volumes.now a.level c.requires.0 c.requires.1 c.requires.3 c.if-minimum-level.false c.requires.2
    c.below-down.result c.held_at.result c.below-down.ensures c.held_at.ensures
