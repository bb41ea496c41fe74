-- `fix_scan::turn` meets its contract: a message that is cut off is left; a place without a length, or with one, gets the row of `turn_of`.
use mathlib.Core.Path.{refl, subst}
use native.Mathlib.Omega.{arith}
use lib.ListN.{length, drop, length-drop}
use Rattle.fix_scan.specs.declared.Part.{Part}
use Rattle.fix_scan.specs.Internal.{PartIs, made, left}
use Rattle.fix_scan.proofs.Turning.{size_range, cut_turn, no_size_turn, part_length, step_range, row_made}
use Rattle.fix_scan.proofs.turn.Goals as goal

pub put_wrong-requires : goal.put_wrong-requires
put_wrong-requires c = (omega (arith, c.requires.0.wide), c.requires.0.small)

pub overflow_add-at : goal.overflow_add-at
overflow_add-at c = omega (arith, c.requires.1)

pub next_start-requires : goal.next_start-requires
next_start-requires c = omega (arith, c.requires.1)

pub overflow_add-at-in-Whole : goal.overflow_add-at-in-Whole
overflow_add-at-in-Whole c =
    let w = subst (λ (r : Part). PartIs (drop c.args.at c.args.b.now) r) c.in-Whole.is c.part_at.ensures in
    omega (arith, w.1, length-drop c.args.at c.args.b.now)

pub slice_bounds-put_row-end : goal.slice_bounds-put_row-end
slice_bounds-put_row-end c =
    let w = subst (λ (r : Part). PartIs (drop c.args.at c.args.b.now) r) c.in-Whole.is c.part_at.ensures in
    omega (arith, w.1, length-drop c.args.at c.args.b.now, c.requires.1)

pub put_row-step-requires : goal.put_row-step-requires
put_row-step-requires c =
    let w = subst (λ (r : Part). PartIs (drop c.args.at c.args.b.now) r) c.in-Whole.is c.part_at.ensures in
    (c.requires.0, omega (arith, part_length c.args.b.now c.args.at c.in-Whole.n w.1, (size_range (drop c.args.at c.args.b.now) c.in-Whole.n w.0).1))

pub overflow_add-at-in-Whole-2 : goal.overflow_add-at-in-Whole-2
overflow_add-at-in-Whole-2 c =
    let w = subst (λ (r : Part). PartIs (drop c.args.at c.args.b.now) r) c.in-Whole.is c.part_at.ensures in
    omega (arith, (step_range c.args.b.now c.args.at c.in-Whole.n w.1 w.0 c.args.tags.now c.put_row-step.new.words c.put_row-step.result c.put_row-step.ensures).1)

pub next_start-requires-in-Whole : goal.next_start-requires-in-Whole
next_start-requires-in-Whole c =
    let w = subst (λ (r : Part). PartIs (drop c.args.at c.args.b.now) r) c.in-Whole.is c.part_at.ensures in
    (step_range c.args.b.now c.args.at c.in-Whole.n w.1 w.0 c.args.tags.now c.put_row-step.new.words c.put_row-step.result c.put_row-step.ensures).1

pub returns-in-Cut : goal.returns-in-Cut
returns-in-Cut c =
    let w = subst (λ (r : Part). PartIs (drop c.args.at c.args.b.now) r) c.in-Cut.is c.part_at.ensures in
    left (cut_turn c.args.tags.now c.args.at (drop c.args.at c.args.b.now) w.0 w.1 w.2) refl refl

pub returns-in-Wrong : goal.returns-in-Wrong
returns-in-Wrong c =
    let w = subst (λ (r : Part). PartIs (drop c.args.at c.args.b.now) r) c.in-Wrong.is c.part_at.ensures in
    made 1
    (no_size_turn c.args.tags.now c.args.at (drop c.args.at c.args.b.now) (length c.args.row.now) c.put_wrong.new.row c.requires.0.wide c.put_wrong.ensures w)
    (omega arith) (omega (arith, c.requires.1)) c.next_start.ensures

pub returns-in-Whole : goal.returns-in-Whole
returns-in-Whole c =
    let w = subst (λ (r : Part). PartIs (drop c.args.at c.args.b.now) r) c.in-Whole.is c.part_at.ensures in
    row_made c.args.b.now c.args.at c.in-Whole.n w.1 w.0 c.args.tags.now c.put_row-step.new.words c.put_row-step.result c.put_row-step.ensures c.args.row.now c.next_start-in-Whole.result c.next_start-in-Whole.ensures
