-- `fix_fields::end_of` meets its contract. The loop's invariant: no byte 1 was passed, and the place is inside.
use Prim.Native.Nat.{◌-◌}
use borrow.Author.Rules.{rules}
use lib.ListN.{length}
use Rattle.fix_fields.proofs.Passing.{Passed, start, onward, onward_2, onward_3, onward_4, found}
use Rattle.fix_fields.proofs.end_of.Goals as goal

pub loop-i-init : goal.loop-i-init
loop-i-init c = start c.args.b.now c.args.from c.requires

pub returns-then-b-i-eq1 : goal.returns-then-b-i-eq1
returns-then-b-i-eq1 c = found c.args.b.now c.args.from c.loop-i.invariant c.if-b-i-eq1.true

pub bounds-b-i-in-loop-i : goal.bounds-b-i-in-loop-i
bounds-b-i-in-loop-i c = (onward c.args.b.now c.args.from c.requires c.loop-i.invariant c.if-b-i-eq1.false).inside

pub returns-then-b-i-eq1-2 : goal.returns-then-b-i-eq1-2
returns-then-b-i-eq1-2 c = found c.args.b.now c.args.from (onward c.args.b.now c.args.from c.requires c.loop-i.invariant c.if-b-i-eq1.false) c.if-b-i-eq1-2.true

pub bounds-b-i-in-loop-i-2 : goal.bounds-b-i-in-loop-i-2
bounds-b-i-in-loop-i-2 c = (onward_2 c.args.b.now c.args.from c.loop-i.i c.requires c.loop-i.invariant c.if-b-i-eq1.false c.if-b-i-eq1-2.false).inside

pub returns-then-b-i-eq1-3 : goal.returns-then-b-i-eq1-3
returns-then-b-i-eq1-3 c = found c.args.b.now c.args.from (onward_2 c.args.b.now c.args.from c.loop-i.i c.requires c.loop-i.invariant c.if-b-i-eq1.false c.if-b-i-eq1-2.false) c.if-b-i-eq1-3.true

pub bounds-b-i-in-loop-i-3 : goal.bounds-b-i-in-loop-i-3
bounds-b-i-in-loop-i-3 c = (onward_3 c.args.b.now c.args.from c.loop-i.i c.requires c.loop-i.invariant c.if-b-i-eq1.false c.if-b-i-eq1-2.false c.if-b-i-eq1-3.false).inside

pub returns-then-b-i-eq1-4 : goal.returns-then-b-i-eq1-4
returns-then-b-i-eq1-4 c = found c.args.b.now c.args.from (onward_3 c.args.b.now c.args.from c.loop-i.i c.requires c.loop-i.invariant c.if-b-i-eq1.false c.if-b-i-eq1-2.false c.if-b-i-eq1-3.false) c.if-b-i-eq1-4.true

pub loop-i-preserved : goal.loop-i-preserved
loop-i-preserved c = onward_4 c.args.b.now c.args.from c.loop-i.i c.requires c.loop-i.invariant c.if-b-i-eq1.false c.if-b-i-eq1-2.false c.if-b-i-eq1-3.false c.if-b-i-eq1-4.false
