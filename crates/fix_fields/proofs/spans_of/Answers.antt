-- `fix_fields::spans_of` meets its contract. The loop's invariant: the fields read so far stand in front of those that are left, and each slot holds the values of its tag.
use mathlib.Core.Path.{refl}
use mathlib.Core.Bool.{false}
use native.Mathlib.Omega.{arith}
use Prim.Native.Nat.{◌-◌}
use lib.ListN.{length}
use Rattle.fix_fields.proofs.Searching.{Progress, begins, not_last, stops, finishes, seventh, next-inside, slot_small, emptied, onwards, farther}
use Rattle.fix_fields.proofs.spans_of.Goals as goal

pub loop-at-init : goal.loop-at-init
loop-at-init c = begins c.args.b.now c.args.start c.args.end c.requires.0 c.args.spans.now c.requires.1

pub tag_at-tag-requires : goal.tag_at-tag-requires
tag_at-tag-requires c = (omega (arith, c.requires.0.seven, c.loop-at-test.true), c.requires.0.last)

pub returns-then-slot-eq7 : goal.returns-then-slot-eq7
returns-then-slot-eq7 c = stops c.args.b.now c.args.start c.args.end c.requires.0 c.loop-at.spans c.loop-at.at c.loop-at.invariant false refl (seventh c.args.b.now c.args.start c.args.end c.requires.0 c.loop-at.spans c.loop-at.at c.loop-at.invariant c.loop-at-test.true c.tag_at-tag.result.slot c.tag_at-tag.result.next c.tag_at-tag.ensures c.if-slot-eq7.true)

pub bounds-b-from : goal.bounds-b-from
bounds-b-from c = next-inside c.args.b.now c.args.start c.args.end c.requires.0 c.loop-at.spans c.loop-at.at c.loop-at.invariant c.loop-at-test.true c.tag_at-tag.result.slot c.tag_at-tag.result.next c.tag_at-tag.ensures c.if-slot-eq7.false

pub returns-then-b-from-eq1 : goal.returns-then-b-from-eq1
returns-then-b-from-eq1 c = stops c.args.b.now c.args.start c.args.end c.requires.0 c.loop-at.spans c.loop-at.at c.loop-at.invariant false refl (emptied c.args.b.now c.args.start c.args.end c.requires.0 c.loop-at.spans c.loop-at.at c.loop-at.invariant c.loop-at-test.true c.tag_at-tag.result.slot c.tag_at-tag.result.next c.tag_at-tag.ensures c.if-slot-eq7.false c.if-b-from-eq1.true)

pub overflow_add-from : goal.overflow_add-from
overflow_add-from c = omega (arith, next-inside c.args.b.now c.args.start c.args.end c.requires.0 c.loop-at.spans c.loop-at.at c.loop-at.invariant c.loop-at-test.true c.tag_at-tag.result.slot c.tag_at-tag.result.next c.tag_at-tag.ensures c.if-slot-eq7.false)

pub end_of-to-requires : goal.end_of-to-requires
end_of-to-requires c = record { within = not_last c.args.b.now c.tag_at-tag.result.next c.requires.0.last (next-inside c.args.b.now c.args.start c.args.end c.requires.0 c.loop-at.spans c.loop-at.at c.loop-at.invariant c.loop-at-test.true c.tag_at-tag.result.slot c.tag_at-tag.result.next c.tag_at-tag.ensures c.if-slot-eq7.false) c.if-b-from-eq1.false; closed = c.requires.0.last }

pub note-requires : goal.note-requires
note-requires c = slot_small c.args.b.now c.args.start c.args.end c.requires.0 c.loop-at.spans c.loop-at.at c.loop-at.invariant c.loop-at-test.true c.tag_at-tag.result.slot c.tag_at-tag.result.next c.tag_at-tag.ensures c.if-slot-eq7.false

pub overflow_add-at : goal.overflow_add-at
overflow_add-at c = omega (arith, c.end_of-to.ensures.inside)

pub loop-at-smaller : goal.loop-at-smaller
loop-at-smaller c = omega (arith, c.end_of-to.ensures.inside, farther c.args.b.now c.args.start c.args.end c.requires.0 c.loop-at.spans c.loop-at.at c.loop-at.invariant c.loop-at-test.true c.tag_at-tag.result.slot c.tag_at-tag.result.next c.tag_at-tag.ensures c.if-slot-eq7.false c.if-b-from-eq1.false c.end_of-to.result c.end_of-to.ensures)

pub loop-at-preserved : goal.loop-at-preserved
loop-at-preserved c = onwards c.args.b.now c.args.start c.args.end c.requires.0 c.loop-at.spans c.loop-at.at c.loop-at.invariant c.loop-at-test.true c.tag_at-tag.result.slot c.tag_at-tag.result.next c.tag_at-tag.ensures c.if-slot-eq7.false c.if-b-from-eq1.false c.end_of-to.result c.end_of-to.ensures c.note.new.spans c.note.ensures

pub returns : goal.returns
returns c = finishes c.args.b.now c.args.start c.args.end c.requires.0 c.loop-at.spans c.loop-at.at c.loop-at.invariant c.loop-at-test.false
