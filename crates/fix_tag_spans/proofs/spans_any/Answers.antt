-- `fix_tag_spans::spans_any` meets its contract. The loop's invariant: the fields read so far are in front of those that are left, and each
-- wanted tag has its words of them.
use Prim.Native.Nat.{ℕ, ◌+◌}
use mathlib.Core.Path.{sym, subst, ◌∙◌}
use mathlib.Core.List.{List}
use native.Mathlib.Omega.{arith}
use Rattle.fix_fields.proofs.Searching.{not_last}
use Rattle.fix_tag_spans.proofs.AnySearching.{Progress, begins, stops, finishes, framed, next-inside, slot_room, words_room, slot_small, emptied, onwards_skip, onwards_noted, farther, to_small}
use Rattle.fix_tag_spans.proofs.spans_any.Goals as goal
use Rattle.fix_tag_spans.proofs.spans_any.Goals.{then-slot-ne0, else-slot-ne0}

pub loop-at-init : goal.loop-at-init
loop-at-init c = begins c.args.b.now c.args.start c.args.end c.args.tags.now c.args.slots.now c.args.spans.now c.requires

pub slot_at-tag-requires : goal.slot_at-tag-requires
slot_at-tag-requires c = (omega (arith, c.requires.ends.seven, c.loop-at-test.true), c.requires.ends.last)

pub returns-then-slot : goal.returns-then-slot
returns-then-slot c =
    stops c.args.b.now c.args.start c.args.end c.args.tags.now c.args.slots.now c.args.spans.now c.requires c.loop-at.spans c.loop-at.at c.loop-at.invariant
    (framed c.args.b.now c.args.start c.args.end c.args.tags.now c.args.slots.now c.args.spans.now c.requires c.loop-at.spans c.loop-at.at c.loop-at.invariant
    c.loop-at-test.true c.slot_at-tag.result.slot c.slot_at-tag.result.next c.slot_at-tag.ensures c.if-slot.true)

pub bounds-b-from : goal.bounds-b-from
bounds-b-from c =
    next-inside c.args.b.now c.args.start c.args.end c.args.tags.now c.args.slots.now c.args.spans.now c.requires c.loop-at.spans c.loop-at.at c.loop-at.invariant
    c.loop-at-test.true c.slot_at-tag.result.slot c.slot_at-tag.result.next c.slot_at-tag.ensures c.if-slot.false

pub returns-then-b-from-eq1 : goal.returns-then-b-from-eq1
returns-then-b-from-eq1 c =
    stops c.args.b.now c.args.start c.args.end c.args.tags.now c.args.slots.now c.args.spans.now c.requires c.loop-at.spans c.loop-at.at c.loop-at.invariant
    (emptied c.args.b.now c.args.start c.args.end c.args.tags.now c.args.slots.now c.args.spans.now c.requires c.loop-at.spans c.loop-at.at c.loop-at.invariant
    c.loop-at-test.true c.slot_at-tag.result.slot c.slot_at-tag.result.next c.slot_at-tag.ensures c.if-slot.false c.if-b-from-eq1.true)

pub overflow_add-from : goal.overflow_add-from
overflow_add-from c =
    omega (
      arith,
      next-inside c.args.b.now c.args.start c.args.end c.args.tags.now c.args.slots.now c.args.spans.now c.requires c.loop-at.spans c.loop-at.at c.loop-at.invariant
          c.loop-at-test.true c.slot_at-tag.result.slot c.slot_at-tag.result.next c.slot_at-tag.ensures c.if-slot.false,
    )

pub end_of-to-requires : goal.end_of-to-requires
end_of-to-requires c =
    record {
      within =
          not_last c.args.b.now c.slot_at-tag.result.next c.requires.ends.last
          (next-inside c.args.b.now c.args.start c.args.end c.args.tags.now c.args.slots.now c.args.spans.now c.requires c.loop-at.spans c.loop-at.at c.loop-at.invariant
          c.loop-at-test.true c.slot_at-tag.result.slot c.slot_at-tag.result.next c.slot_at-tag.ensures c.if-slot.false)
          c.if-b-from-eq1.false;
      closed = c.requires.ends.last;
    }

pub words_at-requires : goal.words_at-requires
words_at-requires c =
    let r = slot_room c.args.b.now c.args.start c.args.end c.args.tags.now c.args.slots.now c.args.spans.now c.requires c.loop-at.spans c.loop-at.at c.loop-at.invariant
    c.loop-at-test.true c.slot_at-tag.result.slot c.slot_at-tag.result.next c.slot_at-tag.ensures c.if-slot.false c.if-slot-ne0.true in
    let s = slot_small c.args.b.now c.args.start c.args.end c.args.tags.now c.args.slots.now c.args.spans.now c.requires c.loop-at.spans c.loop-at.at c.loop-at.invariant
    c.loop-at-test.true c.slot_at-tag.result.slot c.slot_at-tag.result.next c.slot_at-tag.ensures c.if-slot.false c.if-slot-ne0.true in
    (r.0, s)

pub note-requires : goal.note-requires
note-requires c =
    let w = words_room c.args.b.now c.args.start c.args.end c.args.tags.now c.args.slots.now c.args.spans.now c.requires c.loop-at.spans c.loop-at.at c.loop-at.invariant
    c.loop-at-test.true c.slot_at-tag.result.slot c.slot_at-tag.result.next c.slot_at-tag.ensures c.if-slot.false c.if-slot-ne0.true in (
      omega (arith, w, c.words_at.ensures),
      omega (arith, c.end_of-to.ensures.first),
      to_small c.args.b.now c.args.start c.args.end c.args.tags.now c.args.slots.now c.args.spans.now c.requires c.loop-at.spans c.loop-at.at c.loop-at.invariant
          c.loop-at-test.true c.slot_at-tag.result.slot c.slot_at-tag.result.next c.slot_at-tag.ensures c.if-slot.false c.if-b-from-eq1.false c.end_of-to.result c.end_of-to.ensures,
    )

pub overflow_add-at : goal.overflow_add-at
overflow_add-at c = omega (arith, c.end_of-to.ensures.inside)

pub loop-at-smaller : goal.loop-at-smaller
loop-at-smaller c =
    omega (
      arith,
      c.end_of-to.ensures.inside,
      farther c.args.b.now c.args.start c.args.end c.args.tags.now c.args.slots.now c.args.spans.now c.requires c.loop-at.spans c.loop-at.at c.loop-at.invariant
          c.loop-at-test.true c.slot_at-tag.result.slot c.slot_at-tag.result.next c.slot_at-tag.ensures c.if-slot.false c.if-b-from-eq1.false c.end_of-to.result c.end_of-to.ensures,
    )

pub loop-at-preserved : goal.loop-at-preserved
loop-at-preserved c =
    elim c.if-slot-ne0.branch [
      | then-slot-ne0 w ↦
          onwards_noted c.args.b.now c.args.start c.args.end c.args.tags.now c.args.slots.now c.args.spans.now c.requires c.loop-at.spans c.loop-at.at c.loop-at.invariant
          c.loop-at-test.true c.slot_at-tag.result.slot c.slot_at-tag.result.next c.slot_at-tag.ensures c.if-slot.false c.if-b-from-eq1.false c.end_of-to.result c.end_of-to.ensures
          w.if-slot-ne0.true w.words_at.result w.words_at.ensures c.if-slot-ne0.spans (w.spans-is ∙ w.note.ensures)
      | else-slot-ne0 w ↦
          subst (λ (l : List ℕ). Progress c.args.b.now c.args.start c.args.tags.now l (c.end_of-to.result + 1)) (sym w.spans-is)
          (onwards_skip c.args.b.now c.args.start c.args.end c.args.tags.now c.args.slots.now c.args.spans.now c.requires c.loop-at.spans c.loop-at.at c.loop-at.invariant
          c.loop-at-test.true c.slot_at-tag.result.slot c.slot_at-tag.result.next c.slot_at-tag.ensures c.if-slot.false c.if-b-from-eq1.false c.end_of-to.result c.end_of-to.ensures w.if-slot-ne0.false)
    ]

pub returns : goal.returns
returns c = finishes c.args.b.now c.args.start c.args.end c.args.tags.now c.args.slots.now c.args.spans.now c.requires c.loop-at.spans c.loop-at.at c.loop-at.invariant c.loop-at-test.false
