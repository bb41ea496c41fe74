-- `fix_scan::rows` meets its contract. The loop's invariant: the rows that are made, in front of those that are ahead, are those of the scan.
use native.Mathlib.Omega.{arith}
use Rattle.fix_tag_spans.proofs.Wanting.{few}
use Rattle.fix_scan.proofs.Going.{going_start, ends, more_bytes, more_words, part_wide, stop_turn, next_turn, farther}
use Rattle.fix_scan.proofs.rows.Goals as goal

pub overflow_mul-width : goal.overflow_mul-width
overflow_mul-width c = omega (arith, few c.args.tags.now c.requires.wanted)

pub overflow_add-width : goal.overflow_add-width
overflow_add-width c = omega (arith, few c.args.tags.now c.requires.wanted)

pub next_start-at-requires : goal.next_start-at-requires
next_start-at-requires c = omega arith

pub loop-at-init : goal.loop-at-init
loop-at-init c = going_start c.args.b.now c.args.tags.now c.args.words.now c.requires.front c.next_start-at.result c.next_start-at.ensures

pub overflow_add-at : goal.overflow_add-at
overflow_add-at c = omega (arith, c.loop-at.invariant.place, c.requires.few)

pub overflow_add-used : goal.overflow_add-used
overflow_add-used c = omega (arith, c.loop-at.invariant.fits, few c.args.tags.now c.requires.wanted)

pub overflow_add-to : goal.overflow_add-to
overflow_add-to c = omega (arith, c.loop-at.invariant.fits, few c.args.tags.now c.requires.wanted)

pub slice_bounds-turn-count : goal.slice_bounds-turn-count
slice_bounds-turn-count c = omega arith

pub slice_bounds-turn-start : goal.slice_bounds-turn-start
slice_bounds-turn-start c = omega arith

pub slice_bounds-turn-end : goal.slice_bounds-turn-end
slice_bounds-turn-end c =
    more_words c.args.b.now c.args.tags.now c.args.words.now c.requires.front c.loop-at.words c.loop-at.at c.loop-at.used c.loop-at.invariant
    c.loop-at-test.true

pub turn-next-requires : goal.turn-next-requires
turn-next-requires c = (
  record {
    wide = part_wide c.args.b.now c.args.tags.now c.args.words.now c.requires.front c.loop-at.words c.loop-at.at c.loop-at.used c.loop-at.invariant
        c.loop-at-test.true;
    wanted = c.requires.wanted;
    table = c.requires.table;
    small = omega (
      arith,
      c.requires.few,
      more_bytes c.args.b.now c.args.tags.now c.args.words.now c.requires.front c.loop-at.words c.loop-at.at c.loop-at.used c.loop-at.invariant
          c.loop-at-test.true,
    );
  },
  more_bytes c.args.b.now c.args.tags.now c.args.words.now c.requires.front c.loop-at.words c.loop-at.at c.loop-at.used c.loop-at.invariant
      c.loop-at-test.true,
)

pub returns-then-next-at : goal.returns-then-next-at
returns-then-next-at c =
    stop_turn c.args.b.now c.args.tags.now c.args.words.now c.requires.front c.loop-at.words c.loop-at.at c.loop-at.used c.loop-at.invariant
    c.loop-at-test.true c.turn-next.new.row c.turn-next.result c.turn-next.ensures c.if-next-at.true

pub loop-at-smaller : goal.loop-at-smaller
loop-at-smaller c =
    omega (
      arith,
      farther c.args.b.now c.args.tags.now c.args.words.now c.requires.front c.loop-at.words c.loop-at.at c.loop-at.used c.loop-at.invariant
          c.loop-at-test.true c.turn-next.new.row c.turn-next.result c.turn-next.ensures c.if-next-at.false,
      more_bytes c.args.b.now c.args.tags.now c.args.words.now c.requires.front c.loop-at.words c.loop-at.at c.loop-at.used c.loop-at.invariant
          c.loop-at-test.true,
      (next_turn c.args.b.now c.args.tags.now c.args.words.now c.requires.front c.loop-at.words c.loop-at.at c.loop-at.used c.loop-at.invariant
          c.loop-at-test.true c.turn-next.new.row c.turn-next.result c.turn-next.ensures c.if-next-at.false c.words-1.given.0).place,
    )

pub loop-at-preserved : goal.loop-at-preserved
loop-at-preserved c =
    next_turn c.args.b.now c.args.tags.now c.args.words.now c.requires.front c.loop-at.words c.loop-at.at c.loop-at.used c.loop-at.invariant
    c.loop-at-test.true c.turn-next.new.row c.turn-next.result c.turn-next.ensures c.if-next-at.false c.words-1.given.0

pub returns : goal.returns
returns c = ends c.args.b.now c.args.tags.now c.args.words.now c.requires.front c.loop-at.words c.loop-at.at c.loop-at.used c.loop-at.invariant c.loop-at-test.false
