-- `c_scan::quoting_fix_scan` meets its contract: 3 by the tags or the bytes, 16 by the words, or the rows with their number and the stop.
use mathlib.Core.Path.{sym, ◌∙◌}
use native.Mathlib.Omega.{arith}
use lib.ListN.{length-set}
use Rattle.c_scan.proofs.Words.{bad_tags, too_many_bytes, no_room, used-two, count_small, behind-length, answered}
use Rattle.c_scan.proofs.quoting_fix_scan.Goals as goal

pub returns-then-not-slots_of : goal.returns-then-not-slots_of
returns-then-not-slots_of c =
    bad_tags c.args.tags.now c.args.bytes.now c.args.words.now c.refused.result
    (sym c.slots_of.ensures.right ∙ c.if-not-slots_of.true) c.refused.ensures

pub returns-then-bytes-gt4294967295 : goal.returns-then-bytes-gt4294967295
returns-then-bytes-gt4294967295 c = too_many_bytes c.args.tags.now c.args.bytes.now c.args.words.now c.refused-then-bytes-gt4294967295.result c.if-bytes-gt4294967295.true c.refused-then-bytes-gt4294967295.ensures

pub returns-then-words-width : goal.returns-then-words-width
returns-then-words-width c =
    no_room c.args.tags.now c.args.bytes.now c.args.words.now c.refused-then-words-width.result
    (sym c.slots_of.ensures.right ∙ c.if-not-slots_of.false) c.if-bytes-gt4294967295.false c.if-words-width.true c.refused-then-words-width.ensures

pub rows-stop-requires : goal.rows-stop-requires
rows-stop-requires c =
    record {
      few = omega (arith, c.if-bytes-gt4294967295.false);
      wanted = sym c.slots_of.ensures.right ∙ c.if-not-slots_of.false;
      table = c.slots_of.ensures.table (c.if-not-slots_of.false);
      front = omega (arith, c.if-words-width.false);
    }

pub overflow_sub-used : goal.overflow_sub-used
overflow_sub-used c = used-two c.args.tags.now c.args.bytes.now c.args.words.now _ c.rows-stop.result.used c.rows-stop.result.at c.rows-stop.ensures c.if-words-width.false

pub word-requires : goal.word-requires
word-requires c = count_small c.args.tags.now c.args.bytes.now c.args.words.now _ c.rows-stop.result.used c.rows-stop.result.at c.rows-stop.ensures c.if-words-width.false (omega (arith, c.if-bytes-gt4294967295.false))

pub bounds-words-0 : goal.bounds-words-0
bounds-words-0 c = omega (arith, c.if-words-width.false, behind-length c.args.tags.now c.args.bytes.now c.args.words.now _ c.rows-stop.result.used c.rows-stop.result.at c.rows-stop.ensures c.if-words-width.false)

pub word-requires-2 : goal.word-requires-2
word-requires-2 c = omega (arith, c.if-bytes-gt4294967295.false, c.rows-stop.ensures.place)

pub bounds-words-1 : goal.bounds-words-1
bounds-words-1 c = simp length-set (omega (arith, c.if-words-width.false, behind-length c.args.tags.now c.args.bytes.now c.args.words.now _ c.rows-stop.result.used c.rows-stop.result.at c.rows-stop.ensures c.if-words-width.false))

pub returns : goal.returns
returns c =
    answered c.args.tags.now c.args.bytes.now c.args.words.now _ c.rows-stop.result.used c.rows-stop.result.at c.rows-stop.ensures c.if-words-width.false
    c.word.result c.word-2.result (sym c.slots_of.ensures.right ∙ c.if-not-slots_of.false) c.if-bytes-gt4294967295.false c.word.ensures c.word-2.ensures
