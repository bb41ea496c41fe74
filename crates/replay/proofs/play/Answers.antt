-- The invariant is `Underway`: the words before the place are read, and the month is that of their calls. The measure is the number of
-- words left.
use native.Mathlib.Omega.{arith}
use Rattle.std.proofs.Common.{of_calls}
use Rattle.words.specs.Bytes.{words_in}
use Rattle.words.proofs.Bytes.{words_length}
use Rattle.call_step.proofs.Playing.{underway, inside, reached, all_read, all_done, nearer, still_underway}
use Rattle.replay.proofs.play.Goals as goal

pub loop-at-init : goal.loop-at-init
loop-at-init g c = (underway (words_in c.args.bytes.now) c.args.from c.requires.month, c.requires.show)

pub block-done-requires : goal.block-done-requires
block-done-requires g c = reached _ _ _ _ c.loop-at.invariant.0

pub returns-then-next-at : goal.returns-then-next-at
returns-then-next-at g c =
    let a = c.args in
    let ws = words_in a.bytes.now in (
      record {
        words = all_read ws a.from c.loop-at.month c.loop-at.at c.loop-at.invariant.0 c.block-done.result c.block-done.ensures c.if-next-at.true;
        month = all_done ws a.from c.loop-at.month c.loop-at.at c.loop-at.invariant.0 c.block-done.result c.block-done.ensures c.if-next-at.true;
      },
      omega (arith, inside ws a.from c.loop-at.month c.loop-at.at c.loop-at.invariant.0, words_length a.bytes.now),
    )

pub loop-at-smaller : goal.loop-at-smaller
loop-at-smaller g c =
    let a = c.args in
    omega
    (arith, nearer (words_in a.bytes.now) a.from c.loop-at.month c.loop-at.at c.loop-at.invariant.0 c.block-done.result c.block-done.ensures c.if-next-at.false)

pub loop-at-preserved : goal.loop-at-preserved
loop-at-preserved g c =
    let a = c.args in
    (still_underway (words_in a.bytes.now) a.from c.loop-at.month c.loop-at.at c.loop-at.invariant.0 c.block-done.result c.block-done.ensures c.if-next-at.false, search of_calls)
