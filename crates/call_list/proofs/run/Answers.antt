-- `call_list::run` meets its contract. The invariant is `Ongoing`: after k calls the month's words are those of these calls, and the buffer's
use Prim.Native.Nat.{◌+◌, ◌-◌, ◌*◌, ◌≤◌, ◌<◌}
use native.Mathlib.Omega.{arith}
use mathlib.Core.Path.{◌≡◌, refl, sym}
use borrow.Author.Rules.{rules}
use lib.ListN.{length, replicate}
use Rattle.words.specs.Bytes.{words_in}
use Rattle.call_blocks.specs.Reading.{calls_of}
use Rattle.call_list.proofs.Listing.{Ongoing, starts, month-length, is_month, is_some, at-inside, out_length, next-inside, part_long, goes_on, too_short, finished}
use Rattle.call_list.proofs.Nexts.{fresh_is}
use Rattle.call_list.proofs.run.Goals as goal

pub returns-then-answers-calls : goal.returns-then-answers-calls
returns-then-answers-calls c =
    too_short (words_in c.args.bytes.now) c.args.answers.now c.measure-list.result c.measure-list.ensures c.if-answers-calls.true

pub loop-k-init : goal.loop-k-init
loop-k-init c =
    let r : 20 * length (calls_of (words_in c.args.bytes.now)) ≤ length c.args.answers.now = omega (arith, c.measure-list.ensures.calls, c.if-answers-calls.false) in
    (starts (words_in c.args.bytes.now) c.args.answers.now c.fresh.new.words r (fresh_is (replicate 2464 0) c.fresh.new.words c.fresh.result refl c.fresh.ensures.0 c.fresh.ensures.1), c.measure-list.ensures.calls, refl)

pub overflow_mul-from : goal.overflow_mul-from
overflow_mul-from c =
    omega (arith, c.well_formed, c.loop-k.invariant.0.room, c.loop-k.invariant.1)

pub overflow_add-to : goal.overflow_add-to
overflow_add-to c =
    omega (arith, c.well_formed, c.loop-k.invariant.0.room, c.loop-k.invariant.1)

pub slice_bounds-next-end : goal.slice_bounds-next-end
slice_bounds-next-end c =
    sym (month-length (words_in c.args.bytes.now) c.args.answers.now c.loop-k.answers c.loop-k.month c.loop-k.at c.loop-k.k c.loop-k.invariant.0)

pub slice_bounds-next-end-in-loop-k : goal.slice_bounds-next-end-in-loop-k
slice_bounds-next-end-in-loop-k c =
    sym c.loop-k.invariant.2

pub offset_bounds-answers-from : goal.offset_bounds-answers-from
offset_bounds-answers-from c =
    omega (arith, c.well_formed, c.loop-k.invariant.0.room, c.loop-k.invariant.1)

pub slice_bounds-next-count : goal.slice_bounds-next-count
slice_bounds-next-count c =
    omega arith

pub slice_bounds-next-start : goal.slice_bounds-next-start
slice_bounds-next-start c =
    omega arith

pub slice_bounds-next-end-in-loop-k-2 : goal.slice_bounds-next-end-in-loop-k-2
slice_bounds-next-end-in-loop-k-2 c =
    next-inside (words_in c.args.bytes.now) c.args.answers.now c.loop-k.answers c.loop-k.month c.loop-k.at c.loop-k.k c.loop-k.invariant.0 (omega (arith, c.loop-k.invariant.1))

pub next-at-requires : goal.next-at-requires
next-at-requires c =
    let h : c.loop-k.k < length (calls_of (words_in c.args.bytes.now)) = omega (arith, c.loop-k.invariant.1) in (
      is_month (words_in c.args.bytes.now) c.args.answers.now c.loop-k.answers c.loop-k.month c.loop-k.at c.loop-k.k c.loop-k.invariant.0,
      month-length (words_in c.args.bytes.now) c.args.answers.now c.loop-k.answers c.loop-k.month c.loop-k.at c.loop-k.k c.loop-k.invariant.0,
      c.loop-k.invariant.2,
      part_long c.loop-k.answers (20 * c.loop-k.k) (next-inside (words_in c.args.bytes.now) c.args.answers.now c.loop-k.answers c.loop-k.month c.loop-k.at c.loop-k.k c.loop-k.invariant.0 h),
      at-inside (words_in c.args.bytes.now) c.args.answers.now c.loop-k.answers c.loop-k.month c.loop-k.at c.loop-k.k c.loop-k.invariant.0 h,
      is_some (words_in c.args.bytes.now) c.args.answers.now c.loop-k.answers c.loop-k.month c.loop-k.at c.loop-k.k c.loop-k.invariant.0 h,
    )

pub loop-k-preserved : goal.loop-k-preserved
loop-k-preserved c =
    let n : 20 * c.loop-k.k + 20 - 20 * c.loop-k.k ≡ 20 = omega arith in
    (goes_on (words_in c.args.bytes.now) c.args.answers.now c.loop-k.answers c.loop-k.month c.loop-k.at c.loop-k.k c.loop-k.invariant.0 (omega (arith, c.loop-k.invariant.1)) c.next-at.new.month c.next-at.new.answer c.next-at.result c.next-at.ensures (20 * c.loop-k.k + 20 - 20 * c.loop-k.k) n, c.loop-k.invariant.1, search rules)

pub returns : goal.returns
returns c =
    finished (words_in c.args.bytes.now) c.args.answers.now c.loop-k.answers c.loop-k.month c.loop-k.at c.loop-k.k c.loop-k.invariant.0 c.measure-list.result c.measure-list.ensures (omega arith)
