-- `fix_scan::size_at` meets its contract: where a test fails the bytes say no length, and the last line is the length that they say.
use Rattle.std.proofs.Common.{Option, Some, ℕ}
use mathlib.Core.Path.{sym, ap, ◌∙◌}
use native.Mathlib.Omega.{arith}
use lib.ListN.{length-drop}
use Rattle.fix_frame.specs.Frames.{head_right}
use Rattle.fix_scan.proofs.Sizing.{rest_is, no_head, too_long, no_end, no_number, too_large, size_right}
use Rattle.fix_scan.proofs.size_at.Goals as goal

pub head_good-requires : goal.head_good-requires
head_good-requires c = rw (rest_is c.args.b.now c.args.at) (rw (length-drop c.args.at c.args.b.now) (omega (arith, c.requires)))

pub returns-then-not-head_good : goal.returns-then-not-head_good
returns-then-not-head_good c =
    no_head c.args.b.now c.args.at c.requires
    (sym (ap head_right (rest_is c.args.b.now c.args.at)) ∙ sym c.head_good.ensures ∙ c.if-not-head_good.true)

pub digits_end-nine-requires : goal.digits_end-nine-requires
digits_end-nine-requires c = omega (arith, c.requires)

pub returns-then-from-nine : goal.returns-then-from-nine
returns-then-from-nine c = too_long c.args.b.now c.args.at c.requires c.digits_end-nine.result c.digits_end-nine.ensures c.if-from-nine.true

pub bounds-b-nine : goal.bounds-b-nine
bounds-b-nine c = omega (arith, c.requires, c.if-from-nine.false)

pub returns-then-b-nine-ne1 : goal.returns-then-b-nine-ne1
returns-then-b-nine-ne1 c = no_end c.args.b.now c.args.at c.requires c.digits_end-nine.result c.digits_end-nine.ensures c.if-from-nine.false c.if-b-nine-ne1.true

pub slice_bounds-number_in-count : goal.slice_bounds-number_in-count
slice_bounds-number_in-count c = omega (arith, c.digits_end-nine.ensures)

pub slice_bounds-number_in-start : goal.slice_bounds-number_in-start
slice_bounds-number_in-start c = omega (arith, c.digits_end-nine.ensures)

pub slice_bounds-number_in-end : goal.slice_bounds-number_in-end
slice_bounds-number_in-end c = omega (arith, c.requires, c.if-from-nine.false)

pub returns-in_err-n : goal.returns-in_err-n
returns-in_err-n c =
    c.from_residual.ensures
    ∙ no_number c.args.b.now c.args.at c.requires c.digits_end-nine.result c.digits_end-nine.ensures c.if-from-nine.false
    c.in_err-n.ensures

pub returns-then-n-gt65535 : goal.returns-then-n-gt65535
returns-then-n-gt65535 c =
    too_large c.args.b.now c.args.at c.requires c.digits_end-nine.result c.digits_end-nine.ensures c.if-from-nine.false c.in_ok-n.n
    c.in_ok-n.ensures c.if-n-gt65535.true

pub overflow_sub-nine : goal.overflow_sub-nine
overflow_sub-nine c = omega (arith, c.digits_end-nine.ensures)

pub whole_size-requires : goal.whole_size-requires
whole_size-requires c = (omega arith, omega (arith, c.if-from-nine.false))

pub returns : goal.returns
returns c =
    ap {B = Option ℕ} (λ n. Some n) c.whole_size.ensures
    ∙ size_right c.args.b.now c.args.at c.requires c.digits_end-nine.result c.digits_end-nine.ensures c.if-from-nine.false c.in_ok-n.n
    c.in_ok-n.ensures c.if-n-gt65535.false
    (sym (ap head_right (rest_is c.args.b.now c.args.at)) ∙ sym c.head_good.ensures ∙ c.if-not-head_good.false) c.if-b-nine-ne1.false
