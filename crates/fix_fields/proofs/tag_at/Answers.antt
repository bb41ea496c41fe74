-- `fix_fields::tag_at` meets its contract: its first bytes tell that there is no tag (`no_begin`, `no_second`), or one of one digit
use Prim.Native.Nat.{◌+◌}
use mathlib.Core.Path.{sym, ◌∙◌}
use lib.ListN.{get_or}
use native.Mathlib.Omega.{arith}
use borrow.Author.Tests.{not-true, not-false}
use Rattle.fix_digits.proofs.Numbers.{digit_from, digit_to}
use Rattle.fix_fields.proofs.ShortTags.{no_begin, low, high, one_digit, no_second, two_digits, more_digits}
use borrow.Author.Rules.{rules}
use Rattle.fix_fields.proofs.tag_at.Goals as goal

pub returns-then-x : goal.returns-then-x
returns-then-x c = no_begin c.args.b.now c.args.at c.requires.0 c.args.at c.if-x.true

pub overflow_sub-x : goal.overflow_sub-x
overflow_sub-x c = omega (arith, low c.args.b.now c.args.at c.requires.0 c.if-x.false)

pub returns-then-y-eq61 : goal.returns-then-y-eq61
returns-then-y-eq61 c = one_digit c.args.b.now c.args.at c.requires.0 c.if-x.false c.slot_of.result c.if-y-eq61.true c.slot_of.ensures

pub returns-then-not-is_digit : goal.returns-then-not-is_digit
returns-then-not-is_digit c = no_second c.args.b.now c.args.at c.requires.0 c.if-x.false c.args.at c.if-y-eq61.false (sym c.is_digit.ensures ∙ not-true c.is_digit.result c.if-not-is_digit.true-raw)

pub overflow_sub-x-then-b-at-eq61 : goal.overflow_sub-x-then-b-at-eq61
overflow_sub-x-then-b-at-eq61 c = omega (arith, low c.args.b.now c.args.at c.requires.0 c.if-x.false)

pub overflow_mul-x : goal.overflow_mul-x
overflow_mul-x c = omega (arith, high c.args.b.now c.args.at c.requires.0 c.if-x.false)

pub overflow_sub-y : goal.overflow_sub-y
overflow_sub-y c = digit_from (get_or c.args.b.now (c.args.at + 1) 0) (sym c.is_digit.ensures ∙ not-false c.is_digit.result c.if-not-is_digit.false-raw)

pub overflow_add-x : goal.overflow_add-x
overflow_add-x c = omega (arith, high c.args.b.now c.args.at c.requires.0 c.if-x.false, digit_to (get_or c.args.b.now (c.args.at + 1) 0) (sym c.is_digit.ensures ∙ not-false c.is_digit.result c.if-not-is_digit.false-raw))

pub returns-then-b-at-eq61 : goal.returns-then-b-at-eq61
returns-then-b-at-eq61 c = two_digits c.args.b.now c.args.at c.requires.0 c.if-x.false (sym c.is_digit.ensures ∙ not-false c.is_digit.result c.if-not-is_digit.false-raw) c.slot_of-then-b-at-eq61.result c.if-b-at-eq61.true c.slot_of-then-b-at-eq61.ensures

pub returns : goal.returns
returns c = more_digits c.args.b.now c.args.at c.requires.0 c.if-x.false (sym c.is_digit.ensures ∙ not-false c.is_digit.result c.if-not-is_digit.false-raw) c.long_tag.result.slot c.long_tag.result.next c.if-b-at-eq61.false c.long_tag.ensures
