-- `fix_tag_spans::slot_at` meets its contract: its first bytes say that there is no tag (`no_begin`, `no_second`), or one of one digit
-- (`one_digit`), two (`two_digits`) or more, which `third` reads on (`more_digits`).
use Prim.Native.Nat.{ℕ, ◌+◌, ◌*◌}
use mathlib.Core.Path.{sym, ap, ◌∙◌}
use native.Mathlib.Omega.{arith}
use lib.ListN.{get_or}
use Rattle.fix_digits.proofs.Numbers.{digit_from, digit_to}
use Rattle.fix_tag_spans.proofs.Tagging.{no_begin, low, high, one_digit, no_second, two_digits, more_digits}
use Rattle.fix_tag_spans.proofs.slot_at.Goals as goal

pub returns-then-x : goal.returns-then-x
returns-then-x c = no_begin c.args.b.now c.args.slots.now c.args.at c.requires.0 _ _ c.broken.ensures.0 c.if-x.true

pub digit-requires : goal.digit-requires
digit-requires c =
    let l = low c.args.b.now c.args.slots.now c.args.at c.requires.0 c.if-x.false in
    let h = high c.args.b.now c.args.slots.now c.args.at c.requires.0 c.if-x.false in
    (omega arith, omega arith)

pub bounds-slots-digit : goal.bounds-slots-digit
bounds-slots-digit c = omega (arith, c.digit.ensures.1)

pub returns-then-y-eq61 : goal.returns-then-y-eq61
returns-then-y-eq61 c =
    one_digit c.args.b.now c.args.slots.now c.args.at c.requires.0 c.if-x.false _ c.if-y-eq61.true
    (ap (λ (k : ℕ). get_or c.args.slots.now k 0) c.digit.ensures.0)

pub returns-then-not-is_digit : goal.returns-then-not-is_digit
returns-then-not-is_digit c =
    no_second c.args.b.now c.args.slots.now c.args.at c.requires.0 c.if-x.false _ _ c.broken-then-not-is_digit.ensures.0 c.if-y-eq61.false
    (sym c.is_digit.ensures ∙ c.if-not-is_digit.true)

pub digit-requires-2 : goal.digit-requires-2
digit-requires-2 c =
    let l = low c.args.b.now c.args.slots.now c.args.at c.requires.0 c.if-x.false in
    let h = high c.args.b.now c.args.slots.now c.args.at c.requires.0 c.if-x.false in
    (omega arith, omega arith)

pub overflow_mul-n : goal.overflow_mul-n
overflow_mul-n c = omega (arith, c.digit-2.ensures.1)

pub digit-requires-3 : goal.digit-requires-3
digit-requires-3 c =
    let d = sym c.is_digit.ensures ∙ c.if-not-is_digit.false in
    (digit_from (get_or c.args.b.now (c.args.at + 1) 0) d, digit_to (get_or c.args.b.now (c.args.at + 1) 0) d)

pub overflow_add-n : goal.overflow_add-n
overflow_add-n c = omega (arith, c.digit-2.ensures.1, c.digit-3.ensures.1)

pub bounds-slots-n : goal.bounds-slots-n
bounds-slots-n c = omega (arith, c.digit-2.ensures.1, c.digit-3.ensures.1)

pub returns-then-b-at-eq61 : goal.returns-then-b-at-eq61
returns-then-b-at-eq61 c =
    two_digits c.args.b.now c.args.slots.now c.args.at c.requires.0 c.if-x.false
    (sym c.is_digit.ensures ∙ c.if-not-is_digit.false) _ c.if-b-at-eq61.true
    (λ i. get_or c.args.slots.now (c.digit-2.ensures.0 i * 10 + c.digit-3.ensures.0 i) 0)

pub third-requires : goal.third-requires
third-requires c = (record { within = omega (arith, c.requires.0); closed = c.requires.1 }, omega (arith, c.digit-2.ensures.1, c.digit-3.ensures.1), c.if-b-at-eq61.false)

pub returns : goal.returns
returns c =
    more_digits c.args.b.now c.args.slots.now c.args.at c.requires.0 c.if-x.false
    (sym c.is_digit.ensures ∙ c.if-not-is_digit.false) c.third.result.slot c.third.result.next _
    (λ i. c.digit-2.ensures.0 i * 10 + c.digit-3.ensures.0 i) c.third.ensures
