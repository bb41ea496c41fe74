-- `fix_tag_spans::third` meets its contract: no digit (`third-none`), one and the equals sign (`third-one`), or more, which `long_tag` reads
-- on (`third-more`).
use Prim.Native.Nat.{ℕ, ◌+◌, ◌*◌}
use mathlib.Core.Path.{sym, ap, ◌∙◌}
use native.Mathlib.Omega.{arith}
use lib.ListN.{get_or}
use Rattle.fix_digits.proofs.Numbers.{digit_from, digit_to}
use Rattle.fix_tag_spans.proofs.Tagging.{third-none, third-one, third-more}
use Rattle.fix_tag_spans.proofs.third.Goals as goal

pub bounds-b-at : goal.bounds-b-at
bounds-b-at c = omega (arith, c.requires.0.within)

pub returns-then-not-is_digit : goal.returns-then-not-is_digit
returns-then-not-is_digit c =
    third-none c.args.b.now c.args.slots.now c.args.n c.args.at c.requires.0 _ _ c.broken.ensures.0
    (sym c.is_digit.ensures ∙ c.if-not-is_digit.true) c.requires.2

pub overflow_add-at : goal.overflow_add-at
overflow_add-at c = omega (arith, c.requires.0.within)

pub bounds-b-at-2 : goal.bounds-b-at-2
bounds-b-at-2 c = c.requires.0.within

pub digit-requires : goal.digit-requires
digit-requires c =
    let d = sym c.is_digit.ensures ∙ c.if-not-is_digit.false in
    (digit_from (get_or c.args.b.now c.args.at 0) d, digit_to (get_or c.args.b.now c.args.at 0) d)

pub overflow_add-result : goal.overflow_add-result
overflow_add-result c = omega (arith, c.requires.1, c.digit.ensures.1)

pub bounds-slots-n : goal.bounds-slots-n
bounds-slots-n c = omega (arith, c.requires.1, c.digit.ensures.1)

pub overflow_add-result-then-b-at-eq61 : goal.overflow_add-result-then-b-at-eq61
overflow_add-result-then-b-at-eq61 c = omega (arith, c.requires.0.within)

pub returns-then-b-at-eq61 : goal.returns-then-b-at-eq61
returns-then-b-at-eq61 c =
    third-one c.args.b.now c.args.slots.now c.args.n c.args.at c.requires.0
    (sym c.is_digit.ensures ∙ c.if-not-is_digit.false) _ c.if-b-at-eq61.true
    (ap (λ (k : ℕ). get_or c.args.slots.now (c.args.n * 10 + k) 0) c.digit.ensures.0)

pub overflow_add-at-2 : goal.overflow_add-at-2
overflow_add-at-2 c = omega (arith, c.requires.0.within)

pub long_tag-requires : goal.long_tag-requires
long_tag-requires c = c.requires.0

pub returns : goal.returns
returns c =
    third-more c.args.b.now c.args.slots.now c.args.n c.args.at c.requires.0
    (sym c.is_digit.ensures ∙ c.if-not-is_digit.false) c.long_tag.result.slot c.long_tag.result.next c.if-b-at-eq61.false c.long_tag.ensures
