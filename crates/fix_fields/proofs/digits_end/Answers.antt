-- `fix_fields::digits_end` meets its contract.
use Rattle.std.proofs.Common.{sym, ◌∙◌, arith, rules}
use Rattle.fix_fields.proofs.LongTags.{begins, digit_more}
use Rattle.fix_fields.proofs.digits_end.Goals as goal

pub loop-i-init : goal.loop-i-init
loop-i-init c = begins c.args.b.now c.args.from c.requires

pub bounds-b-i : goal.bounds-b-i
bounds-b-i c = c.loop-i.invariant.inside

pub overflow_add-i : goal.overflow_add-i
overflow_add-i c = omega (arith, c.loop-i.invariant.inside)

pub loop-i-smaller : goal.loop-i-smaller
loop-i-smaller c = omega (arith, c.loop-i.invariant.inside)

pub loop-i-preserved : goal.loop-i-preserved
loop-i-preserved c = digit_more c.args.b.now c.args.from c.requires c.loop-i.i c.loop-i.invariant (sym c.is_digit.ensures ∙ c.loop-i-test.true)

pub returns : goal.returns
returns c =
    let P = c.loop-i.invariant in
    record { digits = P.digits; good = P.good; passed = P.passed; inside = P.inside; stops = sym c.is_digit.ensures ∙ c.loop-i-test.false }
