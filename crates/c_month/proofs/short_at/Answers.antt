-- 16 at its place, or 3 where the bytes are no call.
use mathlib.Core.Path.{refl, sym}
use Rattle.c_answers.specs.Answers.{refused_number}
use Rattle.c_month.proofs.Months.{refused_call, refused_no_call}
use borrow.Author.Rules.{rules}
use Rattle.c_month.proofs.short_at.Goals as goal

pub returns-then-is_call : goal.returns-then-is_call
returns-then-is_call c =
    refused_call c.is_call.result (refused_number 16) c.args.place c.refused.result _ _ (sym c.is_call.ensures) c.if-is_call.true c.refused.ensures refl

pub returns : goal.returns
returns c =
    refused_no_call c.is_call.result (refused_number 16) c.args.place c.refused-2.result _ (sym c.is_call.ensures) c.if-is_call.false c.refused-2.ensures
