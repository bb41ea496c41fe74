-- 21, or the bytes written.
use Rattle.std.proofs.Common.{ap, sym, subst, ◌∙◌}
use Rattle.std.specs.Result.{ForOk}
use Rattle.rules.specs.Answers.{number_of}
use Rattle.c_answers.specs.Answers.{refused_number}
use Rattle.fix_writer.specs.Answers.{shown_text, IsText}
use Rattle.c_answers.proofs.Filling.{fills_refused, fills_as}
use Rattle.c_fix.proofs.fill_text.Goals as goal

pub returns-in-Ok : goal.returns-in-Ok
returns-in-Ok c = fills_as (ap shown_text (sym c.in-Ok.is)) c.fill_front.ensures

pub returns-in-Err : goal.returns-in-Err
returns-in-Err c =
    fills_as (ap shown_text (sym c.in-Err.is)) (fills_refused (number_of c.in-Err.refusal) c.args.text.now c.refused.result (c.refused.ensures ∙ ap refused_number c.from.ensures))
