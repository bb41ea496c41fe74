-- The message as it was read, or its refusal.
use Rattle.std.proofs.Common.{ap, ◌∙◌}
use Rattle.rules.specs.Answers.{number_of}
use Rattle.c_answers.specs.Answers.{refused_number}
use Rattle.c_fix.specs.Messages.{read_words}
use Rattle.c_answers.proofs.Filling.{fills_as, fills_refused}
use Rattle.c_fix.proofs.read_words.Goals as goal

pub returns-in-Ok : goal.returns-in-Ok
returns-in-Ok c = fills_as (ap read_words c.in-Ok.ensures) c.fill_message.ensures

pub returns-in-Err : goal.returns-in-Err
returns-in-Err c =
    fills_as (ap read_words c.in-Err.ensures) (fills_refused (number_of c.in-Err.refusal) c.args.buffer.now c.refused.result (c.refused.ensures ∙ ap refused_number c.from.ensures))
