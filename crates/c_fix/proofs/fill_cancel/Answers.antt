-- The thirteen words, in the buffer.
use mathlib.Core.Path.{ap}
use Rattle.rules.specs.Answers.{accepted}
use Rattle.c_answers.proofs.Filling.{fills_as}
use Rattle.c_fix.proofs.fill_cancel.Goals as goal

pub returns : goal.returns
returns c = fills_as (ap accepted c.message-words.ensures) c.fill_words.ensures
