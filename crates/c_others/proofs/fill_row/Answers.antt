-- The row chosen.
use mathlib.Core.Path.{ap}
use Rattle.rules.specs.Answers.{accepted}
use Rattle.c_answers.proofs.Filling.{fills_as}
use Rattle.c_others.proofs.fill_row.Goals as goal

pub returns : goal.returns
returns c = fills_as (ap accepted c.choose-row.ensures.words) c.fill_words.ensures
