-- The answer, as a number.
use mathlib.Core.Path.{ap, ◌∙◌}
use Rattle.c_answers.specs.Answers.{test_number}
use Rattle.c_others.proofs.day_inside.Goals as goal

pub returns : goal.returns
returns c = c.day_number.ensures ∙ ap test_number c.inside.ensures
