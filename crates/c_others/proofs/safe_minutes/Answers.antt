-- The answer, as a number.
use mathlib.Core.Path.{ap, ◌∙◌}
use Rattle.c_answers.specs.Answers.{value_number}
use Rattle.c_others.proofs.safe_minutes.Goals as goal

pub returns : goal.returns
returns c = c.safe_number.ensures ∙ ap value_number c.safe_minutes.ensures
