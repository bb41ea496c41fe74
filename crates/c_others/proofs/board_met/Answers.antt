-- The judgement, as a number.
use mathlib.Core.Path.{ap, ◌∙◌}
use Rattle.c_answers.specs.Answers.{test_number}
use Rattle.c_others.proofs.board_met.Goals as goal

pub returns : goal.returns
returns c = c.board_number.ensures ∙ ap test_number c.judge.ensures
