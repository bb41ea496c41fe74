-- The answer, as a number, and the row.
use mathlib.Core.Path.{ap, ◌∙◌}
use Rattle.rules.specs.declared.SpreadRule.{SpreadRule}
use Rattle.volatile.specs.Answers.{inside_of}
use Rattle.ease.specs.Easing.{eased_if}
use Rattle.c_answers.specs.Answers.{test_number}
use Rattle.c_others.proofs.ease_row.Goals as goal

pub returns : goal.returns
returns c =
    let a = c.args in record { number = c.day_number.ensures ∙ ap test_number c.ease_if_inside.ensures.answer; words = c.ease_if_inside.ensures.words ∙ ap (λ (s : SpreadRule). eased_if (inside_of a.prices.now a.threshold) s a.row.now) c.spread_for.ensures }
