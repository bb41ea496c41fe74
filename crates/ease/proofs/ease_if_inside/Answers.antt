-- By the answer.
use mathlib.Core.Path.{sym, ◌∙◌}
use Rattle.ease.proofs.Words.{if_inside, if_not}
use Rattle.ease.proofs.ease_if_inside.Goals as goal

pub returns-then-is_inside : goal.returns-then-is_inside
returns-then-is_inside c =
    let s = c.args in
    record {
      answer = c.inside-answer.ensures;
      words = c.ease.ensures
          ∙ if_inside s.spread s.words.now c.inside-answer.result c.inside-answer.ensures (sym c.is_inside.ensures ∙ c.if-is_inside.true);
    }

pub returns-else-is_inside : goal.returns-else-is_inside
returns-else-is_inside c =
    let s = c.args in
    record { answer = c.inside-answer.ensures; words = if_not s.spread s.words.now c.inside-answer.result c.inside-answer.ensures (sym c.is_inside.ensures ∙ c.if-is_inside.false) }
