-- The thirteen words, in the buffer.
use mathlib.Core.Path.{ap}
use Rattle.rules.specs.Answers.{accepted}
use Rattle.c_answers.proofs.Filling.{fills_as}
use Rattle.c_fix.proofs.Texts.{order_words_lem}
use Rattle.c_fix.proofs.fill_order.Goals as goal

pub returns : goal.returns
returns c =
    fills_as
    (ap accepted (order_words_lem _ _ _ _ _ _ _ _ _ _ c.message-words.ensures c.from_side.ensures c.from_steps-number.ensures))
    c.fill_words.ensures
