-- Refused or accepted.
use mathlib.Core.Path.{◌∙◌}
use Rattle.c_records.proofs.Records.{answer_refused, answer-accepted}
use borrow.Author.Rules.{rules}
use Rattle.c_records.proofs.put_answer.Goals as goal

pub returns-then-refusal-gt0 : goal.returns-then-refusal-gt0
returns-then-refusal-gt0 c = c.put_refused.ensures ∙ answer_refused c.args.refusal c.if-refusal-gt0.true

pub returns : goal.returns
returns c = c.put_accepted.ensures ∙ answer-accepted c.args.refusal c.if-refusal-gt0.false
