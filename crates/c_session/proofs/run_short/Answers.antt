-- 16, or the refusal before it.
use Rattle.c_session.proofs.Pairs.{short_is}
use Rattle.c_session.proofs.run_short.Goals as goal

pub returns : goal.returns
returns c = λ n h. short_is _ _ c.short_number.result n c.run.ensures.answer c.short_number.ensures h
