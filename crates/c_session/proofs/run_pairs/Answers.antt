-- The pairs, and K, w and their number before them.
use mathlib.Core.Path.{refl}
use Rattle.c_session.proofs.Pairs.{pairs_lent}
use Rattle.c_session.proofs.run_pairs.Goals as goal

pub returns : goal.returns
returns c =
    pairs_lent _ c.args.buffer.now _ _ _ _ _ c.requires refl c.run-answer.ensures.answer c.run-answer.ensures.words c.put_head.ensures.number c.put_head.ensures.words
