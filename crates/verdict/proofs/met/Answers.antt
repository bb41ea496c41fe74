-- `met` meets its contract: the share, then the lapses.
use Rattle.verdict.proofs.met.Goals as goal

pub returns-then-reaches : goal.returns-then-reaches
returns-then-reaches c = simp (c.within_lapse_limit.ensures, ← c.reaches.ensures, c.if-reaches.true)
