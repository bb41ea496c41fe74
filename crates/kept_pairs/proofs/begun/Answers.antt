-- By whether the last pair reaches the time.
use Rattle.kept_pairs.proofs.Pairs.{begun_last, begun_new}
use Rattle.kept_pairs.proofs.begun.Goals as goal

pub returns-then-reaches : goal.returns-then-reaches
returns-then-reaches c = let a = c.args in begun_last a.marks a.from.0 a.reaches c.if-reaches.true

pub returns : goal.returns
returns c = let a = c.args in begun_new a.marks a.from.0 a.reaches c.if-reaches.false
