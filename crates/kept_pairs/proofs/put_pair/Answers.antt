-- Both words where they fit, or none.
use native.Mathlib.Omega.{arith}
use lib.ListN.{length-set}
use Rattle.kept_pairs.proofs.Pairs.{put-fits, put_not}
use Rattle.kept_pairs.proofs.put_pair.Goals as goal

pub bounds-buffer-at-then-at-buffer : goal.bounds-buffer-at-then-at-buffer
bounds-buffer-at-then-at-buffer c = simp length-set (omega arith)

pub returns-then-at-buffer : goal.returns-then-at-buffer
returns-then-at-buffer c =
    put-fits c.args.buffer.now c.args.n c.args.start c.args.length (omega arith)

pub returns-else-at-buffer : goal.returns-else-at-buffer
returns-else-at-buffer c =
    put_not c.args.buffer.now c.args.n c.args.start c.args.length (omega arith)
