-- `fix_scan::put_wrong` meets its contract: all words are 0 but the place and 20.
use Prim.Native.Nat.{ℕ}
use mathlib.Core.Path.{ap, ◌∙◌}
use native.Mathlib.Omega.{arith}
use lib.ListN.{length, length-replicate, length-set}
use Rattle.fix_scan.proofs.Rowing.{wrong-put}
use Rattle.fix_scan.proofs.put_wrong.Goals as goal

pub bounds-row-0 : goal.bounds-row-0
bounds-row-0 c = omega (arith, c.requires.0, ap length c.clear.ensures ∙ length-replicate {A = ℕ} (length c.args.row.now) 0)

pub bounds-row-2 : goal.bounds-row-2
bounds-row-2 c = omega (arith, c.requires.0, ap length c.clear.ensures ∙ length-replicate {A = ℕ} (length c.args.row.now) 0, length-set c.clear.new.words 0 c.word.result)

pub returns : goal.returns
returns c = wrong-put c.clear.new.words (length c.args.row.now) c.args.at c.word.result c.requires.0 c.clear.ensures c.word.ensures
