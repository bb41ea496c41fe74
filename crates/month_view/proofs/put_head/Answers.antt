-- Three parts, one after the other.
use native.Mathlib.Omega.{arith}
use mathlib.Core.Path.{ap, ◌∙◌}
use mathlib.Core.List.{◌++◌}
use lib.ListN.{length, drop, length-drop}
use lib.Seq.{length-take-le}
use Rattle.month_view.proofs.Heads.{head-laid}
use borrow.Author.Rules.{rules}
use Rattle.month_view.proofs.put_head.Goals as goal

pub returns : goal.returns
returns c =
    head-laid c.args.into.now c.copy.new.to c.copy-2.new.to c.copy-3.new.to c.requires.1 (ap length c.copy.ensures)
    (ap length c.copy-2.ensures ∙ length-take-le 12 (drop 586 c.args.quantum.now) (omega (arith, c.requires.0, length-drop 586 c.args.quantum.now)))
    ∙ (λ i. c.copy.ensures i ++ (c.copy-2.ensures i ++ c.copy-3.ensures i))
