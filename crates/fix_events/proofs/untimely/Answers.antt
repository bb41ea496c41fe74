-- With none open 7; else the refusal.
use Rattle.std.specs.Prelude.{if◌then◌else◌}
use mathlib.Core.Path.{ap, sym, ◌∙◌}
use mathlib.Core.Bool.{Bool}
use borrow.Author.Tests.{not-true, not-false}
use Rattle.rules.specs.declared.Refusal.TheVariants.{NoQuantumOpen}
use Rattle.fix_events.specs.Internal.{unchanged}
use borrow.Author.Rules.{rules}
use Rattle.fix_events.proofs.untimely.Goals as goal

pub returns-then-not-running : goal.returns-then-not-running
returns-then-not-running c =
    let e = not-true c.args.running c.if-not-running.true-raw in
    c.refused.ensures ∙ ap (λ (k : Bool). unchanged c.args.quantum (if k then c.args.refusal else NoQuantumOpen)) (sym e)

pub returns : goal.returns
returns c =
    let e = not-false c.args.running c.if-not-running.false-raw in
    c.refused-2.ensures ∙ ap (λ (k : Bool). unchanged c.args.quantum (if k then c.args.refusal else NoQuantumOpen)) (sym e)
