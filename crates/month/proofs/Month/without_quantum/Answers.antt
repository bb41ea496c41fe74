-- Only the quantum goes.
use mathlib.Core.Path.{ap}
use mathlib.Core.Bool.{false}
use Rattle.quantum.specs.declared.Quantum.{Quantum}
use borrow.Author.Rules.{rules}
use Rattle.month.proofs.Month.without_quantum.Goals as goal

pub returns : goal.returns
returns c =
    let m = c.args.self in
    ap (λ (q : Quantum). record { running = false; place = 0; share = 0; allowed = 0; count = m.count; quantum = q; cells = m.cells }) c.idle-quantum.ensures
