-- What was found, and what the ids from here on will add, is what is looked for.
use Prim.Native.Nat.{ℕ, ◌+◌}
use mathlib.Core.Path.{subst, sym}
use native.Mathlib.Omega.{arith}
use borrow.Author.Rules.{rules}
use lib.Dec.{eqb}
use lib.ListN.{get_or}
use Rattle.order_side.proofs.Seen.{Passed, where_most, passed_one, passed_all}
use Rattle.order_side.proofs.scan.Goals as goal

pub loop-i-init : goal.loop-i-init
loop-i-init c = (omega arith, omega arith, omega arith, omega arith)

pub overflow_add-found : goal.overflow_add-found
overflow_add-found c =
    let a = c.args in
    omega (arith, c.volume_where-found.ensures, where_most (eqb (get_or a.ids.now c.loop-i.i 0) a.id) (c.loop-i.i + 1))

pub loop-i-preserved : goal.loop-i-preserved
loop-i-preserved c =
    let a = c.args in
    let i = c.loop-i.i in
    subst (λ (f : ℕ). Passed a.id a.ids.now (c.loop-i.found + f) (i + 1 + 1) (i + 1)) (sym c.volume_where-found.ensures)
    (passed_one a.id c.loop-i.found (i + 1) i a.ids.now (omega arith) (omega arith) c.loop-i.invariant)

pub returns : goal.returns
returns c = passed_all c.args.id c.loop-i.found (c.loop-i.i + 1) c.loop-i.i c.args.ids.now c.loop-i-test.false c.loop-i.invariant
