-- The words up to i are copied.
use native.Mathlib.Omega.{arith}
use mathlib.Core.Path.{refl, ◌∙◌}
use lib.ListN.{get_or, length-set}
use Rattle.lent.proofs.Parts.{copied_on, copied_all}
use borrow.Author.Rules.{rules}
use Rattle.c_answers.proofs.copy.Goals as goal

pub loop-i-init : goal.loop-i-init
loop-i-init c = (omega arith, refl, search rules, refl)

pub bounds-to-i : goal.bounds-to-i
bounds-to-i c =
    let l = c.loop-i in
    omega (arith, l.invariant.1, l.invariant.2)

pub loop-i-preserved : goal.loop-i-preserved
loop-i-preserved c =
    let l = c.loop-i in
    let a = c.args in (
      omega arith,
      l.invariant.1,
      length-set l.to l.i (get_or a.from.now l.i 0) ∙ l.invariant.2,
      copied_on l.to a.from.now l.i l.invariant.2 (omega (arith, l.invariant.1)) l.invariant.3,
    )

pub returns : goal.returns
returns c =
    let l = c.loop-i in
    let a = c.args in
    copied_all l.to a.from.now l.i l.invariant.2 (omega (arith, l.invariant.0, l.invariant.1)) l.invariant.3
