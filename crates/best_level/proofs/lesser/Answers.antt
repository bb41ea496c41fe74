-- By its test.
use Prim.Native.Nat.{min}
use native.Mathlib.Omega.{arith}
use mathlib.Core.Path.{◌≡◌, sym, ◌∙◌}
use borrow.Author.Rules.{rules}
use borrow.Author.Tests.{ltb-true, ltb-false}
use Rattle.best_level.proofs.lesser.Goals as goal

pub returns-then-under : goal.returns-then-under
returns-then-under c =
    let a = c.args in
    let less = ltb-true a.b a.a (sym c.under.ensures ∙ c.if-under.true) in
    let is : a.b ≡ min a.a a.b = omega (arith, less) in
    is

pub returns : goal.returns
returns c =
    let a = c.args in
    let less = ltb-false a.b a.a (sym c.under.ensures ∙ c.if-under.false) in
    let is : a.a ≡ min a.a a.b = omega (arith, less) in
    is
