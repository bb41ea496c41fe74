-- Each case by its tests.
use Rattle.std.proofs.Common.{Some}
use Prim.Native.Nat.{ℕ}
use mathlib.Core.Path.{ap}
use borrow.Author.Rules.{rules}
use Rattle.rules.specs.Units.{millis}
use Rattle.outlook.proofs.by.Goals as goal

pub returns-then-rest : goal.returns-then-rest
returns-then-rest c = simp c.if-rest.true

pub returns-then-waits : goal.returns-then-waits
returns-then-waits c =
    simp (c.if-rest.false, c.if-possible.true, c.if-waits.true)
    (ap (λ (n : ℕ). Some (millis n)) c.start.ensures)

pub returns-then-possible : goal.returns-then-possible
returns-then-possible c = simp (c.if-rest.false, c.if-possible.true, c.if-waits.false)

pub returns : goal.returns
returns c = simp (c.if-rest.false, c.if-possible.false)
