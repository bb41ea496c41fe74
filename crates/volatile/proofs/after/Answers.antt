-- Each answer by its tests.
use mathlib.Core.Path.{◌≡◌, refl, ◌∙◌}
use mathlib.Core.Bool.{true, false}
use borrow.Author.Tests.{lt-ltb, le-ltb, lt-leb, le-leb}
use Rattle.volatile.specs.Internal.{ends}
use Rattle.volatile.proofs.Steps.{none_after, ended, goes_on}
use Rattle.volatile.proofs.after.Goals as goal
use Rattle.volatile.proofs.after.Goals.{else-period-day-via-then-period-day+else-sigma-period, else-period-day-via-else-period-day}

pub returns-in_default : goal.returns-in_default
returns-in_default c =
    let a = c.args in
    rw c.in_default.is (c.begun.ensures ∙ none_after a.day a.sigma a.threshold a.sum)

pub returns-then-sigma-period : goal.returns-then-sigma-period
returns-then-sigma-period c =
    let a = c.args in
    let p = c.in-Some.period in
    let e : ends p a.day a.sigma ≡ true = rw (lt-ltb p.first a.day c.if-period-day.true, le-leb a.sigma p.average c.if-sigma-period.true) refl in
    rw c.in-Some.is (ended p a.day a.sigma a.threshold a.sum e)

pub returns : goal.returns
returns c =
    let a = c.args in
    let p = c.in-Some.period in
    let e : ends p a.day a.sigma ≡ false =
    elim c.else-period-day.branch [
      | else-period-day-via-then-period-day+else-sigma-period w ↦
          rw (lt-ltb p.first a.day w.if-period-day.true, lt-leb a.sigma p.average w.if-sigma-period.false) refl
      | else-period-day-via-else-period-day w ↦ rw (le-ltb p.first a.day w.if-period-day.false) refl
    ] in
    rw c.in-Some.is (goes_on p a.day a.sigma a.threshold a.sum e)
