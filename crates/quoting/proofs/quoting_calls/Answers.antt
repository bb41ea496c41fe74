-- The list that runs, or the refusal.
use mathlib.Core.Path.{refl}
use Rattle.std.specs.Prelude.{Ok, Err}
use Rattle.quoting.proofs.Lists.{list_long, list_answered}
use Rattle.quoting.proofs.quoting_calls.Goals as goal

pub returns-then-calls-ge17179869184 : goal.returns-then-calls-ge17179869184
returns-then-calls-ge17179869184 c =
    let a = c.args in
    list_long a.calls.now a.answers.now c.refused.result c.if-calls-ge17179869184.true c.refused.ensures

pub returns-in-Ok : goal.returns-in-Ok
returns-in-Ok c =
    let a = c.args in
    list_answered a.calls.now a.answers.now _ c.if-calls-ge17179869184.false c.run.new.answers c.run.result c.run.ensures (Ok c.in-Ok.list) c.in-Ok.is refl

pub returns-in-Err : goal.returns-in-Err
returns-in-Err c =
    let a = c.args in
    list_answered a.calls.now a.answers.now _ c.if-calls-ge17179869184.false c.run.new.answers c.run.result c.run.ensures _ c.in-Err.is c.refused-in-Err.ensures
