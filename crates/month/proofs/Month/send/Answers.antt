-- With none open 7; else what the quantum answers.
use Rattle.std.proofs.Common.{Err, Ok}
use borrow.Author.Tests.{not-true, not-false}
use Rattle.rules.specs.declared.Refusal.TheVariants.{NoQuantumOpen}
use Rattle.rules.specs.Calls.{Send}
use Rattle.month.proofs.Answers.{handed}
use Rattle.month.proofs.Fields.{quantum_reached}
use Rattle.month.proofs.Calls.{send_idle, send_refused, send_done}
use borrow.Author.Rules.{rules}
use Rattle.month.proofs.Month.send.Goals as goal

pub returns-then-not-self : goal.returns-then-not-self
returns-then-not-self c =
    handed c.args.self (Send c.args.e) c.refused.result c.args.self (Err NoQuantumOpen) c.refused.ensures
    (send_idle c.args.self c.args.e (not-true _ c.if-not-self.true))

pub send-sent-requires : goal.send-sent-requires
send-sent-requires c = quantum_reached c.args.self c.requires

pub returns-in-Ok : goal.returns-in-Ok
returns-in-Ok c =
    let m = c.args.self in
    let on = not-false _ c.if-not-self.false in
    handed m (Send c.args.e) c.accepted.result _ (Ok tt) c.accepted.ensures
    (send_done m c.args.e c.send-sent.result on c.send-sent.ensures c.in-Ok.is)

pub returns-in-Err : goal.returns-in-Err
returns-in-Err c =
    let m = c.args.self in
    let on = not-false _ c.if-not-self.false in
    handed m (Send c.args.e) c.refused-in-Err.result m _ c.refused-in-Err.ensures
    (send_refused m c.args.e c.send-sent.result on c.send-sent.ensures _ c.in-Err.is)
