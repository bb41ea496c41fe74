-- With none open 7; else what the quantum answers.
use mathlib.Core.Path.{sym, subst}
use borrow.Author.Tests.{not-true, not-false}
use Rattle.rules.specs.Calls.{Send}
use Rattle.fix_events.specs.Answers.{Answered}
use Rattle.fix_events.proofs.Answers.{quantum_reached, send_idle, sent}
use borrow.Author.Rules.{rules}
use Rattle.fix_events.proofs.send.Goals as goal

pub returns-then-not-running : goal.returns-then-not-running
returns-then-not-running c =
    subst (Answered c.args.quantum c.args.running (Send c.args.e)) (sym c.refused.ensures)
    (send_idle c.args.quantum c.args.running c.args.e (not-true _ c.if-not-running.true-raw))

pub send-sent-requires : goal.send-sent-requires
send-sent-requires c = quantum_reached c.args.quantum c.args.running c.requires

pub returns : goal.returns
returns c =
    sent c.args.quantum c.args.running c.args.e c.send-sent.result (not-false _ c.if-not-running.false-raw) c.send-sent.ensures
