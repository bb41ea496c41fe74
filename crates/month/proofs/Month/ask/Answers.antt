-- What amend would answer, read off the quantum with it taken; the month stays.
use Rattle.std.proofs.Common.{Err, Ok}
use borrow.Author.Tests.{not-true, not-false}
use Rattle.rules.specs.declared.Amendment.{Amendment}
use Rattle.rules.specs.declared.Refusal.TheVariants.{NoQuantumOpen}
use Rattle.rules.specs.Calls.{Ask}
use Rattle.month.proofs.Fields.{quantum_reached}
use Rattle.month.proofs.Asks.{ask_idle, ask_refused, ask_reached, ask_done, ask_handed}
use borrow.Author.Rules.{rules}
use Rattle.month.proofs.Month.ask.Goals as goal

pub returns-then-not-self : goal.returns-then-not-self
returns-then-not-self c =
    let named : Amendment = record { t = c.args.t; id = c.args.id; price = c.args.price; volume = c.args.volume } in
    ask_handed c.args.self (Ask (named)) c.asked.result (Err NoQuantumOpen) c.asked.ensures
    (ask_idle c.args.self (named) (not-true _ c.if-not-self.true))

pub send-sent-requires : goal.send-sent-requires
send-sent-requires c = quantum_reached c.args.self c.requires

pub preview-shown-requires : goal.preview-shown-requires
preview-shown-requires c =
    let named : Amendment = record { t = c.args.t; id = c.args.id; price = c.args.price; volume = c.args.volume } in
    let before = quantum_reached c.args.self c.requires in
    let after =
    ask_reached c.args.self (named) c.send-sent.result (not-false _ c.if-not-self.false) c.send-sent.ensures c.in-Ok.is c.requires in
    search (rules, before, after)

pub returns-in-Ok : goal.returns-in-Ok
returns-in-Ok c =
    let named : Amendment = record { t = c.args.t; id = c.args.id; price = c.args.price; volume = c.args.volume } in
    ask_handed c.args.self (Ask (named)) c.asked-in-Ok.result (Ok c.preview-shown.result) c.asked-in-Ok.ensures
    (ask_done c.args.self (named) c.send-sent.result (not-false _ c.if-not-self.false) c.send-sent.ensures c.in-Ok.is
    c.preview-shown.result c.preview-shown.ensures)

pub returns-in-Err : goal.returns-in-Err
returns-in-Err c =
    let named : Amendment = record { t = c.args.t; id = c.args.id; price = c.args.price; volume = c.args.volume } in
    ask_handed c.args.self (Ask (named)) c.asked-in-Err.result _ c.asked-in-Err.ensures
    (ask_refused c.args.self (named) c.send-sent.result (not-false _ c.if-not-self.false) c.send-sent.ensures _ c.in-Err.is)
