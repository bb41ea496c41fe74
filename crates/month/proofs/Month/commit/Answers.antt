-- What amend answers, then the ticket.
use Rattle.std.proofs.Common.{Err}
use mathlib.Core.Path.{sym, ◌∙◌}
use Rattle.rules.specs.declared.Amendment.{Amendment}
use Rattle.rules.specs.declared.Refusal.TheVariants.{WrongTicket}
use Rattle.rules.specs.Calls.{Commit}
use Rattle.month.proofs.Answers.{handed}
use Rattle.month.proofs.Asks.{commit_refused, commit_ticket, commit_done}
use borrow.Author.Rules.{rules}
use Rattle.month.proofs.Month.commit.Goals as goal

pub returns-then-present : goal.returns-then-present
returns-then-present c =
    let named : Amendment = record { t = c.args.t; id = c.args.id; price = c.args.price; volume = c.args.volume } in
    commit_done c.args.self (named) c.args.ticket c.amend-amended.result.month c.amend-amended.result.answer c.amend-amended.ensures
    c.in-Ok.is (sym c.is_present-present.ensures ∙ c.if-present.true)

pub returns-else-present : goal.returns-else-present
returns-else-present c =
    let named : Amendment = record { t = c.args.t; id = c.args.id; price = c.args.price; volume = c.args.volume } in
    handed c.args.self (Commit (named) c.args.ticket) c.refused.result c.args.self (Err WrongTicket) c.refused.ensures
    (commit_ticket c.args.self (named) c.args.ticket c.amend-amended.result.month c.amend-amended.result.answer c.amend-amended.ensures
    c.in-Ok.is (sym c.is_present-present.ensures ∙ c.if-present.false))

pub returns-in-Err : goal.returns-in-Err
returns-in-Err c =
    let named : Amendment = record { t = c.args.t; id = c.args.id; price = c.args.price; volume = c.args.volume } in
    handed c.args.self (Commit (named) c.args.ticket) c.refused-in-Err.result c.args.self _ c.refused-in-Err.ensures
    (commit_refused c.args.self (named) c.args.ticket c.amend-amended.result.month c.amend-amended.result.answer c.amend-amended.ensures _
    c.in-Err.is)
