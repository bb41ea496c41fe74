-- `fix_reader::read_from` meets its contract: what is not read has no time (`unread_is`), and a message takes its time (`read_at`).
use Rattle.std.proofs.Common.{◌≡◌, Some, ◌∙◌, sym, ap, arith, rules}
use Rattle.std.proofs.lemmas.Grind.{common_steps}
use Rattle.rules.specs.Answers.{number_of, accepted, refused}
use Rattle.rules.specs.declared.Timestamp.{Timestamp}
use Rattle.rules.specs.Dates.{moment_from, time_in}
use Rattle.rules.specs.MessageCalls.{message_in}
use Rattle.fix_reader.specs.Answers.{values_shown}
use Rattle.fix_dates.specs.Answers.{shown_moment}
use Rattle.fix_reader.proofs.Times.{read_timed, read_at, unread_is}
use Rattle.fix_reader.proofs.read_from.Goals as goal

pub returns-in_err-message : goal.returns-in_err-message
returns-in_err-message c =
    let u = unread_is c.args.start.now c.args.bytes.now (number_of c.in_err-message.field-0.0) c.in_err-message.ensures in
    grind (arith, common_steps)

pub after-requires : goal.after-requires
after-requires c = rw c.time.ensures (read_timed c.args.bytes.now (values_shown c.in_ok-message.message) (sym c.in_ok-message.ensures))

pub returns-in_err-when : goal.returns-in_err-when
returns-in_err-when c =
    let w = c.in_err-when.ensures ∙ ap (λ (t : Timestamp). moment_from (time_in c.args.start.now) (Some t)) c.time.ensures in
    let u : refused (number_of c.in_err-when.field-0.0) ≡ message_in c.args.start.now c.args.bytes.now =
    read_at c.args.start.now c.args.bytes.now (values_shown c.in_ok-message.message) (refused (number_of c.in_err-when.field-0.0)) c.in_ok-message.ensures w in
    grind (arith, common_steps)

pub returns : goal.returns
returns c =
    read_at c.args.start.now c.args.bytes.now (values_shown c.in_ok-message.message) (accepted (shown_moment c.in_ok-when.when)) c.in_ok-message.ensures
    (c.in_ok-when.ensures ∙ ap (λ (t : Timestamp). moment_from (time_in c.args.start.now) (Some t)) c.time.ensures)
