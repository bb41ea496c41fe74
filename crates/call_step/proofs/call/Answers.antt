-- `call_step::call` meets its contract: each call by the month's promise of it (`told`).
use mathlib.Core.Path.{ap}
use Rattle.rules.specs.Answers.{cell, asked, outlook}
use Rattle.call_step.specs.Blocks.{reply_of}
use Rattle.call_step.proofs.Performing.{told, shown_by}
use Rattle.words.specs.Bytes.{words_in}
use Rattle.call_step.proofs.call.Goals as goal

pub returns-in-Open : goal.returns-in-Open
returns-in-Open c = told (words_in c.args.bytes.now) c.in-Open.is c.«open».ensures c.tell.ensures

pub returns-in-Send : goal.returns-in-Send
returns-in-Send c = told (words_in c.args.bytes.now) c.in-Send.is c.send.ensures c.tell-in-Send.ensures

pub returns-in-Message : goal.returns-in-Message
returns-in-Message c = told (words_in c.args.bytes.now) c.in-Message.is c.message.ensures c.tell-in-Message.ensures

pub returns-in-Ask : goal.returns-in-Ask
returns-in-Ask c = told (words_in c.args.bytes.now) c.in-Ask.is c.ask.ensures.1 (c.show.ensures.0, c.show.ensures.1, shown_by _ _ asked _ (λ x r e. ap reply_of e) c.show.ensures.2)

pub returns-in-Commit : goal.returns-in-Commit
returns-in-Commit c = told (words_in c.args.bytes.now) c.in-Commit.is c.commit.ensures c.tell-in-Commit.ensures

pub returns-in-Close : goal.returns-in-Close
returns-in-Close c = told (words_in c.args.bytes.now) c.in-Close.is c.close.ensures c.tell-in-Close.ensures

pub returns-in-Drop : goal.returns-in-Drop
returns-in-Drop c = told (words_in c.args.bytes.now) c.in-Drop.is c.drop.ensures c.tell-in-Drop.ensures

pub returns-in-Charge : goal.returns-in-Charge
returns-in-Charge c = told (words_in c.args.bytes.now) c.in-Charge.is c.charge.ensures c.tell-in-Charge.ensures

pub returns-in-Withdraw : goal.returns-in-Withdraw
returns-in-Withdraw c = told (words_in c.args.bytes.now) c.in-Withdraw.is c.withdraw.ensures c.tell-in-Withdraw.ensures

pub returns-in-Look : goal.returns-in-Look
returns-in-Look c = told (words_in c.args.bytes.now) c.in-Look.is c.look.ensures.1 (c.show-in-Look.ensures.0, c.show-in-Look.ensures.1, shown_by _ _ cell _ (λ x r e. ap reply_of e) c.show-in-Look.ensures.2)

pub returns-in-Report : goal.returns-in-Report
returns-in-Report c = told (words_in c.args.bytes.now) c.in-Report.is c.report.ensures.1 c.tell_report.ensures

pub returns-in-Outlook : goal.returns-in-Outlook
returns-in-Outlook c = told (words_in c.args.bytes.now) c.in-Outlook.is c.outlook.ensures.1 (c.show-in-Outlook.ensures.0, c.show-in-Outlook.ensures.1, shown_by _ _ outlook _ (λ x r e. ap reply_of e) c.show-in-Outlook.ensures.2)
