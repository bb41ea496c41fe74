-- `call_blocks::decode` meets its contract: the arm of each kind by the call of that kind (`by_kind`); a word that says no kind is a report.
use mathlib.Core.Path.{refl, ◌∙◌}
use Rattle.words.specs.Bytes.{words_in}
use Rattle.call_blocks.specs.declared.Kind.TheVariants as K
use Rattle.call_blocks.proofs.Decoding.{by_kind, open_is, strike_is, other_is}
use Rattle.call_blocks.proofs.decode.Goals as goal

pub returns-in_default : goal.returns-in_default
returns-in_default c = other_is (words_in c.args.bytes.now) _ refl c.in_default.ensures.1

pub returns-in-Open : goal.returns-in-Open
returns-in-Open c = open_is (words_in c.args.bytes.now) c.row_end-behind.result c.row_end-behind.ensures.0 c.«open».ensures c.opening_at.ensures ∙ by_kind (words_in c.args.bytes.now) c.in-Ok.kind K.Open c.in-Ok.ensures c.in-Open.is

pub returns-in-Add : goal.returns-in-Add
returns-in-Add c = c.add.ensures ∙ by_kind (words_in c.args.bytes.now) c.in-Ok.kind K.Add c.in-Ok.ensures c.in-Add.is

pub returns-in-Amend : goal.returns-in-Amend
returns-in-Amend c = c.amend.ensures ∙ by_kind (words_in c.args.bytes.now) c.in-Ok.kind K.Amend c.in-Ok.ensures c.in-Amend.is

pub returns-in-Cancel : goal.returns-in-Cancel
returns-in-Cancel c = c.cancel.ensures ∙ by_kind (words_in c.args.bytes.now) c.in-Ok.kind K.Cancel c.in-Ok.ensures c.in-Cancel.is

pub returns-in-Deal : goal.returns-in-Deal
returns-in-Deal c = c.deal.ensures ∙ by_kind (words_in c.args.bytes.now) c.in-Ok.kind K.Deal c.in-Ok.ensures c.in-Deal.is

pub returns-in-Tick : goal.returns-in-Tick
returns-in-Tick c = c.tick.ensures ∙ by_kind (words_in c.args.bytes.now) c.in-Ok.kind K.Tick c.in-Ok.ensures c.in-Tick.is

pub returns-in-Close : goal.returns-in-Close
returns-in-Close c = c.close.ensures ∙ by_kind (words_in c.args.bytes.now) c.in-Ok.kind K.Close c.in-Ok.ensures c.in-Close.is

pub returns-in-Drop : goal.returns-in-Drop
returns-in-Drop c = by_kind (words_in c.args.bytes.now) c.in-Ok.kind K.Drop c.in-Ok.ensures c.in-Drop.is

pub returns-in-Charge : goal.returns-in-Charge
returns-in-Charge c = c.charge.ensures ∙ by_kind (words_in c.args.bytes.now) c.in-Ok.kind K.Charge c.in-Ok.ensures c.in-Charge.is

pub returns-in-Withdraw : goal.returns-in-Withdraw
returns-in-Withdraw c = c.withdraw.ensures ∙ by_kind (words_in c.args.bytes.now) c.in-Ok.kind K.Withdraw c.in-Ok.ensures c.in-Withdraw.is

pub returns-in-Look : goal.returns-in-Look
returns-in-Look c = c.look.ensures ∙ by_kind (words_in c.args.bytes.now) c.in-Ok.kind K.Look c.in-Ok.ensures c.in-Look.is

pub returns-in-Report : goal.returns-in-Report
returns-in-Report c = by_kind (words_in c.args.bytes.now) c.in-Ok.kind K.Report c.in-Ok.ensures c.in-Report.is

pub returns-in-OpenStrike : goal.returns-in-OpenStrike
returns-in-OpenStrike c = strike_is (words_in c.args.bytes.now) c.row_end-behind.result c.row_end-behind.ensures.0 c.open-in-OpenStrike.ensures c.strike_opening_at.ensures ∙ by_kind (words_in c.args.bytes.now) c.in-Ok.kind K.OpenStrike c.in-Ok.ensures c.in-OpenStrike.is

pub returns-in-Ask : goal.returns-in-Ask
returns-in-Ask c = c.ask.ensures ∙ by_kind (words_in c.args.bytes.now) c.in-Ok.kind K.Ask c.in-Ok.ensures c.in-Ask.is

pub returns-in-Commit : goal.returns-in-Commit
returns-in-Commit c = c.commit.ensures ∙ by_kind (words_in c.args.bytes.now) c.in-Ok.kind K.Commit c.in-Ok.ensures c.in-Commit.is

pub returns-in-Message : goal.returns-in-Message
returns-in-Message c = by_kind (words_in c.args.bytes.now) c.in-Ok.kind K.Message c.in-Ok.ensures c.in-Message.is

pub returns-in-Outlook : goal.returns-in-Outlook
returns-in-Outlook c = by_kind (words_in c.args.bytes.now) c.in-Ok.kind K.Outlook c.in-Ok.ensures c.in-Outlook.is
