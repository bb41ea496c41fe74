-- `call_blocks::due_words` meets its contract, kind by kind (`kind_due`); a word that says no kind is due no words.
use Prim.Native.Nat.{ℕ, ◌+◌, ◌/◌}
use mathlib.Core.Path.{refl, ap, ◌∙◌}
use lib.ListN.{get_or}
use Rattle.words.specs.Bytes.{words_in}
use Rattle.call_blocks.specs.declared.Kind.TheVariants as K
use Rattle.call_blocks.specs.Kinds.{add_due, due}
use Rattle.call_blocks.proofs.Sizes.{kind_due, other-due}
use Rattle.call_blocks.proofs.due_words.Goals as goal

pub returns-in_default : goal.returns-in_default
returns-in_default c = other-due (get_or (words_in c.args.bytes.now) 0 0) c.in_default.ensures.1 (words_in c.args.bytes.now) refl

pub returns-in-Open : goal.returns-in-Open
unfolding due
returns-in-Open c = ap (λ (n : ℕ). 5 + n) c.word.ensures ∙ kind_due (words_in c.args.bytes.now) c.in-Ok.kind K.Open c.in-Ok.ensures c.in-Open.is

pub returns-in-Add : goal.returns-in-Add
unfolding due
returns-in-Add c = c.add_due.ensures ∙ ap add_due c.word-in-Add.ensures ∙ kind_due (words_in c.args.bytes.now) c.in-Ok.kind K.Add c.in-Ok.ensures c.in-Add.is

pub returns-in-Amend : goal.returns-in-Amend
unfolding due
returns-in-Amend c = kind_due (words_in c.args.bytes.now) c.in-Ok.kind K.Amend c.in-Ok.ensures c.in-Amend.is

pub returns-in-Cancel : goal.returns-in-Cancel
unfolding due
returns-in-Cancel c = kind_due (words_in c.args.bytes.now) c.in-Ok.kind K.Cancel c.in-Ok.ensures c.in-Cancel.is

pub returns-in-Deal : goal.returns-in-Deal
unfolding due
returns-in-Deal c = kind_due (words_in c.args.bytes.now) c.in-Ok.kind K.Deal c.in-Ok.ensures c.in-Deal.is

pub returns-in-Tick : goal.returns-in-Tick
unfolding due
returns-in-Tick c = kind_due (words_in c.args.bytes.now) c.in-Ok.kind K.Tick c.in-Ok.ensures c.in-Tick.is

pub returns-in-Close : goal.returns-in-Close
unfolding due
returns-in-Close c = kind_due (words_in c.args.bytes.now) c.in-Ok.kind K.Close c.in-Ok.ensures c.in-Close.is

pub returns-in-Drop : goal.returns-in-Drop
unfolding due
returns-in-Drop c = kind_due (words_in c.args.bytes.now) c.in-Ok.kind K.Drop c.in-Ok.ensures c.in-Drop.is

pub returns-in-Charge : goal.returns-in-Charge
unfolding due
returns-in-Charge c = kind_due (words_in c.args.bytes.now) c.in-Ok.kind K.Charge c.in-Ok.ensures c.in-Charge.is

pub returns-in-Withdraw : goal.returns-in-Withdraw
unfolding due
returns-in-Withdraw c = kind_due (words_in c.args.bytes.now) c.in-Ok.kind K.Withdraw c.in-Ok.ensures c.in-Withdraw.is

pub returns-in-Look : goal.returns-in-Look
unfolding due
returns-in-Look c = kind_due (words_in c.args.bytes.now) c.in-Ok.kind K.Look c.in-Ok.ensures c.in-Look.is

pub returns-in-Report : goal.returns-in-Report
unfolding due
returns-in-Report c = kind_due (words_in c.args.bytes.now) c.in-Ok.kind K.Report c.in-Ok.ensures c.in-Report.is

pub returns-in-OpenStrike : goal.returns-in-OpenStrike
unfolding due
returns-in-OpenStrike c = ap (λ (n : ℕ). 8 + n) c.word-in-OpenStrike.ensures ∙ kind_due (words_in c.args.bytes.now) c.in-Ok.kind K.OpenStrike c.in-Ok.ensures c.in-OpenStrike.is

pub returns-in-Ask : goal.returns-in-Ask
unfolding due
returns-in-Ask c = kind_due (words_in c.args.bytes.now) c.in-Ok.kind K.Ask c.in-Ok.ensures c.in-Ask.is

pub returns-in-Commit : goal.returns-in-Commit
unfolding due
returns-in-Commit c = kind_due (words_in c.args.bytes.now) c.in-Ok.kind K.Commit c.in-Ok.ensures c.in-Commit.is

pub returns-in-Message : goal.returns-in-Message
unfolding due
returns-in-Message c = c.message_due.ensures ∙ (λ i. 3 + (c.word-in-Message.ensures i + c.word-in-Message-2.ensures i + 3) / 4) ∙ kind_due (words_in c.args.bytes.now) c.in-Ok.kind K.Message c.in-Ok.ensures c.in-Message.is

pub returns-in-Outlook : goal.returns-in-Outlook
unfolding due
returns-in-Outlook c = kind_due (words_in c.args.bytes.now) c.in-Ok.kind K.Outlook c.in-Ok.ensures c.in-Outlook.is
