-- A call that shows something leaves the words; of the others `change` says what they leave.
use mathlib.Core.Path.{sym, ap, subst, ◌∙◌}
use borrow.Enum.Refused.{opened}
use Rattle.rules.specs.Calls.{Call}
use Rattle.words.specs.Bytes.{words_in}
use Rattle.call_blocks.specs.Decoded.{call_with}
use Rattle.call_blocks.specs.Kinds.{call_of}
use Rattle.month_words.proofs.Events.{shows_performs, changes-shown, changes_performs}
use Rattle.month_words.proofs.Hints.{untouched, of_call}
use Rattle.month_words.proofs.Tags.{tags_unshown}
use borrow.Author.Rules.{rules}
use Rattle.month_words.proofs.other.Goals as goal

pub returns-in-Look : goal.returns-in-Look
returns-in-Look c =
    let k = sym (ap (call_with (words_in c.args.bytes.now)) c.in-Look.is) ∙ c.decode-said.ensures in
    (shows_performs c.args.words.now c.args.answer.now c.args.bytes.now c.look.new.answer _ k c.look.ensures, untouched c.args.words.now (call_of (words_in c.args.bytes.now)) c.args.hints.now)

pub returns-in-Ask : goal.returns-in-Ask
returns-in-Ask c =
    let k = sym (ap (call_with (words_in c.args.bytes.now)) c.in-Ask.is) ∙ c.decode-said.ensures in (
      shows_performs c.args.words.now c.args.answer.now c.args.bytes.now c.ask.new.answer _ k c.ask.ensures.0,
      of_call c.args.words.now _ (call_of (words_in c.args.bytes.now)) c.args.hints.now c.ask.new.hints k c.ask.ensures.1,
    )

pub returns-in-Report : goal.returns-in-Report
returns-in-Report c =
    let k = sym (ap (call_with (words_in c.args.bytes.now)) c.in-Report.is) ∙ c.decode-said.ensures in
    (shows_performs c.args.words.now c.args.answer.now c.args.bytes.now c.report.new.answer _ k c.report.ensures, untouched c.args.words.now (call_of (words_in c.args.bytes.now)) c.args.hints.now)

pub returns-in-Outlook : goal.returns-in-Outlook
returns-in-Outlook c =
    let k = sym (ap (call_with (words_in c.args.bytes.now)) c.in-Outlook.is) ∙ c.decode-said.ensures in
    (shows_performs c.args.words.now c.args.answer.now c.args.bytes.now c.outlook.new.answer _ k c.outlook.ensures, untouched c.args.words.now (call_of (words_in c.args.bytes.now)) c.args.hints.now)

pub returns-in_default : goal.returns-in_default
returns-in_default c =
    let y = c.change-n.ensures (tags_unshown c.decode-said.result (opened c.in_default.in_default-own.keys5)) in (
      changes_performs c.args.words.now c.args.answer.now c.args.bytes.now c.change-n.new.words c.put_number.new.answer _ c.decode-said.ensures (changes-shown c.args.words.now _ c.change-n.new.words c.put_number.new.answer c.change-n.result y.0 c.put_number.ensures),
      of_call c.args.words.now _ (call_of (words_in c.args.bytes.now)) c.args.hints.now c.change-n.new.hints c.decode-said.ensures y.1,
    )
