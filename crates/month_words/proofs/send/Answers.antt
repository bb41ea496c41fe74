-- What the month's words answer, with the answer's words.
use mathlib.Core.Path.{refl}
use Rattle.rules.specs.Calls.{Send}
use Rattle.month_words.proofs.Events.{changes-shown}
use Rattle.month_words.proofs.Hints.{changes_leave}
use borrow.Author.Rules.{rules}
use Rattle.month_words.proofs.send.Goals as goal

pub returns : goal.returns
returns c =
    λ e f. (
      changes-shown c.args.words.now (Send e) c.send-n.new.words c.put_number.new.answer c.send-n.result (c.send-n.ensures.0 e f) c.put_number.ensures,
      changes_leave c.args.words.now (Send e) c.send-n.new.words c.send-n.result c.args.hints.now c.send-n.new.hints refl (c.send-n.ensures.0 e f) c.send-n.ensures.1,
    )
