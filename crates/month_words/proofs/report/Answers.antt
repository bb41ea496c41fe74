-- The report, with the answer's words.
use Rattle.rules.specs.Calls.{Report}
use Rattle.month_words.proofs.Events.{shows_words}
use borrow.Author.Rules.{rules}
use Rattle.month_words.proofs.report.Goals as goal

pub returns : goal.returns
returns c =
    shows_words c.args.words.now Report _ c.put_report.new.answer c.report-report.ensures c.put_report.ensures
