-- By why the call is not made.
use Rattle.month_words.specs.declared.CallError.TheVariants.{WordsShort, NoMonth, HintsShort, AnswerShort}
use Rattle.c_month.proofs.Months.{called_as}
use borrow.Author.Rules.{rules}
use Rattle.c_month.proofs.error_number.Goals as goal

pub returns-in-WordsShort : goal.returns-in-WordsShort
returns-in-WordsShort c =
    called_as c.args.error WordsShort _ c.short_at.result c.in-WordsShort.is c.short_at.ensures

pub returns-in-NoMonth : goal.returns-in-NoMonth
returns-in-NoMonth c =
    called_as c.args.error NoMonth _ c.no_month.result c.in-NoMonth.is c.no_month.ensures

pub returns-in-HintsShort : goal.returns-in-HintsShort
returns-in-HintsShort c =
    called_as c.args.error HintsShort _ c.short_at-in-HintsShort.result c.in-HintsShort.is c.short_at-in-HintsShort.ensures

pub returns-in-AnswerShort : goal.returns-in-AnswerShort
returns-in-AnswerShort c =
    called_as c.args.error AnswerShort _ c.short_at-in-AnswerShort.result c.in-AnswerShort.is c.short_at-in-AnswerShort.ensures
