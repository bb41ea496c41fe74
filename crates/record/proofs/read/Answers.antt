-- A record cut short, a good one, and another.
use borrow.Author.Rules.{rules}
use mathlib.Core.Path.{sym, ◌∙◌}
use Rattle.record.proofs.Reading.{cut_short, says, says_not}
use Rattle.record.proofs.read.Goals as goal

pub returns-then-bytes-lt20 : goal.returns-then-bytes-lt20
returns-then-bytes-lt20 c = cut_short c.args.bytes.now (search rules)

pub returns-then-is_good : goal.returns-then-is_good
returns-then-is_good c = says c.fields_of-f.result (sym c.is_good.ensures ∙ c.if-is_good.true) c.event_of.ensures ∙ c.fields_of-f.ensures.read

pub returns : goal.returns
returns c = says_not c.fields_of-f.result (sym c.is_good.ensures ∙ c.if-is_good.false) ∙ c.fields_of-f.ensures.read
