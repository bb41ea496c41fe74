-- Whether there are calls to count.
use Rattle.std.proofs.Common.{ap, ◌∙◌, is_some}
use Rattle.standing.proofs.Reading.{list_is}
use Rattle.standing.proofs.is_list.Goals as goal

pub returns : goal.returns
returns c = c.is_some.ensures ∙ ap is_some c.measure.ensures ∙ list_is c.args.words.now
